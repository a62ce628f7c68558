-- One item more that a mark needs, or one less.
use Rattle.std.proofs.Common.{◌≡◌, ℕ, zero, suc, ◌+◌, ◌-◌, ◌≤◌, ◌<◌, List, [], ◌∷◌, ◌++◌, length, take, drop, map, min, slice_set, refl, sym, ◌∙◌, ap, subst, ⊎_elim, arith}
use Rattle.std.proofs.Math.Nat.{eq-or-lt_of_le}
use Rattle.std.proofs.lemmas.List.{drop-append-le, take-append-le, take-take, length-append, length-take, map-append, at_drop_all, take_all, drop_all, length-drop}
use Rattle.etx_stack.specs.declared.stack.Mark.{Mark}
use Rattle.etx_stack.specs.Undoing.{Stacked, put_back, undone, bound, at, IsGuarded, AreBelow, IsLive, IsBefore, IsSince, Keeps, SameUpTo}

module _ {T : Type 0} where
  pub undone-push : (es : List (ℕ × T)) (e : ℕ × T) (xs : List T) → undone (es ++ e ∷ []) xs ≡ undone es (put_back e xs)
  undone-push [] e xs = refl
  undone-push (f ∷ es) e xs = ap (put_back f) (undone-push es e xs)

  pub bound-push : (es : List (ℕ × T)) (e : ℕ × T) (g : ℕ) → bound g (es ++ e ∷ []) ≡ bound (e.0 + 1) es
  bound-push [] e g = refl
  bound-push (f ∷ es) e g = refl

  pub guarded-push : (es : List (ℕ × T)) (e : ℕ × T) (g : ℕ) → IsGuarded (e.0 + 1) es → e.0 ≤ g → IsGuarded g (es ++ e ∷ [])
  guarded-push [] e g h l = (l, tt)
  guarded-push (f ∷ es) e g h l = (subst (λ (n : ℕ). f.0 ≤ n) (sym (bound-push es e g)) h.0, guarded-push es e g h.1 l)

  pub guarded-pop : (es : List (ℕ × T)) (e : ℕ × T) (g : ℕ) → IsGuarded g (es ++ e ∷ []) → IsGuarded (e.0 + 1) es
  guarded-pop [] e g h = tt
  guarded-pop (f ∷ es) e g h = (subst (λ (n : ℕ). f.0 ≤ n) (bound-push es e g) h.0, guarded-pop es e g h.1)

  pub guarded-last : (es : List (ℕ × T)) (e : ℕ × T) (g : ℕ) → IsGuarded g (es ++ e ∷ []) → e.0 ≤ g
  guarded-last [] e g h = h.0
  guarded-last (f ∷ es) e g h = guarded-last es e g h.1

  bound-more : (es : List (ℕ × T)) (g h : ℕ) → g ≤ h → bound g es ≤ bound h es
  bound-more [] g h l = l
  bound-more (e ∷ es) g h l = omega arith

  pub guarded-more : (es : List (ℕ × T)) (g h : ℕ) → g ≤ h → IsGuarded g es → IsGuarded h es
  guarded-more [] g h l b = tt
  guarded-more (e ∷ es) g h l b = (omega (arith, b.0, bound-more es g h l), guarded-more es g h l b.1)

  below-same : (n g : ℕ) (xs ys : List T) → n ≤ g → take g ys ≡ take g xs → take n ys ≡ take n xs
  below-same n g xs ys l e = sym (take-take n g ys l) ∙ ap (take n) e ∙ take-take n g xs l

  -- a change above the guard changes nothing of what was
  undone-same : (es : List (ℕ × T)) (g n : ℕ) (xs ys : List T) → take g ys ≡ take g xs → IsGuarded g es → n ≤ bound g es → take n (undone es ys) ≡ take n (undone es xs)
  undone-same [] g n xs ys e b l = below-same n g xs ys l e
  undone-same (f ∷ es) g n xs ys e b l = ap (λ (zs : List T). take n (zs ++ f.1 ∷ [])) (undone-same es g f.0 xs ys e b.1 b.0)

  length-put_back : (e : ℕ × T) (xs : List T) → e.0 ≤ length xs → length (put_back e xs) ≡ e.0 + 1
  length-put_back e xs l = length-append (take e.0 xs) (e.1 ∷ []) ∙ ap (λ (n : ℕ). n + 1) (length-take e.0 xs) ∙ omega arith

  pub guard-put_back : (es : List (ℕ × T)) (e : ℕ × T) (g : ℕ) (xs : List T) → IsGuarded g (es ++ e ∷ []) → g ≤ length xs → e.0 + 1 ≤ length (put_back e xs)
  guard-put_back es e g xs b l = let le = guarded-last es e g b in let len = length-put_back e xs (omega arith) in omega arith

  guarded-drop : (n : ℕ) (es : List (ℕ × T)) (g : ℕ) → IsGuarded g es → IsGuarded g (drop n es)
  guarded-drop zero es g b = b
  guarded-drop (suc n) [] g b = tt
  guarded-drop (suc n) (e ∷ es) g b = guarded-drop n es g b.1

  pub Keeps-above : (old new : Stacked T) → new.taken ≡ old.taken → new.guard ≡ old.guard → IsGuarded old.guard old.taken → take old.guard new.items ≡ take old.guard old.items → Keeps old new
  Keeps-above old new et eg b e m live = record {
    live = record {
      there = subst (λ (es : List (ℕ × T)). m.taken ≤ length es) (sym et) live.there;
      low = subst (λ (es : List (ℕ × T)). m.len ≤ bound new.guard (drop m.taken es)) (sym et) (subst (λ (g : ℕ). m.len ≤ bound g (drop m.taken old.taken)) (sym eg) live.low);
      high = subst (λ (es : List (ℕ × T)). IsGuarded m.len (take m.taken es)) (sym et) live.high;
    };
    same = ap (λ (es : List (ℕ × T)). take m.len (undone (drop m.taken es) new.items)) et
        ∙ undone-same (drop m.taken old.taken) old.guard m.len old.items new.items e (guarded-drop m.taken old.taken old.guard b) live.low;
  }

  pub Keeps-self : (s : Stacked T) → Keeps s s
  Keeps-self s m live = record { live = live; same = refl }

  pub Keeps-needed : (old new : Stacked T) (e : ℕ × T) → new.taken ≡ old.taken ++ e ∷ [] → e.0 + 1 ≡ old.guard → put_back e new.items ≡ old.items → Keeps old new
  Keeps-needed old new e et eg ei m live = record {
    live = record {
      there = subst (λ (es : List (ℕ × T)). m.taken ≤ length es) (sym et) (omega (arith, live.there, length-append old.taken (e ∷ [])));
      low = subst (λ (n : ℕ). m.len ≤ n) (sym (ap (λ (es : List (ℕ × T)). bound new.guard (drop m.taken es)) et
          ∙ ap (bound new.guard) (drop-append-le m.taken old.taken (e ∷ []) live.there)
          ∙ bound-push (drop m.taken old.taken) e new.guard
          ∙ ap (λ (g : ℕ). bound g (drop m.taken old.taken)) eg)) live.low;
      high = subst (IsGuarded m.len) (sym (ap (take m.taken) et ∙ take-append-le m.taken old.taken (e ∷ []) live.there)) live.high;
    };
    same = ap (take m.len) (ap (λ (es : List (ℕ × T)). undone (drop m.taken es) new.items) et
        ∙ ap (λ (es : List (ℕ × T)). undone es new.items) (drop-append-le m.taken old.taken (e ∷ []) live.there)
        ∙ undone-push (drop m.taken old.taken) e new.items
        ∙ ap (undone (drop m.taken old.taken)) ei);
  }

  -- a mark is taken
  pub Keeps-marked : (old new : Stacked T) → new.items ≡ old.items → new.taken ≡ old.taken → old.guard ≤ new.guard → Keeps old new
  Keeps-marked old new ei et l m live = record {
    live = record {
      there = subst (λ (es : List (ℕ × T)). m.taken ≤ length es) (sym et) live.there;
      low = subst (λ (es : List (ℕ × T)). m.len ≤ bound new.guard (drop m.taken es)) (sym et) (omega (arith, live.low, bound-more (drop m.taken old.taken) old.guard new.guard l));
      high = subst (λ (es : List (ℕ × T)). IsGuarded m.len (take m.taken es)) (sym et) live.high;
    };
    same = ap (λ (es : List (ℕ × T)). take m.len (undone (drop m.taken es) new.items)) et ∙ ap (λ (xs : List T). take m.len (undone (drop m.taken old.taken) xs)) ei;
  }

  pub live-marked : (s : Stacked T) (m : Mark) → m.taken ≡ length s.taken → m.len ≡ s.guard → IsGuarded s.guard s.taken → IsLive m s
  live-marked s m et el b = record {
    there = omega arith;
    low = subst (λ (es : List (ℕ × T)). m.len ≤ bound s.guard es) (sym (drop_all m.taken s.taken (omega arith))) (omega arith);
    high = subst (IsGuarded m.len) (sym (take_all m.taken s.taken (omega arith))) (subst (λ (g : ℕ). IsGuarded g s.taken) (sym el) b);
  }

  pub at-marked : (s : Stacked T) (m : Mark) → m.taken ≡ length s.taken → m.len ≡ length s.items → at s m ≡ s.items
  at-marked s m et el = ap (λ (es : List (ℕ × T)). take m.len (undone es s.items)) (drop_all m.taken s.taken (omega arith)) ∙ take_all m.len s.items (omega arith)

  pub before-marked : (s : Stacked T) (m n : Mark) → n.taken ≡ length s.taken → s.guard ≤ n.len → IsLive m s → IsBefore m n
  before-marked s m n et l live = (
    omega (arith, live.there),
    λ e.
        let low : m.len ≤ s.guard = subst (λ (es : List (ℕ × T)). m.len ≤ bound s.guard es) (drop_all m.taken s.taken (omega arith)) live.low in omega arith,
  )

  -- goings back

  pub Same-self : (s : Stacked T) (p : ℕ) → SameUpTo p s s
  Same-self s p = record { items = λ k l. refl; bound = λ k l. refl; taken = λ k l. refl }

  pub Same-back : (old new : Stacked T) (e : ℕ × T) → old.taken ≡ new.taken ++ e ∷ [] → new.items ≡ put_back e old.items → new.guard ≡ e.0 + 1 → SameUpTo (length new.taken) old new
  Same-back old new e et ei eg = record {
    items = λ k l. sym (ap (λ (es : List (ℕ × T)). undone (drop k es) old.items) et
        ∙ ap (λ (es : List (ℕ × T)). undone es old.items) (drop-append-le k new.taken (e ∷ []) l)
        ∙ undone-push (drop k new.taken) e old.items
        ∙ ap (undone (drop k new.taken)) (sym ei));
    bound = λ k l. sym (ap (λ (es : List (ℕ × T)). bound old.guard (drop k es)) et
        ∙ ap (bound old.guard) (drop-append-le k new.taken (e ∷ []) l)
        ∙ bound-push (drop k new.taken) e old.guard
        ∙ ap (λ (g : ℕ). bound g (drop k new.taken)) (sym eg));
    taken = λ k l. sym (ap (take k) et ∙ take-append-le k new.taken (e ∷ []) l);
  }

  pub Same-then : (p q : ℕ) (old mid new : Stacked T) → q ≤ p → SameUpTo p old mid → SameUpTo q mid new → SameUpTo q old new
  Same-then p q old mid new l a b = record {
    items = λ k h. b.items k h ∙ a.items k (omega arith);
    bound = λ k h. b.bound k h ∙ a.bound k (omega arith);
    taken = λ k h. b.taken k h ∙ a.taken k (omega arith);
  }

  pub Same-less : (p q : ℕ) (old new : Stacked T) → q ≤ p → SameUpTo p old new → SameUpTo q old new
  Same-less p q old new l a = record { items = λ k h. a.items k (omega arith); bound = λ k h. a.bound k (omega arith); taken = λ k h. a.taken k (omega arith) }

  pub below-push : (es : List (ℕ × T)) (e : ℕ × T) (n : ℕ) → AreBelow n es → e.0 < n → AreBelow n (es ++ e ∷ [])
  below-push [] e n b l = (l, tt)
  below-push (f ∷ es) e n b l = (b.0, below-push es e n b.1 l)

  pub below-pop : (es : List (ℕ × T)) (e : ℕ × T) (n : ℕ) → AreBelow n (es ++ e ∷ []) → AreBelow n es
  below-pop [] e n b = tt
  below-pop (f ∷ es) e n b = (b.0, below-pop es e n b.1)

  pub below-last : (es : List (ℕ × T)) (e : ℕ × T) (n : ℕ) → AreBelow n (es ++ e ∷ []) → e.0 < n
  below-last [] e n b = b.0
  below-last (f ∷ es) e n b = below-last es e n b.1

  pub below-more : (es : List (ℕ × T)) (n k : ℕ) → n ≤ k → AreBelow n es → AreBelow k es
  below-more [] n k l b = tt
  below-more (e ∷ es) n k l b = (omega (arith, b.0), below-more es n k l b.1)

  -- the last item of xs comes off, or another takes its place
  pub put_back-last : (xs ys : List T) (n : ℕ) (x y : T) → xs ≡ ys ++ x ∷ [] → length ys ≤ n → y ≡ x → put_back (n, y) ys ≡ xs
  put_back-last xs ys n x y e l same = ap (λ (zs : List T). zs ++ y ∷ []) (take_all n ys l) ∙ ap (λ (z : T). ys ++ z ∷ []) same ∙ sym e

  pub put_back-other : (xs ys zs : List T) (n : ℕ) (x y : T) → xs ≡ ys ++ x ∷ [] → zs ≡ ys ++ y ∷ [] → length ys ≡ n → put_back (n, x) zs ≡ xs
  put_back-other xs ys zs n x y e ez l = ap (λ (ws : List T). take n ws ++ x ∷ []) ez
      ∙ ap (λ (ws : List T). ws ++ x ∷ []) (take-append-le n ys (y ∷ []) (omega arith) ∙ take_all n ys (omega arith))
      ∙ sym e

  pub set-last : (xs : List T) (n : ℕ) (y : T) → length xs ≡ n + 1 → slice_set xs n y ≡ take n xs ++ y ∷ []
  set-last [] n y l = absurd (omega arith)
  set-last (x ∷ []) zero y l = refl
  set-last (x ∷ (z ∷ xs)) zero y l = absurd (omega arith)
  set-last (x ∷ xs) (suc n) y l = ap (λ (ys : List T). x ∷ ys) (set-last xs n y (omega arith))

  pub take-set : (xs : List T) (g n : ℕ) (y : T) → g ≤ n → take g (slice_set xs n y) ≡ take g xs
  take-set [] g n y l = refl
  take-set (x ∷ xs) zero n y l = refl
  take-set (x ∷ xs) (suc g) zero y l = absurd (omega arith)
  take-set (x ∷ xs) (suc g) (suc n) y l = ap (λ (ys : List T). x ∷ ys) (take-set xs g n y (omega arith))

  pub guarded-needed : (es fs : List (ℕ × T)) (e : ℕ × T) (g : ℕ) → fs ≡ es ++ e ∷ [] → g ≤ e.0 + 1 → IsGuarded g es → IsGuarded e.0 fs
  guarded-needed es fs e g ef l b = subst (IsGuarded e.0) (sym ef) (guarded-push es e e.0 (guarded-more es g (e.0 + 1) l b) (omega arith))

  pub below-needed : (es fs : List (ℕ × T)) (e : ℕ × T) (n k : ℕ) → fs ≡ es ++ e ∷ [] → n ≤ k → e.0 < k → AreBelow n es → AreBelow k fs
  below-needed es fs e n k ef l h b = subst (AreBelow k) (sym ef) (below-push es e k (below-more es n k l b) h)

  -- all is put back, and then the list is cut
  module _ (old new : Stacked T) (m : Mark) (live : IsLive m old) (same : SameUpTo m.taken old new) (et : length new.taken ≡ m.taken) where
    none : drop m.taken new.taken ≡ []
    none = drop_all m.taken new.taken (omega arith)

    pub back-guard : m.len ≤ new.guard
    back-guard = subst (λ (n : ℕ). m.len ≤ n) (sym (same.bound m.taken (omega arith)) ∙ ap (bound new.guard) none) live.low

    pub back-guarded : IsGuarded m.len new.taken
    back-guarded = subst (IsGuarded m.len) (sym (same.taken m.taken (omega arith)) ∙ take_all m.taken new.taken (omega arith)) live.high

    pub back-items : (last : Stacked T) → last.items ≡ take m.len new.items → last.items ≡ at old m
    back-items last e = e ∙ ap (take m.len) (sym (ap (λ (es : List (ℕ × T)). undone es new.items) none) ∙ same.items m.taken (omega arith))

    bound-some : (es : List (ℕ × T)) (g h : ℕ) → 0 < length es → bound g es ≡ bound h es
    bound-some [] g h l = absurd (omega arith)
    bound-some (e ∷ es) g h l = refl

    pub back-kept : (last : Stacked T) → last.items ≡ take m.len new.items → last.taken ≡ new.taken → last.guard ≡ m.len → (n : Mark) → IsBefore n m → IsLive n old → IsSince n old last
    back-kept last ei eu eg n before live' =
        let low : n.len ≤ bound m.len (drop n.taken new.taken) = ⊎_elim
        (λ here. subst (λ (es : List (ℕ × T)). n.len ≤ bound m.len es) (sym (drop_all n.taken new.taken (omega arith))) (before.1 here))
        (λ below.
        subst (λ (k : ℕ). n.len ≤ k) (sym (bound-some (drop n.taken new.taken) m.len new.guard (subst (λ (k : ℕ). 0 < k) (sym (length-drop n.taken new.taken)) (omega arith)) ∙ same.bound n.taken (omega arith))) live'.low)
        (eq-or-lt_of_le before.0) in record {
          live = record {
            there = subst (λ (es : List (ℕ × T)). n.taken ≤ length es) (sym eu) (omega (arith, before.0));
            low = subst (λ (g : ℕ). n.len ≤ bound g (drop n.taken last.taken)) (sym eg) (subst (λ (es : List (ℕ × T)). n.len ≤ bound m.len (drop n.taken es)) (sym eu) low);
            high = subst (λ (es : List (ℕ × T)). IsGuarded n.len (take n.taken es)) (sym eu) (subst (IsGuarded n.len) (sym (same.taken n.taken before.0)) live'.high);
          };
          same = ap (λ (es : List (ℕ × T)). take n.len (undone (drop n.taken es) last.items)) eu
              ∙ undone-same (drop n.taken new.taken) m.len n.len new.items last.items (ap (take m.len) ei ∙ take-take m.len m.len new.items (omega arith)) (guarded-drop n.taken new.taken m.len back-guarded) low
              ∙ ap (take n.len) (same.items n.taken before.0);
        }

-- a list that grew at the end, in another form
pub map-pushed : {A B : Type 0} (f : A → B) (new old : List A) (x : A) → new ≡ old ++ x ∷ [] → map f new ≡ map f old ++ f x ∷ []
map-pushed f new old x e = ap (map f) e ∙ map-append f old (x ∷ [])
