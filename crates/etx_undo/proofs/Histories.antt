-- One more set, or one less.
use Rattle.std.proofs.Common.{◌≡◌, ℕ, ◌≤◌, List, [], ◌∷◌, ◌++◌, length, drop, Option, Some, IsSome, Bool, true, false, refl, sym, ◌∙◌, ap, subst, arith, if◌then◌else◌, map}
use Rattle.std.proofs.lemmas.List.{drop-append-le, length-append, map-append, at_drop_all}
use Rattle.etx_undo.specs.declared.slot.Slot.{Slot}
use Rattle.etx_undo.specs.Slots.{same}
use Rattle.etx_undo.specs.Tables.{Entries, look, IsPut}
use Rattle.etx_undo.proofs.Slots.{same_is, same_self}
use Rattle.etx_undo.specs.History.{Kept, place, present, at, first_saved, IsBacked, SameUpTo, IsSet, IsSince}

module _ {V : Type 0} where
  pub at-place : (s : Kept V) (q : Slot) → at s (place s) q ≡ present s q
  at-place s q = at_drop_all (λ (l : List (Slot × Option V)). first_saved q l (present s q)) s.saved (place s) (omega arith)

  pub present-back : (p : ℕ) (old new : Kept V) → place new ≡ p → SameUpTo p old new → (q : Slot) → present new q ≡ at old p q
  present-back p old new e same q = sym (at-place new q) ∙ ap (λ (p' : ℕ). at new p' q) e ∙ same p q (omega arith)

  pub IsSince-self : (p : ℕ) (s : Kept V) → p ≤ place s → IsSince p s s
  IsSince-self p s h = record { live = h; same = λ p' q h'. refl }

  pub IsSince-set : (p : ℕ) (start old new : Kept V) (k : Slot) (v : V) → IsSince p start old → IsSet old new k v → IsSince p start new
  IsSince-set p start old new k v since is = record {
    live = omega (arith, since.live, is.more);
    same = λ p' q h. is.before p' q (omega (arith, since.live)) ∙ since.same p' q h;
  }

  pub IsSince-back : (p m : ℕ) (start old new : Kept V) → IsSince p start old → p ≤ m → place new ≡ m → SameUpTo m old new → IsSince p start new
  IsSince-back p m start old new since h e same = record {
    live = omega arith;
    same = λ p' q h'. same p' q (omega arith) ∙ since.same p' q h';
  }

  pub first_saved-push : (q : Slot) (ss : List (Slot × Option V)) (s : Slot × Option V) (now : Option V)
      → first_saved q (ss ++ s ∷ []) now ≡ first_saved q ss (if same s.0 q then s.1 else now)
  first_saved-push q [] s now = refl
  first_saved-push q (t ∷ ss) s now = ap (λ (o : Option V). if same t.0 q then t.1 else o) (first_saved-push q ss s now)

  pub first_saved-taken : (new old : Entries V) (s : Slot × Option V) → IsPut new old s.0 s.1 → (q : Slot) (ss : List (Slot × Option V))
      → first_saved q (ss ++ s ∷ []) (look new q) ≡ first_saved q ss (look old q)
  first_saved-taken new old s taken q ss = first_saved-push q ss s _ ∙ ap (first_saved q ss) (sym (taken q))

  pub at-taken : (new old : Entries V) (s : Slot × Option V) → IsPut new old s.0 s.1 → (ss : List (Slot × Option V)) (p : ℕ) (q : Slot) → p ≤ length ss
      → first_saved q (drop p (ss ++ s ∷ [])) (look new q) ≡ first_saved q (drop p ss) (look old q)
  at-taken new old s taken ss p q h = ap (λ (l : List (Slot × Option V)). first_saved q l (look new q)) (drop-append-le p ss (s ∷ []) h) ∙ first_saved-taken new old s taken q (drop p ss)

  pub IsBacked-push : (new old : Entries V) (s : Slot × Option V) → IsPut new old s.0 s.1 → IsSome (look new s.0)
      → (ss : List (Slot × Option V)) → IsBacked old ss → IsBacked new (ss ++ s ∷ [])
  IsBacked-push new old s taken has [] b = (has, tt)
  IsBacked-push new old s taken has (t ∷ ss) b = (subst (λ (o : Option V). IsSome o) (sym (first_saved-taken new old s taken t.0 ss)) b.0, IsBacked-push new old s taken has ss b.1)

  pub IsBacked-pop : (new old : Entries V) (s : Slot × Option V) → IsPut new old s.0 s.1
      → (ss : List (Slot × Option V)) → IsBacked new (ss ++ s ∷ []) → IsBacked old ss
  IsBacked-pop new old s taken [] b = tt
  IsBacked-pop new old s taken (t ∷ ss) b = (subst (λ (o : Option V). IsSome o) (first_saved-taken new old s taken t.0 ss) b.0, IsBacked-pop new old s taken ss b.1)

  pub IsSome-backed : (new : Entries V) (s : Slot × Option V) (ss : List (Slot × Option V)) → IsBacked new (ss ++ s ∷ []) → IsSome (look new s.0)
  IsSome-backed new s [] b = b.0
  IsSome-backed new s (t ∷ ss) b = IsSome-backed new s ss b.1

  taken_back-at : (new old : Entries V) (k : Slot) (v : V) (q : Slot) (b : Bool) → same k q ≡ b
      → look new q ≡ (if b then Some v else look old q)
      → look old q ≡ (if b then look old k else look new q)
  taken_back-at new old k v q true e puts = ap (look old) (sym (same_is k q e))
  taken_back-at new old k v q false e puts = sym puts

  -- what an insert does is taken back by the value that it found
  pub taken_back : (new old : Entries V) (k : Slot) (v : V) → ((q : Slot) → look new q ≡ (if same k q then Some v else look old q))
      → IsPut new old k (look old k)
  taken_back new old k v puts q = taken_back-at new old k v q (same k q) refl (puts q)

  pub IsSome-put : (new old : Entries V) (k : Slot) (v : V) → ((q : Slot) → look new q ≡ (if same k q then Some v else look old q))
      → IsSome (look new k)
  IsSome-put new old k v puts = subst (λ (o : Option V). IsSome o) (sym (puts k ∙ ap (λ (b : Bool). if b then Some v else look old k) (same_self k))) refl

  pub IsSet-put : (old new : Kept V) (k : Slot) (v : V) (before : Option V) → before ≡ look old.entries k → new.saved ≡ old.saved ++ (k, before) ∷ []
      → ((q : Slot) → look new.entries q ≡ (if same k q then Some v else look old.entries q)) → IsSet old new k v
  IsSet-put old new k v before was saved' puts = let saved = saved' ∙ ap (λ (b : Option V). old.saved ++ (k, b) ∷ []) was in record {
    more = ap length saved ∙ length-append old.saved _;
    now = puts;
    before = λ p q h. ap (λ (l : List (Slot × Option V)). first_saved q (drop p l) (look new.entries q)) saved ∙ at-taken new.entries old.entries _ (taken_back new.entries old.entries k v puts) old.saved p q h;
  }

  pub IsBacked-put : (old new : Kept V) (k : Slot) (v : V) (before : Option V) → before ≡ look old.entries k → new.saved ≡ old.saved ++ (k, before) ∷ []
      → ((q : Slot) → look new.entries q ≡ (if same k q then Some v else look old.entries q)) → IsBacked old.entries old.saved → IsBacked new.entries new.saved
  IsBacked-put old new k v before was saved' puts b = let saved = saved' ∙ ap (λ (b : Option V). old.saved ++ (k, b) ∷ []) was in rw saved (IsBacked-push new.entries old.entries _ (taken_back new.entries old.entries k v puts) (IsSome-put new.entries old.entries k v puts) old.saved b)

  -- the state after the last set s of old is taken back
  pub SameUpTo-back : (old new : Kept V) (s : Slot × Option V) → old.saved ≡ new.saved ++ s ∷ [] → IsPut old.entries new.entries s.0 s.1 → SameUpTo (place new) old new
  SameUpTo-back old new s saved taken p q h = sym (ap (λ (l : List (Slot × Option V)). first_saved q (drop p l) (look old.entries q)) saved ∙ at-taken old.entries new.entries s taken new.saved p q h)

  pub IsBacked-back : (old new : Kept V) (s : Slot × Option V) → old.saved ≡ new.saved ++ s ∷ [] → IsPut old.entries new.entries s.0 s.1 → IsBacked old.entries old.saved → IsBacked new.entries new.saved
  IsBacked-back old new s saved taken b = IsBacked-pop old.entries new.entries s taken new.saved (subst (IsBacked old.entries) saved b)

  pub IsSome-back : (old : Kept V) (s : Slot × Option V) (rest : List (Slot × Option V)) → old.saved ≡ rest ++ s ∷ [] → IsBacked old.entries old.saved → IsSome (look old.entries s.0)
  IsSome-back old s rest saved b = IsSome-backed old.entries s rest (subst (IsBacked old.entries) saved b)

-- a list that grew at the end, in another form
pub map-pushed : {A B : Type 0} (f : A → B) (new old : List A) (x : A) → new ≡ old ++ x ∷ [] → map f new ≡ map f old ++ f x ∷ []
map-pushed f new old x e = ap (map f) e ∙ map-append f old (x ∷ [])
