-- An argument, token by token.
use Rattle.std.proofs.Common.{◌≡◌, ℕ, suc, ◌<◌, ◌-◌, Bool, true, false, List, [], ◌∷◌, ◌++◌, Option, Some, ◌⊎◌, inl, inr, length, refl, sym, ap, subst, ◌∙◌, arith}
use Rattle.std.proofs.lemmas.List.{append_assoc, append_cancel_right, same_from_push}
use Rattle.etx_matter.specs.declared.token.Token.{Token}
use Rattle.etx_macros.specs.declared.argument.Turn.TheVariants as turn
use Rattle.etx_macros.specs.Marks.{is_space, is_par, behind, depth_of, IsBalanced}
use Rattle.etx_macros.specs.Calls.{IsGroup, Gives, EndsInside, ParsAreAllowed, AreSpaces, IsPlain, IsUndelimited, IsDelimited}
use Rattle.etx_macros.specs.Matching.{IsLongest, undelimited_turn}
use Rattle.etx_macros.specs.Within.{InGroup, InDelimited, Within}
use Rattle.etx_macros.proofs.Delimiters.{split_push, IsFound, longest_start}
use Rattle.etx_macros.proofs.Depths.{depth_push}
use Rattle.etx_macros.proofs.Turns.{IsLast, found_turn, keep_turn, skip_turn, stays_flat, closes_group, opens_group, inside_group}

nil_apart : (front rest : List Token) (u : Token) → [] ≡ front ++ u ∷ rest → ⊥
nil_apart [] rest u e = cc
nil_apart (x ∷ front) rest u e = cc

pub pars_nil : (long : Bool) (d : List Token) → ParsAreAllowed long d []
pars_nil long d = λ l front rest u e p. absurd (nil_apart front rest u e)

pub pars_push : (long : Bool) (d read : List Token) (t : Token) → ParsAreAllowed long d read → (long ≡ false → is_par t ≡ true → (depth_of read ≡ Some 0) × EndsInside (read ++ t ∷ []) d) → ParsAreAllowed long d (read ++ t ∷ [])
pars_push long d read t old here = λ l front rest u e p.
    elim (split_push read t (front ++ u ∷ []) rest (e ∙ sym (append_assoc front (u ∷ []) rest))) [
      | inl w ↦
          let g = same_from_push read front t u w.1 in
          let h = here l (ap is_par g.1 ∙ p) in
          (sym (ap depth_of g.0) ∙ h.0, subst (λ (xs : List Token). EndsInside xs d) w.1 h.1)
      | inr w ↦ old l front w.0 u (w.1 ∙ append_assoc front (u ∷ []) w.0) p
    ]

pub pars_front : (long : Bool) (d text raw more : List Token) → ParsAreAllowed long d text → text ≡ raw ++ more → ParsAreAllowed long d raw
pars_front long d text raw more old e = λ l front rest u f p. old l front (rest ++ more) u (e ∙ ap (λ xs. xs ++ more) f ∙ append_assoc front (u ∷ rest) more) p

no_par_here : (long par : Bool) (P : Type 0) → (long ≡ false → par ≡ false) → long ≡ false → par ≡ true → P
no_par_here long par P h l p = let a : par ≡ false = h l in absurd cc

pub spaces_push : (xs : List Token) (t : Token) → AreSpaces xs → is_space t ≡ true → AreSpaces (xs ++ t ∷ [])
spaces_push [] t h s = (s, tt)
spaces_push (x ∷ xs) t h s = (h.0, spaces_push xs t h.1 s)

-- nothing of an undelimited argument was read, or a part of a group
abbrev Bare : Bool → List Token → ℕ → Type 0
Bare long read depth = ((read ≡ []) × (depth ≡ 0)) ⊎ InGroup long read depth

pub bare_skip : (long : Bool) (read : List Token) (depth : ℕ) (t : Token) → Bare long read depth → undelimited_turn depth long t ≡ turn.Skip → (read ≡ []) × (is_space t ≡ true)
bare_skip long read depth t (inl h) e = (h.0, (skip_turn depth long t e).1)
bare_skip long read depth t (inr g) e = let z = skip_turn depth long t e in absurd (omega (arith, z.0, g.depth_is))

first_of_group : (long : Bool) (t : Token) (m : ℕ) → (long ≡ false → is_par t ≡ false) → behind t 0 ≡ Some m → 0 < m → InGroup long (t ∷ []) m
first_of_group long t m p h l =
    let o = opens_group t m l h in
    record {
      left = t;
      inner = [];
      deeper = 0;
      opens = o.0;
      read_is = refl;
      inside = refl;
      depth_is = o.1;
      pars = pars_push long [] [] t (pars_nil long []) (no_par_here long (is_par t) ((depth_of [] ≡ Some 0) × EndsInside (t ∷ []) []) p);
    }

more_of_group : (long : Bool) (read : List Token) (depth : ℕ) (t : Token) (m : ℕ) → InGroup long read depth → (long ≡ false → is_par t ≡ false) → behind t depth ≡ Some m → 0 < m → InGroup long (read ++ t ∷ []) m
more_of_group long read depth t m g p h l =
    let n : m ≡ suc (m - 1) = omega arith in
    let k : behind t (suc g.deeper) ≡ Some (suc (m - 1)) = ap (λ d. behind t d) (sym g.depth_is) ∙ h ∙ ap (λ d. let o : Option ℕ = Some d in o) n in
    record {
      left = g.left;
      inner = g.inner ++ t ∷ [];
      deeper = m - 1;
      opens = g.opens;
      read_is = ap (λ xs. xs ++ t ∷ []) g.read_is;
      inside = depth_push g.inner t g.deeper (Some (m - 1)) g.inside (inside_group t g.deeper (m - 1) k);
      depth_is = n;
      pars = pars_push long [] read t g.pars (no_par_here long (is_par t) ((depth_of read ≡ Some 0) × EndsInside (read ++ t ∷ []) []) p);
    }

pub bare_keep : (long : Bool) (read : List Token) (depth : ℕ) (t : Token) (m : ℕ) → Bare long read depth → undelimited_turn depth long t ≡ turn.Keep m → InGroup long (read ++ t ∷ []) m
bare_keep long read depth t m (inl h) e =
    let k = keep_turn depth long t m e in
    subst (λ (xs : List Token). InGroup long (xs ++ t ∷ []) m) (sym h.0) (first_of_group long t m k.0 (ap (λ d. behind t d) (sym h.1) ∙ k.1) k.2)
bare_keep long read depth t m (inr g) e = let k = keep_turn depth long t m e in more_of_group long read depth t m g k.0 k.1 k.2

single_item : (long : Bool) (t : Token) → IsLast 0 long t → IsPlain t
single_item long t h = let s = stays_flat t h.closes in record { no_space = h.no_space refl; no_left = s.0; no_right = s.1 }

group_item : (long : Bool) (read : List Token) (depth : ℕ) (t : Token) (g : InGroup long read depth) → behind t depth ≡ Some 0 → IsGroup (read ++ t ∷ []) g.inner
group_item long read depth t g h =
    let c = closes_group t g.deeper (ap (λ d. behind t d) (sym g.depth_is) ∙ h) in
    record { left = g.left; right = t; opens = g.opens; closes = c.0; inside = g.inside ∙ ap (λ d. let o : Option ℕ = Some d in o) c.1; whole = ap (λ xs. xs ++ t ∷ []) g.read_is }

pub bare_found : (long : Bool) (skipped read : List Token) (depth : ℕ) (t : Token) (arg : List Token) → AreSpaces skipped → Bare long read depth → undelimited_turn depth long t ≡ turn.Found → Gives (read ++ t ∷ []) arg → IsUndelimited long (skipped ++ (read ++ t ∷ [])) arg
bare_found long skipped read depth t arg s (inl h) e gives =
    let k = found_turn depth long t e in
    let k0 : IsLast 0 long t = subst (λ (d : ℕ). IsLast d long t) h.1 k in
    record {
      spaces = skipped;
      raw = read ++ t ∷ [];
      whole = refl;
      are_spaces = s;
      item = inl (t, single_item long t k0, ap (λ xs. xs ++ t ∷ []) h.0);
      pars = pars_push long [] read t (subst (λ (xs : List Token). ParsAreAllowed long [] xs) (sym h.0) (pars_nil long [])) (no_par_here long (is_par t) ((depth_of read ≡ Some 0) × EndsInside (read ++ t ∷ []) []) k.no_par);
      gives = gives;
    }
bare_found long skipped read depth t arg s (inr g) e gives =
    let k = found_turn depth long t e in
    record {
      spaces = skipped;
      raw = read ++ t ∷ [];
      whole = refl;
      are_spaces = s;
      item = inr (g.inner, group_item long read depth t g k.closes);
      pars = pars_push long [] read t g.pars (no_par_here long (is_par t) ((depth_of read ≡ Some 0) × EndsInside (read ++ t ∷ []) []) k.no_par);
      gives = gives;
    }

-- delimited arguments
pub delimited_found : (long : Bool) (d read : List Token) (depth matched : ℕ) (t : Token) (raw arg : List Token) → (d ≡ [] → ⊥) → InDelimited long d read depth matched → read ++ t ∷ [] ≡ raw ++ d → IsBalanced raw → Gives raw arg → IsDelimited long d (read ++ t ∷ []) arg
delimited_found long d read depth matched t raw arg some g e b gives =
    record {
      raw = raw;
      whole = e;
      balanced = b;
      shortest = λ other rest f bo. elim (split_push read t (other ++ d) rest f) [
        | inl w ↦ let same : raw ≡ other = append_cancel_right raw other d (sym e ∙ w.1) in omega (arith, ap length same)
        | inr w ↦ absurd (g.not_yet other w.0 w.1 bo)
      ];
      pars = elim (split_push read t raw d e) [
        | inl w ↦ absurd (some w.0)
        | inr w ↦ pars_front long d read raw w.0 g.pars w.1
      ];
      gives = gives;
    }

pub delimited_more : (long : Bool) (d read : List Token) (depth matched : ℕ) (t : Token) (m next : ℕ) → InDelimited long d read depth matched → (IsFound d (read ++ t ∷ []) → ⊥) → (long ≡ false → is_par t ≡ true → (depth ≡ 0) × EndsInside (read ++ t ∷ []) d) → behind t depth ≡ Some m → (m ≡ 0 → IsLongest (read ++ t ∷ []) d (length d) next) → next < length d → InDelimited long d (read ++ t ∷ []) m next
delimited_more long d read depth matched t m next g never inside h place wants =
    record {
      depth_is = depth_push read t depth (Some m) g.depth_is h;
      not_yet = λ other rest e b. elim (split_push read t (other ++ d) rest e) [ inl w ↦ never (other, w.1, b) | inr w ↦ g.not_yet other w.0 w.1 b ];
      place = place;
      wants = wants;
      pars = pars_push long d read t g.pars (λ l p. let i = inside l p in (g.depth_is ∙ ap (λ k. let o : Option ℕ = Some k in o) i.0, i.1));
    }

nil_not_delimited : (other rest : List Token) (t : Token) (ts : List Token) → [] ≡ (other ++ t ∷ ts) ++ rest → ⊥
nil_not_delimited [] rest t ts e = cc
nil_not_delimited (x ∷ other) rest t ts e = cc

-- nothing of an argument was read
pub within_start : (long : Bool) (d : List Token) → Within long d [] [] 0 0
within_start long [] = (tt, inl (refl, refl))
within_start long (t ∷ ts) = (refl, record { depth_is = refl; not_yet = λ other rest e b. nil_not_delimited other rest t ts e; place = λ z. longest_start (t ∷ ts); wants = omega arith; pars = pars_nil long (t ∷ ts) })
