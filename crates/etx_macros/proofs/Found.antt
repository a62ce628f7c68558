-- What the search for the delimiter says behind a token of an argument.
use Rattle.std.proofs.Common.{◌≡◌, ℕ, zero, suc, ◌<◌, ◌+◌, min, Bool, true, false, List, [], ◌∷◌, ◌++◌, Option, Some, inl, inr, length, refl, sym, ap, subst, ◌∙◌, arith}
use Rattle.std.specs.Prelude.{nat_lt}
use Rattle.std.proofs.lemmas.Bool.{cases_lt, ltb-true, ltb-false}
use Rattle.std.proofs.lemmas.List.{take_all}
use Rattle.etx_matter.specs.declared.token.Token.{Token}
use Rattle.etx_macros.specs.Marks.{behind, depth_of, IsDelimiter}
use Rattle.etx_macros.specs.Calls.{EndsInside}
use Rattle.etx_macros.specs.Matching.{IsLongest}
use Rattle.etx_macros.specs.Within.{InDelimited}
use Rattle.etx_macros.proofs.Turns.{closes_group}
use Rattle.etx_macros.proofs.Steps.{some_length}
use Rattle.etx_macros.proofs.Delimiters.{IsFound, longest_push, longest_none, absorbed, not_absorbed, found_raw, never_inside, never_shorter}

pub above_true : (k : ℕ) → nat_lt 0 k ≡ true → 0 < k
above_true k e = ltb-true 0 k e

pub above_false : (k : ℕ) → nat_lt 0 k ≡ false → k ≡ 0
above_false k e = omega (arith, ltb-false 0 k e)

some_depth : (n : ℕ) → 0 < n → (m : ℕ) × (n ≡ suc m)
some_depth zero l = absurd (omega arith)
some_depth (suc n) l = (n, refl)

module _ (long : Bool) (d read : List Token) (depth matched : ℕ) (t : Token) (k : ℕ) (flat : IsDelimiter d) (some : d ≡ [] → ⊥) (g : InDelimited long d read depth matched) (inside : 0 < depth → k ≡ 0) (outside : depth ≡ 0 → IsLongest (read ++ t ∷ []) d (min (matched + 1) (length d)) k) where
  -- outside braces, what was found is the longest of all
  longest_here : depth ≡ 0 → IsLongest (read ++ t ∷ []) d (length d) k
  longest_here z = longest_push read d t matched k (g.place z) (outside z)

  deep : 0 < depth → (n : ℕ) × (depth_of read ≡ Some (suc n))
  deep l = let n = some_depth depth l in (n.0, g.depth_is ∙ ap (λ m. let o : Option ℕ = Some m in o) n.1)

  pub found_here : k ≡ length d → IsFound d (read ++ t ∷ [])
  found_here e = elim (cases_lt 0 depth) [
    | inl l ↦ absurd (omega (arith, e, inside l, some_length d some))
    | inr l ↦
        let z : depth ≡ 0 = omega (arith, l) in
        let h = outside z in
        let w = h.ends in
        found_raw d read t flat some (g.depth_is ∙ ap (λ m. let o : Option ℕ = Some m in o) z) (w.0, w.1 ∙ ap (λ xs. w.0 ++ xs) (take_all k d (omega (arith, e))))
  ]

  pub wants_here : (k ≡ length d → ⊥) → k < length d
  wants_here never = elim (cases_lt 0 depth) [
    | inl l ↦ omega (arith, inside l, some_length d some)
    | inr l ↦ let h = longest_here (omega (arith, l)) in omega (arith, never, h.within)
  ]

  pub not_found_here : (k ≡ length d → ⊥) → IsFound d (read ++ t ∷ []) → ⊥
  not_found_here never w = elim (cases_lt 0 depth) [
    | inl l ↦ let n = deep l in never_inside d read t n.0 flat some n.1 w
    | inr l ↦ never_shorter d (read ++ t ∷ []) k (longest_here (omega (arith, l))) (wants_here never) (w.0, w.1)
  ]

  pub place_here : (m : ℕ) → behind t depth ≡ Some m → m ≡ 0 → IsLongest (read ++ t ∷ []) d (length d) k
  place_here m b z = elim (cases_lt 0 depth) [
    | inl l ↦
        let n = some_depth depth l in
        let c = closes_group t n.0 (ap (λ j. behind t j) (sym n.1) ∙ b ∙ ap (λ j. let o : Option ℕ = Some j in o) z) in
        subst (λ (j : ℕ). IsLongest (read ++ t ∷ []) d (length d) j) (sym (inside l)) (longest_none read d t flat c.0)
    | inr l ↦ longest_here (omega (arith, l))
  ]

  pub inside_here : nat_lt 0 k ≡ true → (depth ≡ 0) × EndsInside (read ++ t ∷ []) d
  inside_here e =
      let p = above_true k e in
      elim (cases_lt 0 depth) [
        | inl l ↦ absurd (omega (arith, p, inside l))
        | inr l ↦ let z : depth ≡ 0 = omega (arith, l) in (z, absorbed (read ++ t ∷ []) d k (longest_here z) p)
      ]

  pub absorbed_here : nat_lt 0 k ≡ false → depth ≡ 0 → EndsInside (read ++ t ∷ []) d → ⊥
  absorbed_here e z w = not_absorbed (read ++ t ∷ []) d (subst (λ (j : ℕ). IsLongest (read ++ t ∷ []) d (length d) j) (above_false k e) (longest_here z)) w
