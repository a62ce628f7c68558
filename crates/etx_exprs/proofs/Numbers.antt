-- A digit more.
use Rattle.std.proofs.Common.{◌≡◌, ◌<◌, ◌≤◌, ◌+◌, ◌*◌, ◌^◌, ℕ, zero, suc, inl, inr, List, [], ◌∷◌, ◌++◌, length, Option, Some, None, nat_le, true, false, arith, refl, sym, ap, subst, ◌∙◌, length-append, append-nil}
use Rattle.std.proofs.Math.Nat.{pow-suc, pow-zero}
use Rattle.std.proofs.lemmas.Bool.{cases_lt}
use Rattle.std.proofs.lemmas.Bool.Decides.{nat_tests}
use Rattle.std.specs.Option.{option_to_list}
use Rattle.etx_matter.specs.declared.token.Token.{Token}
use Rattle.etx_exprs.specs.Constants.{IsBase, DigitsState, StandsFor, digit_of, digits_fed, is_no_digit, number_of, number_with, with_digit, within}

-- the digit behind others
one_more : (base p q e n d : ℕ) → q ≡ p * base → e * q + (n * base + d) ≡ (e * p + n) * base + d
one_more base p q e n d h = rw h (omega arith)

number_of-append : (base : ℕ) (ds : List ℕ) (d : ℕ) → number_of base (ds ++ d ∷ []) ≡ number_of base ds * base + d
number_of-append base [] d = rw (pow-zero base) (omega arith)
number_of-append base (e ∷ ds) d =
    let long : length (ds ++ d ∷ []) ≡ suc (length ds) = omega (arith, length-append ds (d ∷ [])) in
    let power : base ^ length (ds ++ d ∷ []) ≡ base ^ length ds * base = ap (λ (k : ℕ). base ^ k) long ∙ pow-suc base (length ds) in
    rw (number_of-append base ds d) (one_more base (base ^ length ds) (base ^ length (ds ++ d ∷ [])) e (number_of base ds) d power)

within_fits : (n : ℕ) → n ≤ 2147483647 → within n ≡ Some n
within_fits n h = let test : nat_le n 2147483647 ≡ true = grind (arith, nat_tests) in rw test refl

within_big : (n : ℕ) → 2147483647 < n → within n ≡ None
within_big n h = let test : nat_le n 2147483647 ≡ false = grind (arith, nat_tests) in rw test refl

grows : (n base d : ℕ) → 1 ≤ base → 2147483647 < n → 2147483647 < n * base + d
grows n zero d some big = absurd (omega arith)
grows n (suc b) d some big = let e : n * suc b ≡ n * b + n = omega arith in rw e (omega arith)

number_step : (n base d : ℕ) → 1 ≤ base → number_with (within n) base d ≡ within (n * base + d)
number_step n base d some = elim (cases_lt 2147483647 n) [
  | inl big ↦ rw (within_big n big) (sym (within_big (n * base + d) (grows n base d some big)))
  | inr fits ↦ rw (within_fits n fits) refl
]

some_base : (base : ℕ) → IsBase base → 1 ≤ base
some_base base h = omega (arith, h)

some_digit : (ds : List ℕ) (d : ℕ) → false ≡ is_no_digit (ds ++ d ∷ [])
some_digit [] d = refl
some_digit (e ∷ ds) d = refl

stands_with : (s : DigitsState) (o : Option ℕ) (ds : List ℕ) → StandsFor s ds → StandsFor (with_digit s o) (ds ++ option_to_list o)
stands_with s None ds h = rw (append-nil ds) h
stands_with s (Some d) ds h =
    record {
      base_is = h.base_is;
      number_is =
          ap (λ (m : Option ℕ). number_with m s.base d) h.number_is
          ∙ number_step (number_of s.base ds) s.base d (some_base s.base h.base_is)
          ∙ ap within (sym (number_of-append s.base ds d));
      empty_is = some_digit ds d;
    }

-- what stands for digits does so behind a token
pub stands_fed : (s new : DigitsState) (t : Token) → new ≡ digits_fed s t → (ds : List ℕ) → StandsFor s ds → StandsFor new (ds ++ option_to_list (digit_of s.base t))
stands_fed s new t is ds h = subst (λ (n : DigitsState). StandsFor n (ds ++ option_to_list (digit_of s.base t))) (sym is) (stands_with s (digit_of s.base t) ds h)
