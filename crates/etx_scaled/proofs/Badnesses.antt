-- Badness grows with what is to be filled.
use Rattle.std.proofs.Common.{◌≡◌, ◌<◌, ◌≤◌, ◌+◌, ◌*◌, ◌/◌, ℕ, zero, suc, ℤ, pos, negsuc, ◌≤ℤ◌, nat_le, false, true, inl, inr, arith, refl}
use Rattle.std.proofs.Math.Nat.{div-mul-le_self, mul-le-mul_left, mul-le-mul_right}
use Rattle.std.proofs.lemmas.Nat.{le-div, mul-le}
use Rattle.std.proofs.lemmas.Bool.{cases_lt}
use Rattle.std.proofs.lemmas.Int.{ints}
use Rattle.std.proofs.lemmas.Bool.Decides.{nat_tests}
use Rattle.etx_scaled.specs.Badness.{ratio_of, badness_at, badness_of}

-- the cube of a ratio that isn't too large
at_most : (r : ℕ) → r ≤ 1290 → badness_at r ≡ (r * r * r + 131072) / 262144
at_most r h = let test : nat_le r 1290 ≡ true = grind (arith, nat_tests) in rw test refl

above : (r : ℕ) → 1290 < r → badness_at r ≡ 10000
above r h = let test : nat_le r 1290 ≡ false = grind (arith, nat_tests) in rw test refl

cube_below : (r q : ℕ) → r ≤ q → r * r * r ≤ q * q * q
cube_below r q h = mul-le (r * r) r (q * q) q (mul-le r r q q h h) h

most_at : (r : ℕ) → badness_at r ≤ 10000
most_at r = elim (cases_lt 1290 r) [
  | inl large ↦ rw (above r large) (omega arith)
  | inr small ↦ rw (at_most r small) (let cube : r * r * r ≤ 1290 * 1290 * 1290 = cube_below r 1290 small in omega arith)
]

at_grows : (r q : ℕ) → r ≤ q → badness_at r ≤ badness_at q
at_grows r q h = elim (cases_lt 1290 q) [
  | inl large ↦ rw (above q large) (most_at r)
  | inr small ↦
      let r_small : r ≤ 1290 = omega arith in
      rw (at_most q small, at_most r r_small) (let cube = cube_below r q h in omega arith)
]

-- the three cases of the ratio
low : (t s : ℕ) → t ≤ 7230584 → ratio_of t s ≡ t * 297 / s
low t s h = let test : nat_le t 7230584 ≡ true = grind (arith, nat_tests) in rw test refl

wide : (t s : ℕ) → 7230584 < t → 1663497 ≤ s → ratio_of t s ≡ t / (s / 297)
wide t s h g =
    let test : nat_le t 7230584 ≡ false = grind (arith, nat_tests) in
    let test' : nat_le 1663497 s ≡ true = grind (arith, nat_tests) in
    rw (test, test') refl

far : (t s : ℕ) → 7230584 < t → s < 1663497 → ratio_of t s ≡ t
far t s h g =
    let test : nat_le t 7230584 ≡ false = grind (arith, nat_tests) in
    let test' : nat_le 1663497 s ≡ false = grind (arith, nat_tests) in
    rw (test, test') refl

div_grows : (m n k : ℕ) → 0 < k → m ≤ n → m / k ≤ n / k
div_grows m n k some h = le-div (m / k) n k some (let part : m / k * k ≤ m = div-mul-le_self m k in omega arith)

-- from the first case to the second
low_to_wide : (t u s : ℕ) → t ≤ u → 1663497 ≤ s → t * 297 / s ≤ u / (s / 297)
low_to_wide t u s h g =
    let r = t * 297 / s in
    let q = s / 297 in
    let q_part : q * 297 ≤ s = div-mul-le_self s 297 in
    let r_part : r * s ≤ t * 297 = div-mul-le_self (t * 297) s in
    let scaled : r * (q * 297) ≤ r * s = mul-le-mul_left r q_part in
    le-div r u q (omega arith) (omega arith)

ratio_grows : (t u s : ℕ) → 0 < s → t ≤ u → badness_at (ratio_of t s) ≤ badness_at (ratio_of u s)
ratio_grows t u s some h = elim (cases_lt 7230584 t) [
  | inl t_large ↦
      let u_large : 7230584 < u = omega arith in
      elim (cases_lt s 1663497) [
        | inl little ↦ rw (far t s t_large little, far u s u_large little) (at_grows t u h)
        | inr much ↦ rw (wide t s t_large much, wide u s u_large much) (at_grows _ _ (div_grows t u (s / 297) (omega arith) h))
      ]
  | inr t_small ↦ elim (cases_lt 7230584 u) [
    | inl u_large ↦ elim (cases_lt s 1663497) [
      | inl little ↦ rw (far u s u_large little, above u (omega arith)) (most_at (ratio_of t s))
      | inr much ↦ rw (low t s t_small, wide u s u_large much) (at_grows _ _ (low_to_wide t u s h much))
    ]
    | inr u_small ↦ rw (low t s t_small, low u s u_small) (at_grows _ _ (div_grows (t * 297) (u * 297) s some (mul-le-mul_right 297 h)))
  ]
]

pub badness_most : (t : ℕ) (s : ℤ) → badness_of t s ≤ 10000
badness_most zero s = omega arith
badness_most (suc t) (negsuc s) = omega arith
badness_most (suc t) (pos zero) = omega arith
badness_most (suc t) (pos (suc s)) = most_at (ratio_of (suc t) (suc s))

pub badness_grows : (t u : ℕ) (s : ℤ) → t ≤ u → badness_of t s ≤ badness_of u s
badness_grows zero u s h = omega arith
badness_grows (suc t) zero s h = absurd (omega arith)
badness_grows (suc t) (suc u) (negsuc s) h = omega arith
badness_grows (suc t) (suc u) (pos zero) h = omega arith
badness_grows (suc t) (suc u) (pos (suc s)) h = ratio_grows (suc t) (suc u) (suc s) (omega arith) h

pub badness_without : (t : ℕ) (s : ℤ) → 0 < t → s ≤ℤ pos 0 → badness_of t s ≡ 10000
badness_without zero s some none = absurd (omega arith)
badness_without (suc t) (negsuc s) some none = refl
badness_without (suc t) (pos zero) some none = refl
badness_without (suc t) (pos (suc s)) some none = absurd (omega (arith, ints))
