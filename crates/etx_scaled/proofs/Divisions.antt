-- The quotient toward zero and its remainder, by their definition and as numbers.
use Rattle.std.proofs.Common.{◌≡◌, ◌<◌, ℕ, zero, suc, ℤ, pos, negsuc, ◌*ℤ◌, ◌≤ℤ◌, ◌<ℤ◌, unsigned_abs, int_div, int_rem, arith, refl, ap}
use Rattle.std.proofs.Math.IntN.{*ℤ_comm}
use Rattle.std.proofs.lemmas.Int.{quot-rem, rem_below, ints}
use Rattle.etx_scaled.proofs.Products.{product_grows, same_from_order}
use Rattle.etx_scaled.specs.Division.{IsDivided}

rem_not_below : (a d : ℤ) → pos 0 ≤ℤ a → pos 0 ≤ℤ int_rem a d
rem_not_below (pos a) d h = omega (arith, ints)
rem_not_below (negsuc a) d h = omega (arith, ints)

rem_not_above : (a d : ℤ) → a ≤ℤ pos 0 → int_rem a d ≤ℤ pos 0
rem_not_above (pos zero) d h = grind (arith, ints)
rem_not_above (pos (suc a)) d h = omega (arith, ints)
rem_not_above (negsuc a) d h = grind (arith, ints)

size_of_positive : (d : ℤ) → pos 0 <ℤ d → 0 < unsigned_abs d
size_of_positive (pos d) h = omega (arith, ints)
size_of_positive (negsuc d) h = omega (arith, ints)

-- what division gives is the quotient toward zero with its remainder
pub divided_by : (a d q r : ℤ) → pos 0 <ℤ d → q ≡ int_div a d → r ≡ int_rem a d → IsDivided a d q r
divided_by a d q r positive quotient remainder =
    rw (quotient, remainder) (record {
      whole = quot-rem a d;
      small = rem_below a d (size_of_positive d positive);
      not_below = rem_not_below a d;
      not_above = rem_not_above a d;
    })

pub is_divided : (a d : ℤ) → pos 0 <ℤ d → IsDivided a d (int_div a d) (int_rem a d)
is_divided a d positive = divided_by a d (int_div a d) (int_rem a d) positive refl refl

-- of two quotients neither is below the other
not_smaller : (a : ℤ) (d : ℕ) (q r q' r' : ℤ) → 0 < d → IsDivided a (pos d) q r → IsDivided a (pos d) q' r' → q <ℤ q' → ⊥
not_smaller (pos a) d q r q' r' positive one two less =
    let step = product_grows d q q' less in
    let signed : pos 0 ≤ℤ pos a = omega (arith, ints) in
    omega (arith, ints, step, *ℤ_comm q (pos d), *ℤ_comm q' (pos d), one.whole, two.whole, one.small, two.small, one.not_below signed, two.not_below signed)
not_smaller (negsuc a) d q r q' r' positive one two less =
    let step = product_grows d q q' less in
    let signed : negsuc a ≤ℤ pos 0 = omega (arith, ints) in
    omega (arith, ints, step, *ℤ_comm q (pos d), *ℤ_comm q' (pos d), one.whole, two.whole, one.small, two.small, one.not_above signed, two.not_above signed)

pub one_quotient : (a d q r : ℤ) → pos 0 <ℤ d → IsDivided a d q r → (q ≡ int_div a d) × (r ≡ int_rem a d)
one_quotient a (negsuc d) q r positive one = absurd (omega (arith, ints))
one_quotient a (pos d) q r positive one =
    let two : IsDivided a (pos d) (int_div a (pos d)) (int_rem a (pos d)) = is_divided a (pos d) positive in
    let some : 0 < d = omega (arith, ints) in
    let below : q <ℤ int_div a (pos d) → ⊥ = not_smaller a d q r _ _ some one two in
    let above : int_div a (pos d) <ℤ q → ⊥ = not_smaller a d _ _ q r some two one in
    let same : q ≡ int_div a (pos d) = same_from_order q (int_div a (pos d)) below above in
    let product : q *ℤ pos d ≡ int_div a (pos d) *ℤ pos d = ap (λ z. z *ℤ pos d) same in
    (same, omega (arith, ints, product, one.whole, two.whole))
