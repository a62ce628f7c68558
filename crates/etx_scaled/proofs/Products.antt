-- Products of signed numbers grow by at least one factor.
use Rattle.std.proofs.Common.{◌≡◌, ◌≤◌, ℕ, suc, ℤ, pos, negsuc, ◌+ℤ◌, ◌*ℤ◌, ◌≤ℤ◌, ◌<ℤ◌, arith}
use Rattle.std.proofs.Math.Nat.{mul-le-mul_left}
use Rattle.std.proofs.lemmas.Int.{ints, by_lt_z}

pub product_grows : (d : ℕ) (q q' : ℤ) → q <ℤ q' → (pos d *ℤ q +ℤ pos d) ≤ℤ (pos d *ℤ q')
product_grows d (pos a) (pos b) h = let more : suc a ≤ b = omega (arith, ints) in omega (arith, ints, mul-le-mul_left d more)
product_grows d (pos a) (negsuc b) h = absurd (omega (arith, ints))
product_grows d (negsuc a) (pos b) h = let more : 1 ≤ suc a = omega arith in omega (arith, ints, mul-le-mul_left d more)
product_grows d (negsuc a) (negsuc b) h = let more : suc (suc b) ≤ suc a = omega (arith, ints) in omega (arith, ints, mul-le-mul_left d more)

pub same_from_order : (x y : ℤ) → (x <ℤ y → ⊥) → (y <ℤ x → ⊥) → x ≡ y
same_from_order x y not_below not_above =
    by_lt_z x y (λ h. absurd (not_below h)) (λ h. by_lt_z y x (λ k. absurd (not_above k)) (λ k. omega (arith, ints)))
