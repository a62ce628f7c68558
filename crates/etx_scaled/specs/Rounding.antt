-- The nearest whole number to a fraction, halves away from zero.
use Rattle.std.specs.Prelude.{◌≡◌, ◌≤◌, ◌+◌, ◌*◌, ◌/◌, ℕ, ℤ, pos, negsuc, ◌-ℤ◌, ◌*ℤ◌, neg_ℤ, unsigned_abs}
use Rattle.std.specs.Int.{int_max, int_min}

-- no whole number is nearer to `num / den` than `whole`, and of two equally near it is the one further from zero
pub record IsNearest (num den whole : ℤ) : Type 0 where
  pub near : 2 * unsigned_abs (den *ℤ whole -ℤ num) ≤ unsigned_abs den
  pub away : 2 * unsigned_abs (den *ℤ whole -ℤ num) ≡ unsigned_abs den → unsigned_abs num ≤ unsigned_abs (den *ℤ whole)

-- a number of this size, with the sign of another
abbrev pub with_sign_of : ℤ → ℕ → ℤ
with_sign_of (pos _) size = pos size
with_sign_of (negsuc _) size = neg_ℤ (pos size)

-- that number: the size of the fraction and a half, rounded down, with the sign of the numerator
abbrev pub nearest : ℤ → ℤ → ℤ
nearest num den = with_sign_of num ((2 * unsigned_abs num + unsigned_abs den) / (2 * unsigned_abs den))

-- brought into -10^9 to 10^9
abbrev pub within_billion : ℤ → ℤ
within_billion z = int_min (int_max z (negsuc 999_999_999)) (pos 1_000_000_000)
