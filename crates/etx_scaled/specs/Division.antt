-- The quotient toward zero and its remainder.
use Rattle.std.specs.Prelude.{◌≡◌, ◌<◌, ℤ, pos, ◌+ℤ◌, ◌*ℤ◌, ◌≤ℤ◌, unsigned_abs}

-- `a` divided by `d` is the quotient, and what remains is smaller than `d` and has the sign of `a`
pub record IsDivided (a d quotient remainder : ℤ) : Type 0 where
  pub whole : quotient *ℤ d +ℤ remainder ≡ a
  pub small : unsigned_abs remainder < unsigned_abs d
  pub not_below : pos 0 ≤ℤ a → pos 0 ≤ℤ remainder
  pub not_above : a ≤ℤ pos 0 → remainder ≤ℤ pos 0
