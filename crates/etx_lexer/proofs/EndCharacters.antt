-- The character that ends each line.
use Rattle.std.proofs.Common.{◌≡◌, ◌⊎◌, inl, inr, ◌<◌, ◌≤◌, ℤ, pos, negsuc, ◌<ℤ◌, ◌≤ℤ◌, [], ◌∷◌, refl, arith}
use lib.IntN.{nat_abs}
use Rattle.std.proofs.lemmas.Int.{ints}
use Rattle.std.proofs.lemmas.Bool.Decides.{nat_tests}
use Rattle.etx_lexer.specs.Places.{end_of_line}

pub end_from : (z : ℤ) → pos 0 ≤ℤ z → z <ℤ pos 256 → end_of_line z ≡ nat_abs z ∷ []
unfolding end_of_line
end_from (pos n) low high = let small : n < 256 = omega (arith, ints) in grind (arith, nat_tests)
end_from (negsuc n) low high = absurd (omega (arith, ints))

pub end_none : (z : ℤ) → (z <ℤ pos 0) ⊎ (pos 256 ≤ℤ z) → end_of_line z ≡ []
unfolding end_of_line
end_none (pos n) (inl low) = absurd (omega (arith, ints))
end_none (pos n) (inr high) = let large : 256 ≤ n = omega (arith, ints) in grind (arith, nat_tests)
end_none (negsuc n) h = refl
