-- How many bytes there are.
use Rattle.std.proofs.Common.{◌≡◌, ◌+◌, ◌*◌, ℕ, zero, suc, ℤ, List, [], ◌∷◌, ◌++◌, length, length-append, arith, refl, ap}
use Rattle.std.specs.List.{flat_map}
use Rattle.std.specs.Int.{bytes_high_first}
use Rattle.etx_dvi.specs.Commands.{movement}
use Rattle.etx_dvi.specs.Numbers.{four, width_of, complement}

pub length-bytes_high_first : (k n : ℕ) → length (bytes_high_first k n) ≡ k
length-bytes_high_first zero n = refl
length-bytes_high_first (suc k) n = ap (λ m. suc m) (length-bytes_high_first k n)

pub length-movement : (before : ℕ) (amount : ℤ) → length (movement before amount) ≡ 1 + width_of amount
length-movement before amount = let e = length-bytes_high_first (width_of amount) (complement amount) in omega arith

pub length-counts : (counts : List ℤ) → length (flat_map four counts) ≡ 4 * length counts
length-counts [] = refl
length-counts (z ∷ zs) = omega (arith, length-append (four z) (flat_map four zs), length-counts zs)

pub length-page : (counts : List ℤ) (last : ℤ) → length (139 ∷ flat_map four counts ++ four last) ≡ 5 + 4 * length counts
length-page counts last = omega (arith, length-append (139 ∷ flat_map four counts) (four last), length-counts counts)

pub ruleset lengths = (length-movement, length-page)
