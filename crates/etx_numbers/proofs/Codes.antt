-- Texts of one character.
use Rattle.std.proofs.Common.{◌≡◌, ◌≢◌, ℕ, ◌+◌, List, [], ◌∷◌, length, Some, None, slice_index_or, refl, arith}
use Rattle.etx_numbers.specs.Numbers.{only_code}

pub only_one : (xs : List ℕ) → length xs ≡ 1 → Some (slice_index_or xs 0 0) ≡ only_code xs
unfolding only_code
only_one [] h = absurd (omega arith)
only_one (x ∷ []) h = refl
only_one (x ∷ y ∷ ys) h = absurd (omega arith)

pub not_one : (xs : List ℕ) → length xs ≢ 1 → None ≡ only_code xs
unfolding only_code
not_one [] h = refl
not_one (x ∷ []) h = absurd (h refl)
not_one (x ∷ y ∷ ys) h = refl
