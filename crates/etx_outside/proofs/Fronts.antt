-- First entries of histories.
use Rattle.std.proofs.Common.{◌≡◌, ℕ, zero, suc, List, [], ◌∷◌, ◌++◌, map, take, drop, refl, ap}
use Rattle.etx_outside.specs.Entries.{Entry, said, shown}

pub map_parts : (f : ℕ → Entry) (n : ℕ) (xs : List ℕ) → map f (take n xs) ++ map f (drop n xs) ≡ map f xs
map_parts f zero xs = refl
map_parts f (suc n) [] = refl
map_parts f (suc n) (x ∷ xs) = ap (λ (l : List Entry). f x ∷ l) (map_parts f n xs)

pub said-shown : (xs : List ℕ) → said (shown xs) ≡ xs
said-shown [] = refl
said-shown (x ∷ xs) = ap (λ (l : List ℕ). x ∷ l) (said-shown xs)
