-- Lists whose items are counted from a number on.
use Rattle.std.proofs.Common.{◌≡◌, ℕ, zero, suc, ◌+◌, List, [], ◌∷◌, map, Some, ap, arith}
use Rattle.std.specs.Prelude.{slice_get}

-- so many numbers from one on
abbrev pub numbers_from : ℕ → ℕ → List ℕ
numbers_from from zero = []
numbers_from from (suc count) = from ∷ numbers_from (suc from) count

heads : (x y : ℕ) (xs ys : List ℕ) → x ∷ xs ≡ y ∷ ys → x ≡ y
heads x y xs ys e = cc

tails : (x y : ℕ) (xs ys : List ℕ) → x ∷ xs ≡ y ∷ ys → xs ≡ ys
tails x y xs ys e = cc

same : {X : Type 0} (x y : X) → Some x ≡ Some y → x ≡ y
same x y e = cc

-- an item stands at the place of its number
pub counted : {X : Type 0} (number : X → ℕ) (xs : List X) (from count : ℕ) → map number xs ≡ numbers_from from count
    → (place : ℕ) (x : X) → slice_get xs place ≡ Some x → number x ≡ from + place
counted number [] from count e place x h = absurd (cc)
counted number (y ∷ ys) from zero e place x h = absurd (cc)
counted number (y ∷ ys) from (suc count) e zero x h =
    let k : y ≡ x = same y x h in
    let first : number y ≡ from = heads (number y) from (map number ys) (numbers_from (suc from) count) e in
    let on : number y ≡ number x = ap number k in
    omega (arith, first, on)
counted number (y ∷ ys) from (suc count) e (suc place) x h =
    let rest : map number ys ≡ numbers_from (suc from) count = tails (number y) from (map number ys) (numbers_from (suc from) count) e in
    let on : number x ≡ suc from + place = counted number ys (suc from) count rest place x h in
    omega (arith, on)
