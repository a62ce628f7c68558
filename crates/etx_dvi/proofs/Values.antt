-- Numbers that are written as bytes read as the numbers.
use Rattle.std.proofs.Common.{◌≡◌, ◌<◌, ◌≤◌, ◌-◌, ◌*◌, ◌%◌, ◌^◌, inl, inr, ℕ, suc, ℤ, pos, negsuc, ◌-ℤ◌, FitsSigned, unsigned_abs, List, [], ◌∷◌, ◌++◌, drop, length, nat_lt, true, false, arith, refl, ◌∙◌, All}
use Rattle.std.proofs.lemmas.Bool.{cases_lt}
use Rattle.std.proofs.lemmas.Bool.Decides.{nat_tests}
use Rattle.std.proofs.lemmas.List.Elements.{All-head, All-tail}
use Rattle.std.proofs.lemmas.Int.{ints}
use Rattle.std.specs.List.{flat_map}
use Rattle.std.specs.Int.{w32, bytes_high_first}
use Rattle.etx_dvi.specs.Numbers.{four, signed_bytes, width_of, unsigned_at, signed_at}
use Rattle.etx_dvi.specs.Reading.{counts_at}

-- what is left of a number in so many bytes
pub one_left : (n : ℕ) (bs : List ℕ) → unsigned_at 1 (bytes_high_first 1 n ++ bs) ≡ n % 256
unfolding unsigned_at
one_left n bs = omega arith

pub two_left : (n : ℕ) (bs : List ℕ) → unsigned_at 2 (bytes_high_first 2 n ++ bs) ≡ n % 65536
unfolding unsigned_at
two_left n bs = omega arith

pub three_left : (n : ℕ) (bs : List ℕ) → unsigned_at 3 (bytes_high_first 3 n ++ bs) ≡ n % 16777216
unfolding unsigned_at
three_left n bs = omega arith

pub four_left : (n : ℕ) (bs : List ℕ) → unsigned_at 4 (bytes_high_first 4 n ++ bs) ≡ n % 4294967296
unfolding unsigned_at
four_left n bs = omega arith

-- unsigned numbers
pub one_read : (n : ℕ) (bs : List ℕ) → unsigned_at 1 (n ∷ bs) ≡ n
unfolding unsigned_at
one_read n bs = omega arith

pub two_read : (n : ℕ) (bs : List ℕ) → n < 2 ^ 16 → unsigned_at 2 (bytes_high_first 2 n ++ bs) ≡ n
two_read n bs small = two_left n bs ∙ omega arith

pub four_read : (n : ℕ) (bs : List ℕ) → n < 2 ^ 32 → unsigned_at 4 (bytes_high_first 4 n ++ bs) ≡ n
four_read n bs small = four_left n bs ∙ omega arith

-- the number that reads as n in bytes of which there are k
lower : (k n : ℕ) (bs : List ℕ) → unsigned_at k bs ≡ n → 2 * n < 256 ^ k → signed_at k bs ≡ pos n
unfolding signed_at
lower k n bs same half = let test : nat_lt (2 * n) (256 ^ k) ≡ true = grind (arith, nat_tests) in rw (same, test) refl

upper : (k n : ℕ) (bs : List ℕ) → unsigned_at k bs ≡ n → 256 ^ k ≤ 2 * n → signed_at k bs ≡ pos n -ℤ pos (256 ^ k)
unfolding signed_at
upper k n bs same half = let test : nat_lt (2 * n) (256 ^ k) ≡ false = grind (arith, nat_tests) in rw (same, test) refl

-- signed numbers, in one to four bytes
pub signed_one : (z : ℤ) (bs : List ℕ) → unsigned_abs z < 128 → signed_at 1 (signed_bytes 1 z ++ bs) ≡ z
signed_one (pos n) bs small = lower 1 n _ (one_left n bs ∙ omega arith) (omega arith)
signed_one (negsuc n) bs small = upper 1 (256 - suc n) _ (one_left (2 ^ 32 - suc n) bs ∙ omega arith) (omega arith) ∙ omega (arith, ints)

pub signed_two : (z : ℤ) (bs : List ℕ) → unsigned_abs z < 32768 → signed_at 2 (signed_bytes 2 z ++ bs) ≡ z
signed_two (pos n) bs small = lower 2 n _ (two_left n bs ∙ omega arith) (omega arith)
signed_two (negsuc n) bs small = upper 2 (65536 - suc n) _ (two_left (2 ^ 32 - suc n) bs ∙ omega arith) (omega arith) ∙ omega (arith, ints)

pub signed_three : (z : ℤ) (bs : List ℕ) → unsigned_abs z < 8388608 → signed_at 3 (signed_bytes 3 z ++ bs) ≡ z
signed_three (pos n) bs small = lower 3 n _ (three_left n bs ∙ omega arith) (omega arith)
signed_three (negsuc n) bs small = upper 3 (16777216 - suc n) _ (three_left (2 ^ 32 - suc n) bs ∙ omega arith) (omega arith) ∙ omega (arith, ints)

pub signed_four : (z : ℤ) (bs : List ℕ) → FitsSigned w32 z → signed_at 4 (four z ++ bs) ≡ z
signed_four (pos n) bs fits = lower 4 n _ (four_left n bs ∙ omega (arith, fits.sfits)) (omega (arith, fits.sfits))
signed_four (negsuc n) bs fits =
    upper 4 (2 ^ 32 - suc n) _ (four_left (2 ^ 32 - suc n) bs ∙ omega (arith, fits.sfits)) (omega (arith, fits.sfits)) ∙ omega (arith, ints, fits.sfits)

-- a movement has as many bytes as its size asks for
pub data Width (z : ℤ) : Type 0 where
  one : width_of z ≡ 1 → unsigned_abs z < 128 → Width z
  two : width_of z ≡ 2 → unsigned_abs z < 32768 → Width z
  three : width_of z ≡ 3 → unsigned_abs z < 8388608 → Width z
  whole : width_of z ≡ 4 → Width z

pub width : (z : ℤ) → Width z
width z = elim (cases_lt (unsigned_abs z) 128) [
  | inl small ↦ one (grind (arith, nat_tests)) small
  | inr more ↦ elim (cases_lt (unsigned_abs z) 32768) [
    | inl small ↦ two (grind (arith, nat_tests)) small
    | inr more' ↦ elim (cases_lt (unsigned_abs z) 8388608) [
      | inl small ↦ three (grind (arith, nat_tests)) small
      | inr more'' ↦ whole (grind (arith, nat_tests))
    ]
  ]
]

pub movement_read : (z : ℤ) (bs : List ℕ) → FitsSigned w32 z → signed_at (width_of z) (signed_bytes (width_of z) z ++ bs) ≡ z
movement_read z bs fits = elim (width z) [
  | one e small ↦ rw e (signed_one z bs small)
  | two e small ↦ rw e (signed_two z bs small)
  | three e small ↦ rw e (signed_three z bs small)
  | whole e ↦ rw e (signed_four z bs fits)
]

-- the counts of a page
pub counts_read : (counts : List ℤ) (bs : List ℕ) → All (λ z. FitsSigned w32 z) counts → counts_at (length counts) (flat_map four counts ++ bs) ≡ counts
unfolding counts_at
counts_read [] bs fits = refl
counts_read (z ∷ zs) bs fits =
    let first : signed_at 4 (four z ++ (flat_map four zs ++ bs)) ≡ z = signed_four z (flat_map four zs ++ bs) (All-head (λ z. FitsSigned w32 z) z zs fits) in
    rw (first, counts_read zs bs (All-tail (λ z. FitsSigned w32 z) z zs fits)) refl

pub counts_dropped : (counts : List ℤ) (bs : List ℕ) → drop (4 * length counts) (flat_map four counts ++ bs) ≡ bs
counts_dropped [] bs = refl
counts_dropped (z ∷ zs) bs =
    let same : 4 * suc (length zs) ≡ suc (suc (suc (suc (4 * length zs)))) = omega arith in
    rw same (counts_dropped zs bs)
