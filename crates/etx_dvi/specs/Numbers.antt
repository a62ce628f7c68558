-- Numbers as bytes, the highest first, negative ones in two's complement.
use Rattle.std.specs.Prelude.{ℕ, zero, suc, ◌+◌, ◌-◌, ◌*◌, ◌^◌, nat_lt, if◌then◌else◌, ℤ, pos, negsuc, ◌-ℤ◌, unsigned_abs, List, [], ◌∷◌}
use Rattle.std.specs.Int.{bytes_high_first}

-- what stands for a number in two's complement of 32 bits: a number below zero is counted down from 2^32
abbrev pub complement : ℤ → ℕ
complement (pos n) = n
complement (negsuc n) = 2 ^ 32 - suc n

-- the lowest bytes of a number's two's complement, so many of them
abbrev pub signed_bytes : ℕ → ℤ → List ℕ
signed_bytes k z = bytes_high_first k (complement z)

abbrev pub four : ℤ → List ℕ
four z = signed_bytes 4 z

-- how many bytes a movement takes
abbrev pub width_of : ℤ → ℕ
width_of z =
    let size = unsigned_abs z in
    if nat_lt size 128 then 1 else (if nat_lt size 32768 then 2 else (if nat_lt size 8388608 then 3 else 4))

-- the number that the first bytes of a list write; a byte that isn't there counts as 0
unfoldable pub unsigned_at : ℕ → List ℕ → ℕ
unsigned_at zero bs = 0
unsigned_at (suc k) [] = 0
unsigned_at (suc k) (b ∷ bs) = b * 256 ^ k + unsigned_at k bs

-- the same in two's complement: the upper half of the numbers stands for those below zero
unfoldable pub signed_at : ℕ → List ℕ → ℤ
signed_at k bs =
    let n = unsigned_at k bs in
    if nat_lt (2 * n) (256 ^ k) then pos n else pos n -ℤ pos (256 ^ k)
