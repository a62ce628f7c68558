-- Words that stand for numbers: 20 of their 32 bits stand behind the point. "TeX: The Program", sections 541, 571, 572
-- and 575.
use Rattle.std.specs.Prelude.{ℕ, ◌+◌, ◌*◌, ◌/◌, ◌==◌, nat_lt, nat_le, if◌then◌else◌, ℤ, pos, ◌-ℤ◌}
use Rattle.etx_tfm.specs.declared.word.Word.{Word}

-- the power of two by which a size is divided, so that products stay below 2^31; a size is below 2^27
abbrev pub divisor_of : ℕ → ℕ
divisor_of size =
    if nat_lt size 8_388_608 then 1
    else (if nat_lt size 16_777_216 then 2
    else (if nat_lt size 33_554_432 then 4
    else (if nat_lt size 67_108_864 then 8 else 16)))

-- the lower three bytes times a size
abbrev pub product_of : ℕ → Word → ℕ
product_of size w = (w.d * size / 256 + w.c * size) / 256 + w.b * size

-- a multiple of the size, from -16 times it to below 16 times it: a first byte of 255 stands for a negative number
unfoldable pub fix_word : ℕ → Word → ℤ
fix_word size w =
    let alpha = 16 * divisor_of size in
    let z = size / divisor_of size in
    pos (product_of z w / (256 / alpha)) -ℤ pos (if w.a == 255 then alpha * z else 0)

-- the word as a number of 32 bits without a sign
abbrev pub whole_of : Word → ℕ
whole_of w = ((w.a * 256 + w.b) * 256 + w.c) * 256 + w.d

-- a number for itself, in 2^-16, rounded toward minus infinity: the word has a sign, and 20 bits behind the point
unfoldable pub slant_of : Word → ℤ
slant_of w = pos (whole_of w / 16) -ℤ pos (if nat_le 128 w.a then 268_435_456 else 0)
