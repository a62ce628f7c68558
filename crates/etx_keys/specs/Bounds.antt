-- Numbers within their bounds.
use Rattle.std.specs.Prelude.{ℕ, nat_lt, if◌then◌else◌, Option, None, Some}

-- a number below a bound
abbrev pub below : ℕ → ℕ → Option ℕ
below bound number = if nat_lt number bound then Some number else None

-- a code, or the number of a font
abbrev pub byte_in : ℕ → Option ℕ
byte_in number = below 256 number

-- the number of a register or a class of marks
abbrev pub number_in : ℕ → Option ℕ
number_in number = below 32768 number

-- the number of a math family or a stream
abbrev pub four_bits_in : ℕ → Option ℕ
four_bits_in number = below 16 number
