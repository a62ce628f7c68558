-- A number of scaled points as a decimal number of points, and what TeX reads from one.
use Rattle.std.specs.Prelude.{ℕ, zero, suc, ◌+◌, ◌-◌, ◌*◌, ◌/◌, ◌%◌, nat_le, nat_lt, if◌then◌else◌, ℤ, pos, negsuc, List, [], ◌∷◌, ◌++◌, map}
use Rattle.std.specs.Fmt.{decimal}

-- what is left to print, with its last digit rounded where that is the fifth
abbrev pub rounded : ℕ → ℕ → ℕ
rounded s delta = if nat_lt 65536 delta then s + 32768 - 50000 else s

-- the digits of s / 655360, at most so many and at least one, until they are within delta / 655360:
-- "TeX: The Program", section 103. The number of places is there only so that the recursion is seen to end: where delta
-- begins with 10, it is 100000 at the fifth digit, and what a digit leaves, below 655360, is then within ten times that.
-- So five places are enough, and with more the digits are the same (the law `decimals_read_back`).
unfoldable pub fraction_digits : ℕ → ℕ → ℕ → List ℕ
fraction_digits zero s delta = []
fraction_digits (suc places) s delta =
    let t = rounded s delta in
    let rest = 10 * (t % 65536) in
    t / 65536 ∷ (if nat_le rest (10 * delta) then [] else fraction_digits places rest (10 * delta))

-- the digits behind the full stop, for a fraction of so many scaled points: half a scaled point is added to what is
-- printed, and what is left out is to be less than one
abbrev pub digits_of_fraction : ℕ → List ℕ
digits_of_fraction f = fraction_digits 5 (10 * f + 5) 10

-- digits as the bytes that show them
abbrev pub glyphs : List ℕ → List ℕ
glyphs ds = map (λ d. 48 + d) ds

-- the whole part, a full stop (46) and the digits of the fraction
abbrev pub unsigned_text : ℕ → List ℕ
unsigned_text n = decimal (n / 65536) ++ 46 ∷ glyphs (digits_of_fraction (n % 65536))

-- a minus sign (45) in front of what is below zero
abbrev pub decimal_text : ℤ → List ℕ
decimal_text (pos n) = unsigned_text n
decimal_text (negsuc n) = 45 ∷ unsigned_text (suc n)
