-- What TeX reads from a decimal number of points, as a number of scaled points.
use Rattle.std.specs.Prelude.{ℕ, ◌+◌, ◌-◌, ◌*◌, ◌/◌, ◌==◌, if◌then◌else◌, ℤ, pos, neg_ℤ, List, [], ◌∷◌, map}

-- twice the fraction whose digits these are, in scaled points, rounded down: the digits behind a full stop are taken in
-- from the last, by "TeX: The Program", section 102
abbrev pub doubled_fraction : List ℕ → ℕ
doubled_fraction [] = 0
doubled_fraction (d ∷ ds) = (doubled_fraction ds + d * 131072) / 10

-- the fraction, rounded
abbrev pub fraction_read : List ℕ → ℕ
fraction_read ds = (doubled_fraction ds + 1) / 2

-- a whole part that has come as far as n, up to a full stop (46), and the fraction behind it; a digit's byte is 48 more
abbrev pub unsigned_read : ℕ → List ℕ → ℕ
unsigned_read n [] = n * 65536
unsigned_read n (c ∷ cs) =
    if c == 46 then n * 65536 + fraction_read (map (λ d. d - 48) cs) else unsigned_read (10 * n + (c - 48)) cs

-- a minus sign (45) in front makes it negative
abbrev pub scaled_read : List ℕ → ℤ
scaled_read [] = pos 0
scaled_read (c ∷ cs) = if c == 45 then neg_ℤ (pos (unsigned_read 0 cs)) else pos (unsigned_read 0 (c ∷ cs))
