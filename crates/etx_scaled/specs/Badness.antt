-- How bad it is to stretch or shrink glue that much, by "TeX: The Program", section 108.
use Rattle.std.specs.Prelude.{ℕ, zero, suc, ◌+◌, ◌*◌, ◌/◌, nat_le, if◌then◌else◌, ℤ, pos, negsuc}

-- about 297 times t / s, in three cases, none of which leaves 31 bits
abbrev pub ratio_of : ℕ → ℕ → ℕ
ratio_of t s = if nat_le t 7_230_584 then t * 297 / s else (if nat_le 1_663_497 s then t / (s / 297) else t)

-- the cube of the ratio over 2^18, rounded to the nearest, and 10000 where the ratio is above 1290
abbrev pub badness_at : ℕ → ℕ
badness_at r = if nat_le r 1290 then (r * r * r + 131_072) / 262_144 else 10_000

-- to fill t sp with glue that has s sp: nothing to fill is not bad, and without glue it is infinitely bad
abbrev pub badness_of : ℕ → ℤ → ℕ
badness_of zero _ = 0
badness_of (suc t) (negsuc _) = 10_000
badness_of (suc t) (pos zero) = 10_000
badness_of (suc t) (pos (suc s)) = badness_at (ratio_of (suc t) (suc s))
