-- Units of dimensions, by "TeX: The Program", sections 453 to 458, in exact fractions.
use Rattle.std.specs.Prelude.{ℕ, ◌+◌, ◌*◌, ◌/◌, ◌%◌, ◌==◌, if◌then◌else◌, Bool, true, false}
use Rattle.etx_exprs.specs.declared.unit.Unit as the
use Rattle.etx_exprs.specs.declared.unit.Number.{Number}
use Rattle.etx_exprs.specs.declared.unit.Unit.TheVariants.{Pt, Pc, In, Cm, Mm, Bp, Dd, Cc, Sp, TruePt, TruePc, TrueIn, TrueCm, TrueMm, TrueBp, TrueDd, TrueCc, TrueSp}

-- all of a number in 65536ths: a whole part, and a fraction that may be rounded up to a whole
abbrev pub parts_of : Number → ℕ
parts_of m = m.whole * 65536 + m.fraction

abbrev pub number_in : ℕ → Number
number_in n = record { whole = n / 65536; fraction = n % 65536 }

-- A `true` unit is one on a page that is not magnified: what is less than a 65536th of it is cut off. At 1000 nothing is changed.
abbrev pub unmagnified : ℕ → Number → Number
unmagnified mag m = if mag == 1000 then m else number_in (parts_of m * 1000 / mag)

abbrev pub is_true : the.Unit → Bool
is_true Pt = false
is_true Pc = false
is_true In = false
is_true Cm = false
is_true Mm = false
is_true Bp = false
is_true Dd = false
is_true Cc = false
is_true Sp = false
is_true TruePt = true
is_true TruePc = true
is_true TrueIn = true
is_true TrueCm = true
is_true TrueMm = true
is_true TrueBp = true
is_true TrueDd = true
is_true TrueCc = true
is_true TrueSp = true

-- the size in sp: a number of sp loses its fraction, and for other units what is less than 1 sp is cut off
abbrev pub size_in : the.Unit → Number → ℕ
size_in Pt m = parts_of m
size_in Pc m = parts_of m * 12
size_in In m = parts_of m * 7227 / 100
size_in Cm m = parts_of m * 7227 / 254
size_in Mm m = parts_of m * 7227 / 2540
size_in Bp m = parts_of m * 7227 / 7200
size_in Dd m = parts_of m * 1238 / 1157
size_in Cc m = parts_of m * 14856 / 1157
size_in Sp m = m.whole
size_in TruePt m = parts_of m
size_in TruePc m = parts_of m * 12
size_in TrueIn m = parts_of m * 7227 / 100
size_in TrueCm m = parts_of m * 7227 / 254
size_in TrueMm m = parts_of m * 7227 / 2540
size_in TrueBp m = parts_of m * 7227 / 7200
size_in TrueDd m = parts_of m * 1238 / 1157
size_in TrueCc m = parts_of m * 14856 / 1157
size_in TrueSp m = m.whole

abbrev pub number_for : the.Unit → ℕ → Number → Number
number_for unit mag m = if is_true unit then unmagnified mag m else m

-- the size of so many wholes and 65536ths of a unit, on a page magnified so
unfoldable pub converted : the.Unit → ℕ → ℕ → ℕ → ℕ
converted unit whole fraction mag = size_in unit (number_for unit mag (record { whole = whole; fraction = fraction }))
