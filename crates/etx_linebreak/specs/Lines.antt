-- The line from a row's break to a later break, how badly it is set, and what it costs ("TeX: The Program", sections 851 to
-- 859).
use Rattle.std.specs.Prelude.{ℕ, suc, ◌+◌, ◌-◌, ◌*◌, Bool, true, false, ◌&&◌, ◌||◌, ◌==◌, nat_lt, nat_le, if◌then◌else◌, ℤ, pos, negsuc, ◌+ℤ◌, ◌-ℤ◌, neg_ℤ, unsigned_abs, int_lt, int_le}
use Rattle.etx_pack.specs.declared.orders.OrderTotals.{OrderTotals}
use Rattle.etx_pack.specs.Fits.{badness_between}
use Rattle.etx_sealed.specs.declared.measure.Measure.{Measure}
use Rattle.etx_sealed.specs.Breaks.{penalty_at, is_hyphenated}
use Rattle.etx_sealed.specs.Lines.{line_measure}
use Rattle.etx_sealed.specs.Paragraphs.{is_zero}
use Rattle.etx_linebreak.specs.declared.row.Class.{Class}
use Rattle.etx_linebreak.specs.declared.row.Class.TheVariants.{VeryLoose, Loose, Decent, Tight}
use Rattle.etx_linebreak.specs.declared.row.Row.{Row}
use Rattle.etx_linebreak.specs.declared.line.Line.{Line}
use Rattle.etx_linebreak.specs.Passes.{PassState, break_at, break_count, width_of}

abbrev pub rank : Class → ℕ
rank VeryLoose = 0
rank Loose = 1
rank Decent = 2
rank Tight = 3

-- neither equal nor neighbours
unfoldable pub is_far : Class → Class → Bool
is_far a b = nat_lt 1 (rank a - rank b) || nat_lt 1 (rank b - rank a)

unfoldable pub stretched : ℤ → Line
stretched b = record { is_overfull = false; badness = b; class = if int_lt (pos 99) b then VeryLoose else (if int_lt (pos 12) b then Loose else Decent) }

unfoldable pub shrunk : ℤ → Line
shrunk b = record { is_overfull = false; badness = b; class = if int_lt (pos 12) b then Tight else Decent }

-- the shrink is too small
unfoldable pub overfull : Line
overfull = record { is_overfull = true; badness = pos 10_000; class = Tight }

unfoldable pub is_finite : OrderTotals → Bool
is_finite stretch = is_zero stretch.fil && is_zero stretch.fill && is_zero stretch.filll

-- a line that is too short by so much: with infinite stretch that isn't bad
unfoldable pub short_by : ℤ → OrderTotals → Line
short_by need stretch = if is_finite stretch then stretched (badness_between need stretch.normal) else stretched (pos 0)

-- a line that is too long by so much, or just as long as wanted
unfoldable pub long_by : ℤ → ℤ → Line
long_by need shrink = if int_lt shrink need then overfull else shrunk (badness_between need shrink)

-- a line with this measure, set to a width
unfoldable pub set_to : ℤ → Measure → Line
set_to width it =
    if int_lt it.natural width
    then short_by (width -ℤ it.natural) it.stretch
    else long_by (it.natural -ℤ width) it.shrink

abbrev pub more_stretch : ℤ → OrderTotals → OrderTotals
more_stretch more stretch = record stretch { normal = stretch.normal +ℤ more }

-- with so much more finite stretch
unfoldable pub eased : ℤ → Measure → Measure
eased more it = record it { stretch = more_stretch more it.stretch }

-- the line of a row that ends at a break
unfoldable pub measured : PassState → ℕ → Row → Line
measured p j r = set_to (width_of p r.line) (eased p.stretch (line_measure p.paragraph (break_at p r.break_number) (break_at p j)))

unfoldable pub penalty : PassState → ℕ → ℤ
penalty p j = penalty_at p.paragraph (break_at p j)

unfoldable pub is_forced : PassState → ℕ → Bool
is_forced p j = int_le (penalty p j) (negsuc 9_999)

-- of `\linepenalty` and the badness together
unfoldable pub base : ℤ → ℕ
base sum = if nat_le 10_000 (unsigned_abs sum) then 100_000_000 else unsigned_abs sum * unsigned_abs sum

-- a penalty costs its square, and a negative one gains it; a forced break neither costs nor gains
unfoldable pub penalty_cost : ℤ → ℤ
penalty_cost (pos n) = pos (n * n)
penalty_cost (negsuc n) = if nat_lt n 9_999 then neg_ℤ (pos (suc n * suc n)) else pos 0

unfoldable pub hyphenated : PassState → ℕ → Bool
hyphenated p j = is_hyphenated p.paragraph (break_at p j)

-- two lines that end in hyphens, the second of which may be the last line
unfoldable pub hyphen_cost : PassState → ℕ → Row → ℤ
hyphen_cost p j r =
    if hyphenated p r.break_number && hyphenated p j
    then (if j == break_count p then p.paragraph.params.breaks.final_hyphen_demerits else p.paragraph.params.breaks.double_hyphen_demerits)
    else pos 0

-- the classes of two lines are far from each other
unfoldable pub class_cost : PassState → Row → Line → ℤ
class_cost p r line = if is_far r.class line.class then p.paragraph.params.breaks.adj_demerits else pos 0

-- what a line costs behind a row
unfoldable pub demerits : PassState → ℕ → Row → Line → ℤ
demerits p j r line =
    pos (base (p.paragraph.params.breaks.line_penalty +ℤ line.badness)) +ℤ penalty_cost (penalty p j) +ℤ hyphen_cost p j r +ℤ class_cost p r line
