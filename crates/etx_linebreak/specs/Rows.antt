-- What rows give at a break.
use Rattle.std.specs.Prelude.{ℕ, zero, suc, min, ◌==◌, ◌+◌, Bool, true, false, not, ◌&&◌, ◌||◌, if◌then◌else◌, ℤ, pos, ◌+ℤ◌, unsigned_abs, int_le, List, [], ◌∷◌, length, ◌-◌, ◌++◌, slice_get, Option, Some, None, is_none}
use Rattle.std.specs.List.{filter}
use Rattle.etx_linebreak.specs.Passes.{PassState}
use Rattle.etx_linebreak.specs.declared.row.Class.{Class}
use Rattle.etx_linebreak.specs.declared.row.Class.TheVariants.{VeryLoose, Loose, Decent, Tight}
use Rattle.etx_linebreak.specs.declared.row.Row.{Row}
use Rattle.etx_linebreak.specs.declared.row.Candidate.{Candidate}
use Rattle.etx_linebreak.specs.declared.line.Line.{Line}
use Rattle.etx_linebreak.specs.declared.bests.Bests.{Bests}
use Rattle.etx_linebreak.specs.Lines.{measured, is_forced, demerits}

-- whether a row, if it is still live, closes at a break
unfoldable pub closes_by : PassState → ℕ → Line → Bool
closes_by p j line = line.is_overfull || is_forced p j

abbrev pub closes : PassState → ℕ → Row → Bool
closes p j r = closes_by p j (measured p j r)

unfoldable pub stays : PassState → ℕ → Row → Bool
stays p j r = not (closes p j r)

abbrev pub by_line : Row → Line → ℤ → Candidate
by_line r line total = record { line = r.line + 1; class = line.class; total = total; before = r.number }

-- the candidate that a live row gives at a break by its line
unfoldable pub offer_by : PassState → ℕ → Row → Line → Option Candidate
offer_by p j r line =
    if not line.is_overfull && int_le line.badness p.threshold
    then Some (by_line r line (r.total +ℤ demerits p j r line))
    else None

abbrev pub offer : PassState → ℕ → Row → Option Candidate
offer p j r = offer_by p j r (measured p j r)

-- of two of one class the later one wins a tie
unfoldable pub better : Option Candidate → Candidate → Option Candidate
better None new = Some new
better (Some old) new = if int_le new.total old.total then Some new else Some old

abbrev pub no_bests : Bests
no_bests = record { very_loose = None; loose = None; decent = None; tight = None }

abbrev pub with_in : Class → Bests → Candidate → Bests
with_in VeryLoose bests new = record bests { very_loose = better bests.very_loose new }
with_in Loose bests new = record bests { loose = better bests.loose new }
with_in Decent bests new = record bests { decent = better bests.decent new }
with_in Tight bests new = record bests { tight = better bests.tight new }

unfoldable pub with_offer : Bests → Option Candidate → Bests
with_offer bests None = bests
with_offer bests (Some new) = with_in new.class bests new

abbrev pub is_number : ℕ → Option ℕ → Bool
is_number n None = false
is_number n (Some m) = n == m

-- what a row gives where the row of this number, if any, is the last resort: the artificial line adds nothing
unfoldable pub gives_by : PassState → ℕ → Option ℕ → Row → Line → Option Candidate
gives_by p j resort r line = if is_number r.number resort then Some (by_line r line r.total) else offer_by p j r line

abbrev pub gives : PassState → ℕ → Option ℕ → Row → Option Candidate
gives p j resort r = gives_by p j resort r (measured p j r)

-- the best of each class among those that some rows give, after others
unfoldable pub bests_after : PassState → ℕ → Option ℕ → Bests → List Row → Bests
bests_after p j resort bests [] = bests
bests_after p j resort bests (r ∷ rs) = bests_after p j resort (with_offer bests (gives p j resort r)) rs

unfoldable pub by_class : Bests → List (Option Candidate)
by_class bests = bests.very_loose ∷ (bests.loose ∷ (bests.decent ∷ (bests.tight ∷ [])))

-- the least total
unfoldable pub lesser : Option ℤ → Option Candidate → Option ℤ
lesser least None = least
lesser None (Some it) = Some it.total
lesser (Some least) (Some it) = if int_le it.total least then Some it.total else Some least

unfoldable pub least_after : Option ℤ → List (Option Candidate) → Option ℤ
least_after least [] = least
least_after least (it ∷ rest) = least_after (lesser least it) rest

abbrev pub row_of : ℕ → ℕ → Candidate → Row
row_of j number it = record { number = number; break_number = j; line = it.line; class = it.class; total = it.total; before = it.before }

-- a class gets a row if its best is within a limit; rows are numbered on
unfoldable pub row_if : ℕ → ℤ → ℕ → Option Candidate → List Row
row_if j limit number None = []
row_if j limit number (Some it) = if int_le it.total limit then row_of j number it ∷ [] else []

unfoldable pub rows_within : ℕ → ℤ → ℕ → List (Option Candidate) → List Row
rows_within j limit number [] = []
rows_within j limit number (it ∷ rest) = row_if j limit number it ++ rows_within j limit (number + length (row_if j limit number it)) rest

unfoldable pub kept_at : ℕ → ℕ → Option ℤ → ℕ → List (Option Candidate) → List Row
kept_at far j None number bests = []
kept_at far j (Some least) number bests = rows_within j (least +ℤ pos far) number bests

-- the rows that a group makes
unfoldable pub kept_rows : PassState → ℕ → ℕ → Bests → List Row
kept_rows p j number bests = kept_at (unsigned_abs p.paragraph.params.breaks.adj_demerits) j (least_after None (by_class bests)) number (by_class bests)

abbrev pub is_empty : List Row → Bool
is_empty [] = true
is_empty (r ∷ rs) = false

-- every row closes, and none before the last gives a candidate
unfoldable pub is_stuck : PassState → ℕ → List Row → Bool
is_stuck p j [] = true
is_stuck p j (r ∷ rs) = closes p j r && (is_empty rs || is_none (offer p j r)) && is_stuck p j rs

abbrev pub number_in : Option Row → Option ℕ
number_in None = None
number_in (Some r) = Some r.number

-- the row that gives the artificial line: the last one, on the final pass
unfoldable pub last_resort : PassState → ℕ → List Row → Option ℕ
last_resort p j live = if p.is_final && is_stuck p j live then number_in (slice_get live (length live - 1)) else None

-- rows of one line below the easy one form a group, and all others form one
unfoldable pub group_of : PassState → Row → ℕ
group_of p r = min r.line p.easy

unfoldable pub is_in : PassState → ℕ → Row → Bool
is_in p g r = group_of p r == g

-- what a group makes
unfoldable pub made_in : PassState → ℕ → Option ℕ → ℕ → ℕ → List Row → List Row
made_in p j resort number g live = kept_rows p j number (bests_after p j resort no_bests (filter (is_in p g) live))

-- what the groups before one make, numbered from a number on
unfoldable pub made_before : PassState → ℕ → Option ℕ → ℕ → ℕ → List Row → List Row
made_before p j resort number zero live = []
made_before p j resort number (suc g) live =
    made_before p j resort number g live ++ made_in p j resort (number + length (made_before p j resort number g live)) g live

-- the rows that are made at a break of those that are live there
unfoldable pub made : PassState → ℕ → ℕ → List Row → List Row
made p j number live = made_before p j (last_resort p j live) number (suc p.easy) live
