-- What a walk over the active list does, group by group.
use Rattle.std.specs.Prelude.{ℕ, zero, suc, ◌+◌, ◌≤◌, if◌then◌else◌, List, [], ◌∷◌, ◌++◌, length, Option}
use Rattle.std.specs.List.{filter}
use Rattle.etx_linebreak.specs.Passes.{PassState}
use Rattle.etx_linebreak.specs.declared.row.Row.{Row}
use Rattle.etx_linebreak.specs.Rows.{stays, last_resort, group_of, is_in, made_in, made_before}

-- rows whose groups ascend from a group on
abbrev pub IsInGroups : PassState → ℕ → List Row → Type 0
IsInGroups p g [] = Unit {0}
IsInGroups p g (r ∷ rs) = (g ≤ group_of p r) × IsInGroups p (group_of p r) rs

-- how many of the first rows are of a group
unfoldable pub run : PassState → ℕ → List Row → ℕ
run p g [] = 0
run p g (r ∷ rs) = if is_in p g r then suc (run p g rs) else 0

-- what stays of the groups before one, each followed by what it makes
unfoldable pub next_before : PassState → ℕ → Option ℕ → ℕ → ℕ → List Row → List Row
next_before p j resort number zero rows = []
next_before p j resort number (suc g) rows =
    next_before p j resort number g rows
    ++ (filter (stays p j) (filter (is_in p g) rows) ++ made_in p j resort (number + length (made_before p j resort number g rows)) g rows)

unfoldable pub next_of : PassState → ℕ → ℕ → List Row → List Row
next_of p j number rows = next_before p j (last_resort p j rows) number (suc p.easy) rows
