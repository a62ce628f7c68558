use Rattle.std.proofs.Common.{◌≡◌, ◌++◌, length, drop}
use Rattle.etx_linebreak.specs.Rows.{rows_within}
use Rattle.etx_linebreak.proofs.bests.add_within.Given as goal

abbrev pub invariant-loop-best : goal.invariant-loop-best
invariant-loop-best l =
    (l.rows.items ++ rows_within l.break_number l.limit (length l.rows.items) (drop l.best-index l.bests) ≡ l.initial.rows.items ++ rows_within l.break_number l.limit (length l.initial.rows.items) l.bests)
    × (l.active.items ++ rows_within l.break_number l.limit (length l.rows.items) (drop l.best-index l.bests) ≡ l.initial.active.items ++ rows_within l.break_number l.limit (length l.initial.rows.items) l.bests)
