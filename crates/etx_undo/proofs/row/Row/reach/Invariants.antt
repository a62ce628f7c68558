use Rattle.std.proofs.Common.{◌≡◌, ◌<◌, ◌+◌, ◌-◌, ℕ}
use Rattle.etx_undo.specs.Rows.{value_at}
use Rattle.etx_undo.proofs.row.Row.reach.Given as goal

abbrev pub invariant-loop-self : goal.invariant-loop-self
invariant-loop-self g l = record {
  same : (i : ℕ) → value_at l.self-inside.cells.items i ≡ value_at l.initial.self-inside.cells.items i;
  room : l.at < l.self-inside.cells.cap;
}

abbrev pub decreases-loop-self : goal.decreases-loop-self
decreases-loop-self g l = l.at + 1 - l.self-inside.cells.len
