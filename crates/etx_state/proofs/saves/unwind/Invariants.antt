use Rattle.std.proofs.Common.{◌≡◌, length}
use Rattle.etx_state.specs.Saves.{left_of, items_of, cells_of, IsSound, KeepsIn}
use Rattle.etx_state.proofs.saves.unwind.Given as goal

abbrev pub invariant-loop-item : goal.invariant-loop-item
invariant-loop-item l = record {
  left : left_of l.noted (items_of l.parts) (cells_of l.parts) ≡ left_of l.initial.noted (items_of l.initial.parts) (cells_of l.initial.parts);
  sound : IsSound l.parts;
  kept : KeepsIn l.initial.parts l.parts;
}

abbrev pub decreases-loop-item : goal.decreases-loop-item
decreases-loop-item l = length (items_of l.parts)
