use Rattle.std.proofs.Common.{◌≡◌, ◌≤◌, length, take, reverse}
use Rattle.etx_state.specs.Saves.{items_of, kind_in}
use Rattle.etx_state.proofs.saves.last_kind.Given as goal

abbrev pub invariant-loop-count : goal.invariant-loop-count
invariant-loop-count l = record {
  within : l.count ≤ length l.parts.stack.items;
  same : kind_in (reverse (take l.count l.parts.stack.items)) ≡ kind_in (items_of l.parts);
}

abbrev pub decreases-loop-count : goal.decreases-loop-count
decreases-loop-count l = l.count
