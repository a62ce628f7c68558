use Rattle.std.proofs.Common.{◌≡◌, ◌+◌, drop}
use Rattle.std.specs.List.{prefix_len}
use Rattle.etx_sealed.specs.Lines.{is_dropped}
use Rattle.etx_sealed.proofs.line.dropped_first.Given as goal

abbrev pub invariant-loop-index : goal.invariant-loop-index
invariant-loop-index l = l.index + prefix_len is_dropped (drop l.index l.nodes) ≡ prefix_len is_dropped l.nodes
