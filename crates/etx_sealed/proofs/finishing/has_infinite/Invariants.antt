use Rattle.std.proofs.Common.{◌≡◌, drop}
use Rattle.std.specs.List.{list_any}
use Rattle.etx_sealed.specs.Paragraphs.{is_infinite_node}
use Rattle.etx_sealed.proofs.finishing.has_infinite.Given as goal

abbrev pub invariant-loop-node : goal.invariant-loop-node
invariant-loop-node l = list_any is_infinite_node (drop l.node-index l.node-items) ≡ list_any is_infinite_node l.list
