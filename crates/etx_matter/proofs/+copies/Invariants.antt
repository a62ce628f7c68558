use Rattle.std.proofs.Common.{◌≡◌, take}
use Rattle.etx_matter.proofs.+copies.Given as goal

abbrev pub invariant-copies::copy_nodes-loop-node : goal.invariant-copies::copy_nodes-loop-node
invariant-copies::copy_nodes-loop-node l = l.copy ≡ take l.node-index l.node-items
