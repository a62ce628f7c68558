use Rattle.std.proofs.Common.{◌≡◌, drop}
use Rattle.etx_pack.specs.Sums.{AreSmall}
use Rattle.etx_pack.specs.Walks.{vertical_sizes}
use Rattle.etx_pack.proofs.Walking.{vertical_from}
use Rattle.etx_pack.proofs.walks.measure_vertical.Given as goal

abbrev pub invariant-loop-node : goal.invariant-loop-node
invariant-loop-node l = record {
  sizes : vertical_from l.sizes (drop l.node-index l.node-items) ≡ vertical_sizes l.list;
  small : AreSmall l.node-index l.sizes.along;
}
