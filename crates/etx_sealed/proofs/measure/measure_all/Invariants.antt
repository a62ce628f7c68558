use Rattle.std.proofs.Common.{◌≡◌, drop}
use Rattle.etx_sealed.specs.Sums.{plus, measure_all, IsSmall}
use Rattle.etx_sealed.proofs.measure.measure_all.Given as goal

abbrev pub invariant-loop-node : goal.invariant-loop-node
invariant-loop-node l = record {
  sums : plus l.sums (measure_all (drop l.node-index l.nodes)) ≡ measure_all l.nodes;
  small : IsSmall l.node-index l.sums;
}
