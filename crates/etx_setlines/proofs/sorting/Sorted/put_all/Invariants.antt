use Rattle.std.proofs.Common.{◌≡◌, ◌++◌, drop}
use Rattle.etx_setlines.specs.Moves.{staying, moving}
use Rattle.etx_setlines.specs.Sortings.{BothNested}
use Rattle.etx_setlines.proofs.sorting.Sorted.put_all.Given as goal

abbrev pub invariant-loop-node : goal.invariant-loop-node
invariant-loop-node l = record {
  line : l.self.line ++ staying (drop l.node-index l.nodes) ≡ l.initial.self.line ++ staying l.nodes;
  nested : BothNested l.initial.self → BothNested l.self;
  moved : l.self.moved ++ moving (drop l.node-index l.nodes) ≡ l.initial.self.moved ++ moving l.nodes;
}
