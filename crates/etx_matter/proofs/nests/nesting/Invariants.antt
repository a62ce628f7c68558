use Rattle.std.proofs.Common.{◌≡◌, max, min, drop}
use Rattle.etx_matter.specs.Nests.{list_nesting, AreNested}
use Rattle.etx_matter.proofs.nests.nesting.Given as goal

abbrev pub invariant-loop-node : goal.invariant-loop-node
invariant-loop-node l =
    (max l.most (min (list_nesting (drop l.node-index l.node-items)) 1073741824) ≡ min (list_nesting l.list) 1073741824)
    × AreNested (drop l.node-index l.node-items)
