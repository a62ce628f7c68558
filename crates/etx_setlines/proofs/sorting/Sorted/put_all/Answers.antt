use Rattle.std.proofs.Common.{sym, subst}
use Rattle.etx_matter.specs.Nests.{IsNested}
use Rattle.etx_setlines.proofs.Nesting.{nested_item}
use Rattle.etx_setlines.proofs.sorting.Sorted.put_all.Goals as goal

pub put-requires : goal.put-requires
put-requires c =
    subst IsNested (sym c.in_ok-copy.ensures)
    (nested_item c.args.nodes.now c.loop-node.node-index c.node-item.result c.requires c.loop-node-test.true c.node-item.is)
