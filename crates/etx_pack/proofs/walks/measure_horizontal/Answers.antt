use Rattle.std.proofs.Common.{sym, ◌∙◌, ap, drop, ◌+◌}
use Rattle.etx_pack.proofs.Walking.{horizontal_from, horizontal_step}
use Rattle.etx_pack.proofs.walks.measure_horizontal.Goals as goal

pub loop-node-preserved : goal.loop-node-preserved
loop-node-preserved c =
    let i = c.loop-node.node-index in
    let nodes = c.as_slice-node-items.result.now in
    record {
      sizes =
          ap (λ sizes. horizontal_from sizes (drop (i + 1) nodes)) c.add.ensures.value
          ∙ sym (horizontal_step c.loop-node.sizes nodes i c.node-item.result c.loop-node-test.true c.node-item.is)
          ∙ c.loop-node.invariant.sizes;
      small = c.add.ensures.small i c.loop-node.invariant.small;
    }
