use Rattle.std.proofs.Common.{◌∙◌, ◌+◌, ap, drop, arith}
use Rattle.etx_sealed.specs.declared.measure.Measure.{Measure}
use Rattle.etx_sealed.specs.Sums.{plus, measure_all}
use Rattle.etx_sealed.proofs.Summing.{sums_step, sums_end}
use Rattle.etx_sealed.proofs.measure.measure_all.Goals as goal

pub loop-node-preserved : goal.loop-node-preserved
loop-node-preserved c =
    let i = c.loop-node.node-index in
    let nodes = c.args.nodes.now in
    record {
      sums =
          ap (λ (sums : Measure). plus sums (measure_all (drop (i + 1) nodes))) c.add.ensures.value
          ∙ sums_step c.loop-node.sums nodes i c.node-item.result c.loop-node-test.true c.node-item.is
          ∙ c.loop-node.invariant.sums;
      small = c.add.ensures.small i c.loop-node.invariant.small;
    }

pub returns-clause-value : goal.returns-clause-value
returns-clause-value c =
    sums_end c.loop-node.sums c.args.nodes.now c.loop-node.node-index (omega (arith, c.loop-node-test.false)) c.loop-node.invariant.sums
