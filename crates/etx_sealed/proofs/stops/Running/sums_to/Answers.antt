use Rattle.std.proofs.Common.{◌+◌, ◌-◌, ◌≤◌, ◌∙◌, length, drop, ap, arith}
use Rattle.etx_sealed.specs.Sums.{measure_all}
use Rattle.etx_sealed.proofs.Summing.{few_taken, joined_at, joined_to, smaller}
use Rattle.etx_sealed.proofs.stops.Running.sums_to.Goals as goal

pub returns-clause-value : goal.returns-clause-value
returns-clause-value c =
    joined_to c.args.nodes.now c.args.self.now.at c.args.to c.min-to.result c.args.self.now.sums c.measure_all-more.result c.plus-sums.result
    c.requires.running.sums (c.measure_all-more.ensures.value ∙ ap measure_all c.section-2.ensures.value) c.plus-sums.ensures.value
    (omega (arith, c.if-to-self.false)) c.min-to.ensures

pub returns-clause-small : goal.returns-clause-small
returns-clause-small c =
    let first = c.args.self.now.at in
    let last = c.min-to.result in
    let few : length c.section-2.result.now ≤ last - first = omega (arith, ap length c.section-2.ensures.value, few_taken (last - first) (drop first c.args.nodes.now)) in
    smaller (first + length c.section-2.result.now) 1073741824 c.plus-sums.result
    (omega (arith, few, c.if-to-self.false, c.min-to.ensures, c.requires.few))
    (c.plus-sums.ensures.small first (length c.section-2.result.now) c.requires.running.small c.measure_all-more.ensures.small)

pub returns-clause-running : goal.returns-clause-running
returns-clause-running c =
    let first = c.args.self.now.at in
    let last = c.min-to.result in
    let few : length c.section-2.result.now ≤ last - first = omega (arith, ap length c.section-2.ensures.value, few_taken (last - first) (drop first c.args.nodes.now)) in
    record {
      within = omega (arith, c.min-to.ensures);
      sums =
          joined_at c.args.nodes.now first last c.args.self.now.sums c.measure_all-more.result c.plus-sums.result
          c.requires.running.sums (c.measure_all-more.ensures.value ∙ ap measure_all c.section-2.ensures.value) c.plus-sums.ensures.value
          (omega (arith, c.if-to-self.false));
      small =
          smaller (first + length c.section-2.result.now) last c.plus-sums.result
          (omega (arith, few, c.if-to-self.false))
          (c.plus-sums.ensures.small first (length c.section-2.result.now) c.requires.running.small c.measure_all-more.ensures.small);
    }
