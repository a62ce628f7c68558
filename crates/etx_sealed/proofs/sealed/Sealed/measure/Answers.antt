use Rattle.std.proofs.Common.{◌∙◌, length, ap, arith}
use Rattle.etx_sealed.proofs.Placing.{whole_line_by}
use Rattle.etx_sealed.proofs.Summing.{smaller}
use Rattle.etx_sealed.proofs.sealed.Sealed.measure.Goals as goal

pub plus-requires-3-clause-first : goal.plus-requires-3-clause-first
plus-requires-3-clause-first c =
    smaller _ 1073741826 _ (omega (arith, c.after_at.ensures.small)) (c.plus.ensures.small _ _ c.sides.ensures.small c.measure_all-after.ensures.small)

pub plus-requires-3-clause-second : goal.plus-requires-3-clause-second
plus-requires-3-clause-second c =
    smaller _ 2147483648 _
    (omega (arith, c.kept.ensures.small, ap length c.as_slice-nodes.ensures.same, c.as_slice-nodes.ensures.small, c.before_at.ensures.small))
    (c.plus-2.ensures.small _ _ c.measure_all-kept.ensures.small c.measure_all-before.ensures.small)

pub returns-clause-value : goal.returns-clause-value
returns-clause-value c =
    whole_line_by c.args.self.now c.args.from c.args.to _ _ _ _ _ _ _ _ _ _ _ (c.as_slice-nodes.ensures.same ∙ c.list.ensures.value)
    c.after_at.ensures.value c.kept.ensures.value c.before_at.ensures.value
    c.sides.ensures.value c.measure_all-after.ensures.value c.measure_all-kept.ensures.value c.measure_all-before.ensures.value
    c.plus.ensures.value c.plus-2.ensures.value c.plus-3.ensures.value

pub returns-clause-small : goal.returns-clause-small
returns-clause-small c =
    smaller _ 3221225474 _
    (omega (arith, c.after_at.ensures.small, c.kept.ensures.small, ap length c.as_slice-nodes.ensures.same, c.as_slice-nodes.ensures.small, c.before_at.ensures.small))
    (c.plus-3.ensures.small _ _
    (c.plus.ensures.small _ _ c.sides.ensures.small c.measure_all-after.ensures.small)
    (c.plus-2.ensures.small _ _ c.measure_all-kept.ensures.small c.measure_all-before.ensures.small))
