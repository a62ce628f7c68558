use Rattle.etx_sealed.proofs.sealed.Sealed.sides.Goals as goal

pub returns-clause-small : goal.returns-clause-small
returns-clause-small c = c.plus.ensures.small 1 1 c.glue_measure.ensures.small c.glue_measure-2.ensures.small
