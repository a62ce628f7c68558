use Rattle.etx_sealed.proofs.Summing.{smaller}
use Rattle.etx_sealed.proofs.stops.Walk.end.Goals as goal

pub returns-clause-short : goal.returns-clause-short
returns-clause-short c = λ h.
    c.plus-2.ensures.small 2 1610612736 c.sides.ensures.small
    (c.plus.ensures.small 1073741824 536870912 c.sums_to-before.ensures.small (smaller _ 536870912 _ h c.measure_all.ensures.small))
