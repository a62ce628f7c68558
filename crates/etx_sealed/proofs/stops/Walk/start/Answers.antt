use Rattle.etx_sealed.proofs.Summing.{smaller}
use Rattle.etx_sealed.proofs.stops.Walk.start.Goals as goal

pub returns-clause-short : goal.returns-clause-short
returns-clause-short c = λ h.
    c.less.ensures.small 1073741824 536870912 c.sums_to-before.ensures.small (smaller _ 536870912 _ h c.measure_all.ensures.small)
