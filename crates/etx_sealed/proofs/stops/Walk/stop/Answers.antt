use Rattle.etx_sealed.proofs.stops.Walk.stop.Goals as goal

pub invariant_of-result : goal.invariant_of-result
invariant_of-result c = λ e. (c.end-ends.ensures.short (c.are_short.ensures e).0, c.start-starts.ensures.short (c.are_short.ensures e).1)
