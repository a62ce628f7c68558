use Rattle.etx_sealed.proofs.stops.Stop.line_to.Goals as goal

pub returns-then-to-clause-small : goal.returns-then-to-clause-small
returns-then-to-clause-small c =
    c.less.ensures.small 1610612738 1610612736 (c.to.invariant c.if-to.true).0 (c.self.invariant c.if-self.true).1
