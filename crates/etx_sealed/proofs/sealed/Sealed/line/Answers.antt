use Rattle.etx_sealed.proofs.Placing.{line_of_stops, nothing_between}
use Rattle.etx_sealed.proofs.sealed.Sealed.line.Goals as goal

pub empty_line-requires : goal.empty_line-requires
empty_line-requires c =
    nothing_between c.args.self.now c.args.from.now c.args.to.now _ _ c.requires.from c.if-reaches.ensures c.place-first.ensures c.place-last.ensures

pub returns-in-Some-clause-value : goal.returns-in-Some-clause-value
returns-in-Some-clause-value c =
    line_of_stops c.args.self.now c.args.from.now c.args.to.now _ c.requires.from c.requires.to c.if-reaches.ensures c.in-Some.ensures.value
