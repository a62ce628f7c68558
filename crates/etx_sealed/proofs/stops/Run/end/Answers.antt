use Rattle.etx_sealed.proofs.Skipping.{inside_run}
use Rattle.etx_sealed.proofs.stops.Run.end.Goals as goal

pub returns-then-at-self-clause-value : goal.returns-then-at-self-clause-value
returns-then-at-self-clause-value c =
    inside_run c.args.nodes.now c.args.self.now.from c.args.at c.args.self.now.to c.if-self-at.true c.if-at-self.true c.requires.run.ends
