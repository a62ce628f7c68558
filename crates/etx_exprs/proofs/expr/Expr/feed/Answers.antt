-- What is said of the part is true.
use Rattle.etx_exprs.proofs.Sayings.{fed_says, fed_comes}
use Rattle.etx_exprs.proofs.expr.Expr.feed.Goals as goal

pub returns-clause-says : goal.returns-clause-says
returns-clause-says c = fed_says c.take.result c.args.self.now c.args.part c.take.ensures.turn

pub returns-clause-comes : goal.returns-clause-comes
returns-clause-comes c = fed_comes c.take.result c.args.self.now c.take.new.self c.args.part c.take.ensures.turn c.take.ensures.state
