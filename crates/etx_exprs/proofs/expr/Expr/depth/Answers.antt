-- Parentheses that are open were not closed.
use Rattle.etx_exprs.proofs.Places.{depth_of}
use Rattle.etx_exprs.proofs.expr.Expr.depth.Goals as goal

pub returns-clause-parts : goal.returns-clause-parts
returns-clause-parts c = depth_of c.len.result c.args.self.now (rw (← c.self.view_is) c.len.ensures)
