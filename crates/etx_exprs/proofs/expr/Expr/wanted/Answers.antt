-- The operand that is wanted goes on.
use Rattle.etx_exprs.proofs.Places.{fits}
use Rattle.etx_exprs.proofs.expr.Expr.wanted.Goals as goal

pub returns-clause-fits : goal.returns-clause-fits
returns-clause-fits c = λ v. fits c.wanted.result c.args.self.now v (rw (← c.self.view_is) c.wanted.ensures)
