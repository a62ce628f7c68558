-- A whole expression is a tree.
use Rattle.etx_exprs.proofs.Sayings.{whole_is, part_is}
use Rattle.etx_exprs.proofs.expr.Expr.is_whole.Goals as goal

pub returns-clause-whole : goal.returns-clause-whole
returns-clause-whole c = whole_is c.is_due.result c.args.self.now c.is_due.ensures

pub returns-clause-part : goal.returns-clause-part
returns-clause-part c = part_is c.is_due.result c.args.self.now c.is_due.ensures
