-- The value is that of the tree.
use Rattle.etx_exprs.proofs.Bounds.{value_in}
use Rattle.etx_exprs.proofs.Fitting.{value_kind}
use Rattle.etx_exprs.proofs.Sayings.{value_tree}
use Rattle.etx_exprs.proofs.expr.Expr.value.Goals as goal

pub returns-clause-tree : goal.returns-clause-tree
returns-clause-tree c = λ kind tree is took. value_tree c.level_value.result kind tree c.args.self.now c.level_value.ensures is took

pub returns-clause-kind : goal.returns-clause-kind
returns-clause-kind c = value_kind c.level_value.result c.args.self.now c.requires.whole c.level_value.ensures

pub returns-clause-range : goal.returns-clause-range
returns-clause-range c = value_in c.level_value.result c.args.self.now c.requires.whole c.level_value.ensures
