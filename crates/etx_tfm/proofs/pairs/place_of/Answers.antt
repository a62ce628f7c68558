use Rattle.etx_tfm.proofs.Knowing.{left_at, right_at}
use Rattle.etx_tfm.proofs.pairs.place_of.Goals as goal

pub returns-clause-left : goal.returns-clause-left
returns-clause-left c = left_at c.code_of.result c.code_of-2.result c.args.left c.code_of-2.ensures.small c.code_of.ensures.item

pub returns-clause-right : goal.returns-clause-right
returns-clause-right c = right_at c.code_of.result c.code_of-2.result c.args.right c.code_of-2.ensures.small c.code_of-2.ensures.item
