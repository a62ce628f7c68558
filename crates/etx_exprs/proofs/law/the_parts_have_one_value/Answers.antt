use Rattle.etx_exprs.proofs.Sayings.{one_value}
use Rattle.etx_exprs.proofs.law.the_parts_have_one_value.Goals as goal

pub returns : goal.returns
returns c = one_value
