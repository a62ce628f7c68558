use Rattle.etx_exprs.proofs.Conversions.{two_steps}
use Rattle.etx_exprs.proofs.law.two_steps_convert_alike.Goals as goal

pub returns : goal.returns
returns c = two_steps
