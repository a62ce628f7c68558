use Rattle.etx_exprs.proofs.Sayings.{one_saying}
use Rattle.etx_exprs.proofs.law.one_thing_is_said_of_a_part.Goals as goal

pub returns : goal.returns
returns c = one_saying
