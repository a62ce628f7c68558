use Rattle.etx_exprs.proofs.Quotients.{quotient_nearest}
use Rattle.etx_exprs.proofs.law.quotients_are_nearest.Goals as goal

pub returns : goal.returns
returns c = quotient_nearest c.one_nearest.ensures.is
