use Rattle.etx_scaled.proofs.Divisions.{is_divided, one_quotient}
use Rattle.etx_scaled.proofs.law.one_quotient.Goals as goal

pub returns-clause-is : goal.returns-clause-is
returns-clause-is c = is_divided

pub returns-clause-only : goal.returns-clause-only
returns-clause-only c = one_quotient
