use Rattle.etx_scaled.proofs.Roundings.{is_nearest, one_nearest}
use Rattle.etx_scaled.proofs.law.one_nearest.Goals as goal

pub returns-clause-is : goal.returns-clause-is
returns-clause-is c = is_nearest

pub returns-clause-only : goal.returns-clause-only
returns-clause-only c = λ num den whole positive. one_nearest num den whole positive (is_nearest num den positive)
