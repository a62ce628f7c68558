use Rattle.etx_job.proofs.Budgets.{more_same}
use Rattle.etx_job.proofs.law.more_budget_changes_nothing.Goals as goal

pub returns : goal.returns
returns c = λ job budget files m le not is. more_same job budget files le m not is
