use Rattle.etx_job.proofs.Logs.{column_right}
use Rattle.etx_job.proofs.law.the_column_is_that_of_the_log.Goals as goal

pub returns : goal.returns
returns c = column_right
