use Rattle.etx_job.proofs.Tellings.{log_said}
use Rattle.etx_job.proofs.law.the_log_is_what_was_said.Goals as goal

pub returns : goal.returns
returns c = log_said
