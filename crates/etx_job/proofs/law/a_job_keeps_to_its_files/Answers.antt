use Rattle.etx_job.proofs.Tellings.{only_made, only_log, only_asks}
use Rattle.etx_job.proofs.law.a_job_keeps_to_its_files.Goals as goal

pub returns-clause-made : goal.returns-clause-made
returns-clause-made c = only_made

pub returns-clause-written : goal.returns-clause-written
returns-clause-written c = only_log

pub returns-clause-asked : goal.returns-clause-asked
returns-clause-asked c = only_asks
