use Rattle.etx_job.proofs.Meanings.{meaning_of, one_meaning}
use Rattle.etx_job.proofs.law.each_job_has_one_meaning.Goals as goal

pub returns-clause-one : goal.returns-clause-one
returns-clause-one c = meaning_of

pub returns-clause-only : goal.returns-clause-only
returns-clause-only c = one_meaning
