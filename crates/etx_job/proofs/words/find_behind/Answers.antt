use Rattle.etx_job.proofs.Numbers.{many_asked}
use Rattle.etx_job.proofs.words.find_behind.Goals as goal

pub returns-in-len4-up : goal.returns-in-len4-up
returns-in-len4-up c = many_asked _ _ c.in-len4-up.len_at_least
