use Rattle.etx_job.proofs.Waiting.{more_waiting_on}
use Rattle.etx_job.proofs.driver.print_last_line.Goals as goal

pub returns : goal.returns
returns c = more_waiting_on _ _ _ c.in_ok-push.ensures c.in_ok-print.ensures
