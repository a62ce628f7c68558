use Rattle.std.proofs.Common.{[], ◌∷◌}
use Rattle.etx_job.specs.Chain.{fresh, printed, last_line}
use Rattle.etx_job.proofs.Waiting.{more_waiting_on}
use Rattle.etx_job.proofs.driver.close_by.Goals as goal

pub returns : goal.returns
returns c =
    let text = printed c.args.text.now in
    more_waiting_on _ (fresh ∷ text ∷ []) last_line (more_waiting_on _ (fresh ∷ []) (text ∷ []) c.in_ok-push.ensures c.in_ok-print.ensures) c.in_ok-print_last_line.ensures
