use Rattle.std.proofs.Common.{[], ◌∷◌, ◌∙◌, ap, List, ℕ}
use Rattle.etx_matter.specs.declared.deed.Audience.TheVariants.{LogAndTerminal}
use Rattle.etx_matter.specs.declared.deed.Deed.TheVariants.{Error}
use Rattle.etx_job.specs.Chain.{printed, last_line, reason_of}
use Rattle.etx_job.specs.Going.{more_waiting}
use Rattle.etx_job.proofs.Waiting.{more_waiting_on}
use Rattle.etx_job.proofs.driver.close_fatally.Goals as goal

pub returns : goal.returns
returns c =
    let error = λ (text : List ℕ). Error text c.args.line LogAndTerminal in
    let reason = printed (reason_of c.args.why) in
    more_waiting_on
    _
    (error c.in_ok-text.text ∷ reason ∷ [])
    last_line
    (more_waiting_on
    _
    (error c.in_ok-text.text ∷ [])
    (reason ∷ [])
    c.in_ok-push.ensures
    (c.in_ok-print.ensures ∙ ap (λ (text : List ℕ). more_waiting c.push.new.self (printed text ∷ [])) (c.as_slice.ensures.same ∙ c.in_ok-reason.ensures)))
    c.in_ok-print_last_line.ensures
    ∙ ap (λ (text : List ℕ). more_waiting c.args.journal.now (error text ∷ reason ∷ last_line)) c.in_ok-text.ensures
