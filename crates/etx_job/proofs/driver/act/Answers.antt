use Rattle.std.proofs.Common.{◌≡◌, ◌<◌, ◌≤◌, ◌+◌, true, false, refl, ◌∙◌, ap, rules}
use Rattle.etx_outside.proofs.Outsides.{front_all}
use Rattle.etx_settle.specs.Deeds.{JournalState}
use Rattle.etx_matter.specs.declared.end.End.TheVariants.{Hundred}
use Rattle.etx_mouth.specs.Errors.{is_error}
use Rattle.etx_job.specs.Chain.{closing}
use Rattle.etx_job.specs.Going.{more_waiting}
use Rattle.etx_job.proofs.Turns.{going_flushed, going_is}
use Rattle.etx_job.proofs.Acting.{cut_act, act_other, act_error, act_last}
use Rattle.etx_job.proofs.driver.act.Goals as goal

pub returns-in_err-flush-clause-cut : goal.returns-in_err-flush-clause-cut
returns-in_err-flush-clause-cut g c = λ a b start first mouth acts. cut_act acts c.in_ok-push.ensures (c.in_err-flush.ensures.front a b)

pub returns-then-not-is_error-clause-going : goal.returns-then-not-is_error-clause-going
returns-then-not-is_error-clause-going g c = λ a b start first mouth acts.
    let other : is_error c.args.deed ≡ false = search rules in
    going_is (going_flushed (act_other acts c.in_ok-push.ensures other) (c.in_ok-flush.ensures.ok a b)) refl c.in_ok-flush.ensures.journal

pub returns-then-not-is_error-clause-cut : goal.returns-then-not-is_error-clause-cut
returns-then-not-is_error-clause-cut g c = λ a b start first mouth acts. cut_act acts c.in_ok-push.ensures (front_all (c.in_ok-flush.ensures.ok a b))

pub returns-then-errors-lt-MOST_ERRORS-clause-going : goal.returns-then-errors-lt-MOST_ERRORS-clause-going
returns-then-errors-lt-MOST_ERRORS-clause-going g c = λ a b start first mouth acts.
    let is : is_error c.args.deed ≡ true = search rules in
    let few : c.args.errors.now + 1 < 100 = c.if-errors-lt-MOST_ERRORS.true in
    going_is (going_flushed (act_error acts c.in_ok-push.ensures is few) (c.in_ok-flush.ensures.ok a b)) refl c.in_ok-flush.ensures.journal

pub returns-then-errors-lt-MOST_ERRORS-clause-cut : goal.returns-then-errors-lt-MOST_ERRORS-clause-cut
returns-then-errors-lt-MOST_ERRORS-clause-cut g c = λ a b start first mouth acts. cut_act acts c.in_ok-push.ensures (front_all (c.in_ok-flush.ensures.ok a b))

pub returns-in_err-close-clause-cut : goal.returns-in_err-close-clause-cut
returns-in_err-close-clause-cut g c = λ a b start first mouth acts. cut_act acts c.in_ok-push.ensures (front_all (c.in_ok-flush.ensures.ok a b))

pub returns-clause-going : goal.returns-clause-going
returns-clause-going g c = λ a b start first mouth acts.
    let is : is_error c.args.deed ≡ true = search rules in
    let last : 100 ≤ c.args.errors.now + 1 = c.if-errors-lt-MOST_ERRORS.false in
    act_last
    acts
    c.in_ok-push.ensures
    is
    last
    (c.in_ok-flush.ensures.ok a b)
    (c.in_ok-close.ensures ∙ ap (λ (j : JournalState). more_waiting j (closing Hundred 0)) c.in_ok-flush.ensures.journal)

pub returns-clause-cut : goal.returns-clause-cut
returns-clause-cut g c = λ a b start first mouth acts. cut_act acts c.in_ok-push.ensures (front_all (c.in_ok-flush.ensures.ok a b))
