use Rattle.std.proofs.Common.{◌≡◌, ◌∙◌, ap, sym, arith, rules}
use Rattle.etx_matter.specs.Jobs.{JobState}
use Rattle.etx_mouth.specs.Mouths.{MouthState, state_of}
use Rattle.etx_outside.specs.Outside.{faults_of}
use Rattle.etx_job.proofs.Causes.{write_from}
use Rattle.etx_job.proofs.Ends.{cut_nothing, starts_as, first_spent}
use Rattle.etx_job.proofs.driver.run.Goals as goal

pub returns-in_err-name_log-clause-cut : goal.returns-in_err-name_log-clause-cut
returns-in_err-name_log-clause-cut g c = λ a b start files is. cut_nothing _ _

pub returns-in_err-push-clause-cut : goal.returns-in_err-push-clause-cut
returns-in_err-push-clause-cut g c = λ a b start files is. cut_nothing _ _

pub returns-in_err-mouth-clause-cut : goal.returns-in_err-mouth-clause-cut
returns-in_err-mouth-clause-cut g c = λ a b start files is. cut_nothing _ _

pub go_to_end-requires-clause-within : goal.go_to_end-requires-clause-within
go_to_end-requires-clause-within g c = let none : (state_of c.in_ok-mouth.mouth).machine.spent ≡ 0 = ap (λ (m : MouthState). m.machine.spent) c.in_ok-mouth.ensures ∙ first_spent c.args.job.name in omega (arith, none)

pub returns-in-Err-clause-cut : goal.returns-in-Err-clause-cut
returns-in-Err-clause-cut g c = λ a b start files is.
    let budget = ap (λ (j : JobState). j.budget) is ∙ sym c.budget-budget.ensures.value in
    let going = starts_as is c.in_ok-mouth.ensures c.in_ok-push.ensures c.new-journal.ensures c.in_ok-name_log.ensures c.name.ensures in
    c.in-Err.ensures.cut a b start _ files budget going

pub returns-in-Err-clause-read_at : goal.returns-in-Err-clause-read_at
returns-in-Err-clause-read_at g c = λ fails a b start files is.
    let budget = ap (λ (j : JobState). j.budget) is ∙ sym c.budget-budget.ensures.value in
    let going = starts_as is c.in_ok-mouth.ensures c.in_ok-push.ensures c.new-journal.ensures c.in_ok-name_log.ensures c.name.ensures in
    c.in-Err.ensures.read_at (search rules) a b start _ files budget going

pub returns-in_err-ending-clause-cut : goal.returns-in_err-ending-clause-cut
returns-in_err-ending-clause-cut g c = λ a b start files is.
    let budget = ap (λ (j : JobState). j.budget) is ∙ sym c.budget-budget.ensures.value in
    let going = starts_as is c.in_ok-mouth.ensures c.in_ok-push.ensures c.new-journal.ensures c.in_ok-name_log.ensures c.name.ensures in
    c.in_err-ending.ensures.cut a b start _ (c.in-Ok.ensures.going a b start _ files budget going)

pub returns-in_err-ending-clause-write_cause : goal.returns-in_err-ending-clause-write_cause
returns-in_err-ending-clause-write_cause g c = λ fails.
    let faults = faults_of g.F.Tree.faults g.T.Terminal.faults in
    write_from (faults c.args.tree.now c.args.terminal.now) (faults c.go_to_end.new.tree c.go_to_end.new.terminal) (faults c.finish.new.tree c.finish.new.terminal) c.in-Ok.ensures.later (c.in_err-ending.ensures.write_cause (search rules))

pub returns-clause-whole : goal.returns-clause-whole
returns-clause-whole g c = λ a b start files is.
    let budget = ap (λ (j : JobState). j.budget) is ∙ sym c.budget-budget.ensures.value in
    let going = starts_as is c.in_ok-mouth.ensures c.in_ok-push.ensures c.new-journal.ensures c.in_ok-name_log.ensures c.name.ensures in
    c.in_ok-ending.ensures.whole a b start _ (c.in-Ok.ensures.going a b start _ files budget going)

pub returns-clause-cut : goal.returns-clause-cut
returns-clause-cut g c = λ a b start files is.
    let budget = ap (λ (j : JobState). j.budget) is ∙ sym c.budget-budget.ensures.value in
    let going = starts_as is c.in_ok-mouth.ensures c.in_ok-push.ensures c.new-journal.ensures c.in_ok-name_log.ensures c.name.ensures in
    c.in_ok-ending.ensures.cut a b start _ (c.in-Ok.ensures.going a b start _ files budget going)

pub returns-clause-steady : goal.returns-clause-steady
returns-clause-steady g c = λ a b. c.in_ok-ending.ensures.steady a b ∙ c.in-Ok.ensures.steady a b
