use Rattle.std.proofs.Common.{◌<◌, ◌≤◌, ◌∙◌, ap, subst, sym, arith, rules, ℕ}
use Rattle.etx_mouth.specs.Mouths.{MouthState, state_of}
use Rattle.etx_mouth.specs.Turn.{turn_of, line_number_of}
use Rattle.etx_job.specs.Chain.{closing}
use Rattle.etx_job.specs.Going.{more_waiting}
use Rattle.etx_job.proofs.Coming.{act_on, load_on}
use Rattle.etx_mouth.proofs.Running.{halts_as, goes_to}
use Rattle.etx_job.proofs.Turns.{over_is, asks_is, acts_is, going_runs, turn_act, turn_done, turn_spent, turn_asks}
use Rattle.etx_job.proofs.driver.go_on.Goals as goal

pub returns-in_ok-close-in-Spent-clause-going : goal.returns-in_ok-close-in-Spent-clause-going
returns-in_ok-close-in-Spent-clause-going g c = λ a b start first files budget going.
    let v = c.in_ok-halt.ensures.advances in
    let on = going_runs going c.args.budget budget v.runs in
    let halts = halts_as v c.in-Spent.is in
    let over : start.job.budget < (turn_of v.last).now.machine.spent = omega (arith, halts, budget) in
    over_is (turn_spent on over) c.in_ok-close-in-Spent.ensures

pub returns-in_err-end-in-Act-clause-cut : goal.returns-in_err-end-in-Act-clause-cut
returns-in_err-end-in-Act-clause-cut g c = λ a b start first files budget going.
    let v = c.in_ok-halt.ensures.advances in
    let on = going_runs going c.args.budget budget v.runs in
    let halts = halts_as v c.in-Act.is in
    let within : (turn_of v.last).now.machine.spent ≤ start.job.budget = omega (arith, halts.0, budget) in
    c.in_err-end-in-Act.ensures.cut a b start first _ (acts_is (turn_act on c.in-Act.deed within halts.1) v.now)

pub returns-in_ok-end-in-Act-clause-cut : goal.returns-in_ok-end-in-Act-clause-cut
returns-in_ok-end-in-Act-clause-cut g c = λ a b start first files budget going.
    let v = c.in_ok-halt.ensures.advances in
    let on = going_runs going c.args.budget budget v.runs in
    let halts = halts_as v c.in-Act.is in
    let within : (turn_of v.last).now.machine.spent ≤ start.job.budget = omega (arith, halts.0, budget) in
    c.in_ok-end-in-Act.ensures.cut a b start first _ (acts_is (turn_act on c.in-Act.deed within halts.1) v.now)

pub returns-in_ok-end-in-Act-clause-going : goal.returns-in_ok-end-in-Act-clause-going
returns-in_ok-end-in-Act-clause-going g c = λ a b start first files budget going.
    let v = c.in_ok-halt.ensures.advances in
    let on = going_runs going c.args.budget budget v.runs in
    let halts = halts_as v c.in-Act.is in
    let within : (turn_of v.last).now.machine.spent ≤ start.job.budget = omega (arith, halts.0, budget) in
    c.in_ok-end-in-Act.ensures.going a b start first _ (acts_is (turn_act on c.in-Act.deed within halts.1) v.now)

pub returns-in_ok-close-in-Done-clause-going : goal.returns-in_ok-close-in-Done-clause-going
returns-in_ok-close-in-Done-clause-going g c = λ a b start first files budget going.
    let v = c.in_ok-halt.ensures.advances in
    let on = going_runs going c.args.budget budget v.runs in
    let halts = halts_as v c.in-Done.is in
    let within : (turn_of v.last).now.machine.spent ≤ start.job.budget = omega (arith, halts.0, budget) in
    over_is (turn_done on c.in-Done.end within halts.1) (c.in_ok-close-in-Done.ensures ∙ ap (λ (n : ℕ). more_waiting c.args.journal.now (closing c.in-Done.end n)) (c.line.ensures ∙ ap line_number_of v.now))

pub returns-in_err-ask-in-Load-clause-cut : goal.returns-in_err-ask-in-Load-clause-cut
returns-in_err-ask-in-Load-clause-cut g c = λ a b start first files budget going.
    let v = c.in_ok-halt.ensures.advances in
    let on = going_runs going c.args.budget budget v.runs in
    let halts = halts_as v c.in-Load.is in
    let within : (turn_of v.last).now.machine.spent ≤ start.job.budget = omega (arith, halts.0, budget) in
    c.in_err-ask-in-Load.ensures.cut a b start first _ files (asks_is (turn_asks on c.in-Load.name within halts.1) v.now c.as_slice.ensures.same)

pub returns-in_ok-ask-in-Load-clause-cut : goal.returns-in_ok-ask-in-Load-clause-cut
returns-in_ok-ask-in-Load-clause-cut g c = λ a b start first files budget going.
    let v = c.in_ok-halt.ensures.advances in
    let on = going_runs going c.args.budget budget v.runs in
    let halts = halts_as v c.in-Load.is in
    let within : (turn_of v.last).now.machine.spent ≤ start.job.budget = omega (arith, halts.0, budget) in
    c.in_ok-ask-in-Load.ensures.cut a b start first _ files (asks_is (turn_asks on c.in-Load.name within halts.1) v.now c.as_slice.ensures.same)

pub returns-in_ok-ask-in-Load-clause-going : goal.returns-in_ok-ask-in-Load-clause-going
returns-in_ok-ask-in-Load-clause-going g c = λ a b start first files budget going.
    let v = c.in_ok-halt.ensures.advances in
    let on = going_runs going c.args.budget budget v.runs in
    let halts = halts_as v c.in-Load.is in
    let within : (turn_of v.last).now.machine.spent ≤ start.job.budget = omega (arith, halts.0, budget) in
    c.in_ok-ask-in-Load.ensures.going a b start first _ files (asks_is (turn_asks on c.in-Load.name within halts.1) v.now c.as_slice.ensures.same)

pub returns-in_err-ask-in-Load-clause-read_at : goal.returns-in_err-ask-in-Load-clause-read_at
returns-in_err-ask-in-Load-clause-read_at g c = λ fails a b start first budget going.
    let v = c.in_ok-halt.ensures.advances in
    let on = going_runs going c.args.budget budget v.runs in
    let halts = halts_as v c.in-Load.is in
    let within : (turn_of v.last).now.machine.spent ≤ start.job.budget = omega (arith, halts.0, budget) in
    c.in_err-ask-in-Load.ensures.read_at (search rules) a b start first _ (asks_is (turn_asks on c.in-Load.name within halts.1) v.now c.as_slice.ensures.same)

pub returns-in_ok-end-in-Act-clause-within : goal.returns-in_ok-end-in-Act-clause-within
returns-in_ok-end-in-Act-clause-within g c = λ none.
    let v = c.in_ok-halt.ensures.advances in
    let halts = halts_as v c.in-Act.is in
    subst (λ (m : MouthState). m.machine.spent ≤ c.args.budget) (sym v.now) halts.0

pub returns-in_ok-ask-in-Load-clause-within : goal.returns-in_ok-ask-in-Load-clause-within
returns-in_ok-ask-in-Load-clause-within g c = λ none.
    let v = c.in_ok-halt.ensures.advances in
    let halts = halts_as v c.in-Load.is in
    let le : (state_of c.advance.new.self).machine.spent ≤ c.args.budget = subst (λ (m : MouthState). m.machine.spent ≤ c.args.budget) (sym v.now) halts.0 in
    omega (arith, le, c.in_ok-ask-in-Load.ensures.answered.spent)

pub returns-in_ok-end-in-Act-clause-goes : goal.returns-in_ok-end-in-Act-clause-goes
returns-in_ok-end-in-Act-clause-goes g c = λ none.
    act_on
    (state_of c.args.mouth.now)
    (state_of c.advance.new.self)
    c.args.errors.now
    c.act.new.errors
    c.in-Act.deed
    c.in_ok-end-in-Act.ensures.counted
    c.in_ok-end-in-Act.ensures.same
    (goes_to (state_of c.args.mouth.now) (state_of c.advance.new.self) c.in-Act.is c.in_ok-halt.ensures.goes)

pub returns-in_ok-ask-in-Load-clause-goes : goal.returns-in_ok-ask-in-Load-clause-goes
returns-in_ok-ask-in-Load-clause-goes g c = λ none.
    load_on
    (state_of c.args.mouth.now)
    (state_of c.advance.new.self)
    (state_of c.ask.new.mouth)
    c.args.errors.now
    c.in-Load.name
    c.in_ok-ask-in-Load.ensures.answered
    (goes_to (state_of c.args.mouth.now) (state_of c.advance.new.self) c.in-Load.is c.in_ok-halt.ensures.goes)
