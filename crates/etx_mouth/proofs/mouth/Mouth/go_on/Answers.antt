use Rattle.std.proofs.Common.{◌<◌, ◌≤◌, inl, rules, subst}
use Rattle.etx_mouth.specs.declared.yields.Halt.TheVariants as halt
use Rattle.etx_mouth.specs.Mouths.{MouthState, state_of}
use Rattle.etx_mouth.proofs.Running.{runs_one, runs_on, runs_falls, goes_after, quiet_falls, quiet_within, advances_as, goes_as, goes_at, yields_at}
use Rattle.etx_mouth.proofs.mouth.Mouth.go_on.Goals as goal

pub returns-in-Quiet-clause-runs : goal.returns-in-Quiet-clause-runs
returns-in-Quiet-clause-runs c = λ none.
    let le : (state_of c.turn.new.self).machine.spent ≤ c.args.budget = search rules in
    runs_on c.in_ok-skim.ensures.runs (runs_one (quiet_within c.in_ok-did.did c.in_ok-did.ensures.now c.in_ok-did.ensures.did c.in-Quiet.is le))

pub returns-in-Quiet-clause-falls : goal.returns-in-Quiet-clause-falls
returns-in-Quiet-clause-falls c = λ none.
    let le : (state_of c.turn.new.self).machine.spent ≤ c.args.budget = search rules in
    (le, runs_falls (state_of c.turn.new.self) c.in_ok-skim.ensures.runs (quiet_falls (quiet_within c.in_ok-did.did c.in_ok-did.ensures.now c.in_ok-did.ensures.did c.in-Quiet.is le)))

pub returns-then-spent-budget-clause-halts : goal.returns-then-spent-budget-clause-halts
returns-then-spent-budget-clause-halts c = λ why is.
    let over : c.args.budget < (state_of c.turn.new.self).machine.spent = search rules in
    advances_as (state_of c.turn.new.self) halt.Spent why c.in_ok-skim.ensures.runs c.in_ok-did.ensures.now (subst (λ (v : MouthState). c.args.budget < v.machine.spent) c.in_ok-did.ensures.now over) is

pub returns-then-spent-budget-clause-goes : goal.returns-then-spent-budget-clause-goes
returns-then-spent-budget-clause-goes c = λ why is. goes_as (state_of c.args.self.now) (state_of c.turn.new.self) halt.Spent why (inl tt) is

pub returns-in-Act-clause-halts : goal.returns-in-Act-clause-halts
returns-in-Act-clause-halts c = λ why is.
    let le : (state_of c.turn.new.self).machine.spent ≤ c.args.budget = search rules in
    advances_as (state_of c.turn.new.self) (halt.Act c.in-Act.deed) why c.in_ok-skim.ensures.runs c.in_ok-did.ensures.now (yields_at (state_of c.skim.new.self) (state_of c.turn.new.self) c.in_ok-did.ensures.now c.in_ok-did.ensures.did c.in-Act.is le) is

pub returns-in-Act-clause-goes : goal.returns-in-Act-clause-goes
returns-in-Act-clause-goes c = λ why is. goes_as (state_of c.args.self.now) (state_of c.turn.new.self) (halt.Act c.in-Act.deed) why (goes_after (state_of c.turn.new.self) (halt.Act c.in-Act.deed) c.in_ok-skim.ensures.runs (goes_at (state_of c.skim.new.self) (state_of c.turn.new.self) c.in-Act.is c.in_ok-did.ensures.goes)) is

pub returns-in-Load-clause-halts : goal.returns-in-Load-clause-halts
returns-in-Load-clause-halts c = λ why is.
    let le : (state_of c.turn.new.self).machine.spent ≤ c.args.budget = search rules in
    advances_as (state_of c.turn.new.self) (halt.Load c.in-Load.name) why c.in_ok-skim.ensures.runs c.in_ok-did.ensures.now (yields_at (state_of c.skim.new.self) (state_of c.turn.new.self) c.in_ok-did.ensures.now c.in_ok-did.ensures.did c.in-Load.is le) is

pub returns-in-Load-clause-goes : goal.returns-in-Load-clause-goes
returns-in-Load-clause-goes c = λ why is. goes_as (state_of c.args.self.now) (state_of c.turn.new.self) (halt.Load c.in-Load.name) why (goes_after (state_of c.turn.new.self) (halt.Load c.in-Load.name) c.in_ok-skim.ensures.runs (goes_at (state_of c.skim.new.self) (state_of c.turn.new.self) c.in-Load.is c.in_ok-did.ensures.goes)) is

pub returns-in-Done-clause-halts : goal.returns-in-Done-clause-halts
returns-in-Done-clause-halts c = λ why is.
    let le : (state_of c.turn.new.self).machine.spent ≤ c.args.budget = search rules in
    advances_as (state_of c.turn.new.self) (halt.Done c.in-Done.end) why c.in_ok-skim.ensures.runs c.in_ok-did.ensures.now (yields_at (state_of c.skim.new.self) (state_of c.turn.new.self) c.in_ok-did.ensures.now c.in_ok-did.ensures.did c.in-Done.is le) is

pub returns-in-Done-clause-goes : goal.returns-in-Done-clause-goes
returns-in-Done-clause-goes c = λ why is. goes_as (state_of c.args.self.now) (state_of c.turn.new.self) (halt.Done c.in-Done.end) why (inl tt) is
