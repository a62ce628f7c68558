use Rattle.std.proofs.Common.{refl, rules}
use Rattle.etx_mouth.specs.Mouths.{state_of}
use Rattle.etx_mouth.proofs.Running.{runs_none, runs_on, advances_on, goes_after}
use Rattle.etx_mouth.proofs.mouth.Mouth.advance.Goals as goal

pub steps-init : goal.steps-init
steps-init c = record { within = search rules; runs = runs_none refl }

pub returns-in-Some-clause-advances : goal.returns-in-Some-clause-advances
returns-in-Some-clause-advances c = advances_on c.free.invariant.runs (c.in_ok-halt.ensures.halts c.in-Some.halt c.in-Some.is)

pub returns-in-Some-clause-goes : goal.returns-in-Some-clause-goes
returns-in-Some-clause-goes c = goes_after (state_of c.go_on.new.self) c.in-Some.halt c.free.invariant.runs (c.in_ok-halt.ensures.goes c.in-Some.halt c.in-Some.is)

pub steps-preserved : goal.steps-preserved
steps-preserved c = record { within = search rules; runs = runs_on c.free.invariant.runs (c.in_ok-halt.ensures.runs (search rules)) }

pub free-preserved : goal.free-preserved
free-preserved c = record { same = search rules; within = search rules; runs = runs_on c.free.invariant.runs (c.in_ok-halt.ensures.runs (search rules)) }
