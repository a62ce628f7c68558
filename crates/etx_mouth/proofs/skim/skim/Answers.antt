use Rattle.etx_mouth.proofs.Running.{runs_on}
use Rattle.etx_mouth.proofs.skim.skim.Goals as goal

pub returns-then-s-before-clause-runs : goal.returns-then-s-before-clause-runs
returns-then-s-before-clause-runs c = runs_on c.runs.invariant.runs c.in_ok-skim_next.ensures.runs

pub runs-preserved : goal.runs-preserved
runs-preserved c = record { within = c.in_ok-skim_next.ensures.within; runs = runs_on c.runs.invariant.runs c.in_ok-skim_next.ensures.runs }
