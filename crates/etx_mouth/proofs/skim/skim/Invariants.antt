use Rattle.std.proofs.Common.{◌≤◌, ◌-◌}
use Rattle.etx_state.specs.Mouths.{mouth_of}
use Rattle.etx_mouth.specs.declared.mouth.Source.TheVariants.{Reading}
use Rattle.etx_mouth.specs.Mouths.{mouth_at}
use Rattle.etx_mouth.specs.Runs.{Runs}
use Rattle.etx_mouth.proofs.skim.skim.Given as goal

abbrev pub invariant-runs : goal.invariant-runs
invariant-runs l = record {
  within : (mouth_of l.s).spent ≤ l.budget;
  runs : Runs l.budget (mouth_at Reading (mouth_of l.fn.s)) (mouth_at Reading (mouth_of l.s));
}

abbrev pub decreases-runs : goal.decreases-runs
decreases-runs l = l.budget - (mouth_of l.s).spent
