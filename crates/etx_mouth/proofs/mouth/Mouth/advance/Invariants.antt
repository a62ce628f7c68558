use Rattle.std.proofs.Common.{◌≡◌, ◌≤◌, ◌-◌}
use Rattle.etx_mouth.specs.Mouths.{state_of}
use Rattle.etx_mouth.specs.Measure.{weight}
use Rattle.etx_mouth.specs.Runs.{Runs}
use Rattle.etx_mouth.proofs.mouth.Mouth.advance.Given as goal

abbrev pub invariant-steps : goal.invariant-steps
invariant-steps l = record {
  within : (state_of l.self).machine.spent ≤ l.fn.budget;
  runs : Runs l.fn.budget (state_of l.fn.self) (state_of l.self);
}

abbrev pub decreases-steps : goal.decreases-steps
decreases-steps l = l.fn.budget - (state_of l.self).machine.spent

abbrev pub invariant-free : goal.invariant-free
invariant-free l = record {
  same : (state_of l.self).machine.spent ≡ l.before;
  within : (state_of l.self).machine.spent ≤ l.fn.budget;
  runs : Runs l.fn.budget (state_of l.fn.self) (state_of l.self);
}

abbrev pub decreases-free : goal.decreases-free
decreases-free l = weight (state_of l.self)
