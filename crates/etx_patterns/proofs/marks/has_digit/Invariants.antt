use Rattle.std.proofs.Common.{◌≡◌, drop}
use Rattle.etx_patterns.specs.Shapes.{has_digit}
use Rattle.etx_patterns.proofs.marks.has_digit.Given as goal

abbrev pub invariant-loop-step : goal.invariant-loop-step
invariant-loop-step l = has_digit (drop l.step-index l.steps) ≡ has_digit l.steps
