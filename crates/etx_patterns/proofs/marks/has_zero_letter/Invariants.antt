use Rattle.std.proofs.Common.{◌≡◌, drop}
use Rattle.etx_patterns.specs.Shapes.{has_zero_letter}
use Rattle.etx_patterns.proofs.marks.has_zero_letter.Given as goal

abbrev pub invariant-loop-step : goal.invariant-loop-step
invariant-loop-step l = has_zero_letter (drop l.step-index l.steps) ≡ has_zero_letter l.steps
