use Rattle.std.proofs.Common.{◌≡◌, ◌+◌, ◌≤◌, drop}
use Rattle.etx_patterns.specs.Shapes.{letter_count}
use Rattle.etx_patterns.proofs.marks.letter_count.Given as goal

abbrev pub invariant-loop-step : goal.invariant-loop-step
invariant-loop-step l = (l.count + letter_count (drop l.step-index l.steps) ≡ letter_count l.steps) × (l.count ≤ l.step-index)
