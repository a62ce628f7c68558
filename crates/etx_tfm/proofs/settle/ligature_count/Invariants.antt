use Rattle.std.proofs.Common.{◌≡◌, ◌+◌, ◌≤◌, drop}
use Rattle.etx_matter.specs.Ligatures.{ligature_count}
use Rattle.etx_tfm.proofs.settle.ligature_count.Given as goal

abbrev pub invariant-loop-step : goal.invariant-loop-step
invariant-loop-step l = (l.count + ligature_count (drop l.step-index l.steps) ≡ ligature_count l.steps) × (l.count ≤ l.step-index)
