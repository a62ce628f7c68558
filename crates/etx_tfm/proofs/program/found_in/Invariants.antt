use Rattle.std.proofs.Common.{◌≡◌, drop}
use Rattle.etx_matter.specs.Ligatures.{found_in}
use Rattle.etx_tfm.proofs.program.found_in.Given as goal

abbrev pub invariant-loop-step : goal.invariant-loop-step
invariant-loop-step l = found_in l.font l.right l.skipped (drop l.step-index l.steps) ≡ found_in l.font l.right 0 l.steps
