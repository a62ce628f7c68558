use Rattle.std.proofs.Common.{◌≡◌, ◌++◌, drop}
use Rattle.etx_patterns.specs.Shapes.{shape, path_in}
use Rattle.etx_patterns.proofs.marks.pattern_path.Given as goal

abbrev pub invariant-loop-step : goal.invariant-loop-step
invariant-loop-step l = l.path.items ++ shape (drop l.step-index l.steps) ≡ path_in l.language (shape l.steps)
