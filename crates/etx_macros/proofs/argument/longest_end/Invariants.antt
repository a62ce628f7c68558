use Rattle.std.proofs.Common.{◌≡◌, ◌≤◌}
use Rattle.etx_macros.specs.Feeding.{longest}
use Rattle.etx_macros.proofs.argument.longest_end.Given as goal

abbrev pub invariant-loop-count : goal.invariant-loop-count
invariant-loop-count l = (l.count ≤ l.most) × (longest l.text l.delimiter l.most ≡ longest l.text l.delimiter l.count)

abbrev pub decreases-loop-count : goal.decreases-loop-count
decreases-loop-count l = l.count
