use Rattle.std.proofs.Common.{◌≡◌, ◌++◌, replicate}
use Rattle.etx_ship.proofs.pen.add_pushes.Given as goal

abbrev pub invariant-loop-left : goal.invariant-loop-left
invariant-loop-left l = l.out.items ++ replicate l.left 141 ≡ l.fn.out.items ++ replicate l.fn.count 141

abbrev pub decreases-loop-left : goal.decreases-loop-left
decreases-loop-left l = l.left
