use Rattle.std.proofs.Common.{◌≤◌, length}
use Rattle.etx_stack.specs.Undoing.{SameUpTo}
use Rattle.etx_stack.proofs.stack.Stack.back_to.Given as goal

abbrev pub invariant-loop-self : goal.invariant-loop-self
invariant-loop-self g l = record {
  before : l.mark.taken ≤ length l.self.taken;
  same : SameUpTo l.mark.taken l.initial.self l.self;
}

abbrev pub decreases-loop-self : goal.decreases-loop-self
decreases-loop-self g l = length l.self.taken
