use Rattle.std.proofs.Common.{◌≤◌}
use Rattle.etx_undo.specs.History.{place, SameUpTo}
use Rattle.etx_undo.proofs.store.Store.back_to.Given as goal

abbrev pub invariant-loop-mark : goal.invariant-loop-mark
invariant-loop-mark g l = record {
  before : l.mark.place ≤ place l.self;
  same : SameUpTo l.mark.place l.initial.self l.self;
}

abbrev pub decreases-loop-mark : goal.decreases-loop-mark
decreases-loop-mark g l = place l.self
