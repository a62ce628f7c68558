use Rattle.etx_tfm.proofs.Waiting.{IsWalk, left_over}
use Rattle.etx_tfm.proofs.pairs.walk.Given as goal

abbrev pub invariant-loop-inner : goal.invariant-loop-inner
invariant-loop-inner l = IsWalk l.font l.depth l.start l.top l.waiting.items l.known

abbrev pub decreases-loop-inner : goal.decreases-loop-inner
decreases-loop-inner l = left_over l.known l.waiting.items
