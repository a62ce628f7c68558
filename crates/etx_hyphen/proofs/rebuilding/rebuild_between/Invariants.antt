use Rattle.std.proofs.Common.{drop}
use Rattle.etx_hyphen.proofs.Steps.{Comes}
use Rattle.etx_hyphen.proofs.rebuilding.rebuild_between.Given as goal

abbrev pub invariant-loop-place : goal.invariant-loop-place
invariant-loop-place l =
    Comes l.font l.hyphen l.ends l.word l.unbroken l.initial.progress l.places l.progress (drop l.place-index l.places)
