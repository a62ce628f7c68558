use Rattle.std.proofs.Common.{◌≡◌, drop}
use Rattle.etx_hyphen.specs.Bounds.{start_from}
use Rattle.etx_hyphen.proofs.bounds.start_from.Given as goal

abbrev pub invariant-loop-clean : goal.invariant-loop-clean
invariant-loop-clean l = start_from l.left l.place l.start (drop l.clean-index l.places) ≡ start_from l.left l.place l.fn.first l.places
