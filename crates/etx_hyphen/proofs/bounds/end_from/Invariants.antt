use Rattle.std.proofs.Common.{◌≡◌, drop}
use Rattle.etx_hyphen.specs.Bounds.{end_from}
use Rattle.etx_hyphen.proofs.bounds.end_from.Given as goal

abbrev pub invariant-loop-clean : goal.invariant-loop-clean
invariant-loop-clean l = end_from l.right l.place l.last (drop l.clean-index l.places) ≡ end_from l.right l.place l.last l.places
