use Rattle.std.proofs.Common.{◌≡◌, drop}
use Rattle.etx_hyphen.specs.Bounds.{nodes_before}
use Rattle.etx_hyphen.proofs.bounds.nodes_before.Given as goal

abbrev pub invariant-loop-clean : goal.invariant-loop-clean
invariant-loop-clean l = nodes_before (drop l.clean-index l.places) l.letters ≡ nodes_before l.places l.letters
