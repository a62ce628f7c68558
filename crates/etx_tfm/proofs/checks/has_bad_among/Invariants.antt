use Rattle.std.proofs.Common.{◌≡◌, drop}
use Rattle.etx_matter.specs.Fonts.{has_bad_among}
use Rattle.etx_tfm.proofs.checks.has_bad_among.Given as goal

abbrev pub invariant-loop-place : goal.invariant-loop-place
invariant-loop-place l = has_bad_among l.font (drop l.place l.steps) ≡ has_bad_among l.font l.steps
