use Rattle.std.proofs.Common.{◌≡◌, ◌+◌, drop}
use Rattle.etx_matter.specs.Fonts.{has_round_list}
use Rattle.etx_tfm.proofs.checks.has_round_list.Given as goal

abbrev pub invariant-loop-place : goal.invariant-loop-place
invariant-loop-place l = has_round_list l.font (l.font.first + l.place) (drop l.place l.characters) ≡ has_round_list l.font l.font.first l.characters
