use Rattle.std.proofs.Common.{◌≡◌, drop}
use Rattle.std.specs.List.{list_any}
use Rattle.etx_matter.specs.Fonts.{has_bad_place}
use Rattle.etx_tfm.proofs.checks.has_bad_places.Given as goal

abbrev pub invariant-loop-info : goal.invariant-loop-info
invariant-loop-info l = list_any (has_bad_place l.font) (drop l.info-index l.characters) ≡ list_any (has_bad_place l.font) l.characters
