use Rattle.std.proofs.Common.{◌≡◌, ◌++◌, drop, filter}
use Rattle.etx_hyphen.specs.Words.{is_inside}
use Rattle.etx_hyphen.proofs.words.inside.Given as goal

abbrev pub invariant-loop-place : goal.invariant-loop-place
invariant-loop-place l =
    l.kept ++ filter (is_inside l.walk l.letters) (drop l.place-index l.places) ≡ filter (is_inside l.walk l.letters) l.places
