use Rattle.std.proofs.Common.{◌≡◌, drop}
use Rattle.etx_tfm.specs.Reading.{has_large}
use Rattle.etx_tfm.proofs.read.has_large.Given as goal

abbrev pub invariant-loop-word : goal.invariant-loop-word
invariant-loop-word l = has_large (drop l.word-index l.words) ≡ has_large l.words
