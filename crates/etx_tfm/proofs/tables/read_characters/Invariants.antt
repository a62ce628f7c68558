use Rattle.std.proofs.Common.{◌≡◌, take, map}
use Rattle.etx_tfm.specs.Words.{char_of}
use Rattle.etx_tfm.proofs.tables.read_characters.Given as goal

abbrev pub invariant-loop-word : goal.invariant-loop-word
invariant-loop-word l = l.out ≡ map char_of (take l.word-index l.words)
