use Rattle.std.proofs.Common.{◌≡◌, drop}
use Rattle.etx_numbers.specs.declared.words.Spelled.TheVariants.{Nothing}
use Rattle.etx_numbers.specs.Words.{found_among}
use Rattle.etx_numbers.proofs.words.found_among.Given as goal

abbrev pub invariant-loop-word : goal.invariant-loop-word
invariant-loop-word l = found_among l.set l.letters l.spelled (drop l.word-index l.words) ≡ found_among l.set l.letters Nothing l.words
