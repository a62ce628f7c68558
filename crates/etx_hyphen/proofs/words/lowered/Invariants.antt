use Rattle.std.proofs.Common.{◌≡◌, take, map}
use Rattle.etx_hyphen.specs.Words.{lower_of}
use Rattle.etx_hyphen.proofs.words.lowered.Given as goal

abbrev pub invariant-loop-letter : goal.invariant-loop-letter
invariant-loop-letter l = l.lower ≡ map (lower_of l.params) (take l.letter-index l.letters)
