use Rattle.std.proofs.Common.{◌≡◌, length}
use Rattle.etx_state.specs.Mouths.{mouth_of}
use Rattle.etx_expand.specs.Moves.{letters_back}
use Rattle.etx_expand.proofs.moves.put_letters_back.Given as goal

abbrev pub decreases-letters : goal.decreases-letters
decreases-letters l = length l.letters

abbrev pub invariant-letters : goal.invariant-letters
invariant-letters l = (letters_back l.letters (mouth_of l.s) ≡ letters_back l.initial.letters (mouth_of l.initial.s)) × ((mouth_of l.s).rest ≡ (mouth_of l.initial.s).rest)
