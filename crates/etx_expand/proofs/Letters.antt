-- The letters of a word, put back one after the other.
use Rattle.std.proofs.Common.{◌≡◌, List, [], ◌∷◌, ◌++◌, refl, ap}
use Rattle.etx_matter.specs.declared.token.Token.{Token}
use Rattle.etx_state.specs.Mouths.{Mouth}
use Rattle.etx_expand.specs.Moves.{put_back, letters_back}

pub last_back : (ts : List Token) (t : Token) (m : Mouth) → letters_back (ts ++ t ∷ []) m ≡ letters_back ts (put_back t m)
unfolding letters_back
last_back [] t m = refl
last_back (u ∷ ts) t m = ap (put_back u) (last_back ts t m)
