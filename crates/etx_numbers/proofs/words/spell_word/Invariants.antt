use Rattle.std.proofs.Common.{◌≡◌, List, ℕ, [], ◌∷◌, ◌++◌, drop}
use Rattle.std.specs.Option.{option_map}
use Rattle.etx_numbers.specs.Words.{letters_of}
use Rattle.etx_numbers.proofs.words.spell_word.Given as goal

-- the letters so far, and those that are still to come
abbrev pub invariant-loop-token : goal.invariant-loop-token
invariant-loop-token l = option_map (λ (cs : List ℕ). l.text ++ cs) (letters_of (drop l.token-index l.letters ++ l.more ∷ [])) ≡ letters_of (l.letters ++ l.more ∷ [])
