use Rattle.std.proofs.Common.{◌≡◌, ℕ, [], ◌∷◌, Option, Some, ◌∙◌, ap}
use Rattle.etx_numbers.specs.Words.{with_letter, letters_of, found_by, is_begun, begins_word}
use Rattle.etx_numbers.proofs.words.begins_word.Goals as goal

pub returns-in-None : goal.returns-in-None
unfolding begins_word letters_of
returns-in-None c = ap (λ (o : Option ℕ). is_begun (found_by c.args.set (with_letter o (Some [])))) c.in-None.ensures

pub returns-in-Some : goal.returns-in-Some
unfolding begins_word letters_of
returns-in-Some c =
    c.is_begun.ensures ∙ ap is_begun c.found_in.ensures ∙ ap (λ (o : Option ℕ). is_begun (found_by c.args.set (with_letter o (Some [])))) c.in-Some.ensures
