use Rattle.std.proofs.Common.{◌≡◌, ℕ, ◌+◌, List, [], ◌∷◌, ◌++◌, drop, get_or, sym, ◌∙◌, arith}
use Rattle.std.specs.Option.{option_map}
use Rattle.std.proofs.lemmas.List.{at_drop_more, at_drop_all}
use Rattle.etx_matter.specs.declared.token.Token.{Token}
use Rattle.etx_matter.specs.declared.token.Token.TheVariants.{Char}
use Rattle.etx_numbers.specs.Words.{letters_of}
use Rattle.etx_numbers.proofs.Letters.{no_letter, one_letter, last_letter, last_none}
use Rattle.etx_numbers.proofs.words.spell_word.Goals as goal

pub returns-in-None : goal.returns-in-None
returns-in-None c =
    no_letter c.loop-token.text (get_or c.args.letters.now c.loop-token.token-index (Char 0 0)) (drop (c.loop-token.token-index + 1) c.args.letters.now) c.args.more _ (sym c.in-None.ensures)
    (sym (at_drop_more (λ (ts : List Token). option_map (λ (cs : List ℕ). c.loop-token.text ++ cs) (letters_of (ts ++ c.args.more ∷ []))) c.args.letters.now c.loop-token.token-index (Char 0 0) c.loop-token-test.true) ∙ c.loop-token.invariant)

pub loop-token-preserved : goal.loop-token-preserved
loop-token-preserved c =
    one_letter c.loop-token.text c.push.new.self c.in-Some.code (get_or c.args.letters.now c.loop-token.token-index (Char 0 0)) (drop (c.loop-token.token-index + 1) c.args.letters.now) c.args.more _ (sym c.in-Some.ensures) c.in_ok-push-in-Some.ensures.ok
    (sym (at_drop_more (λ (ts : List Token). option_map (λ (cs : List ℕ). c.loop-token.text ++ cs) (letters_of (ts ++ c.args.more ∷ []))) c.args.letters.now c.loop-token.token-index (Char 0 0) c.loop-token-test.true) ∙ c.loop-token.invariant)

pub returns-in_ok-push-in-Some-letter_of : goal.returns-in_ok-push-in-Some-letter_of
returns-in_ok-push-in-Some-letter_of c =
    last_letter c.loop-token.text c.push-in-Some-letter_of.new.self c.in-Some-letter_of.code c.args.more _ (sym c.in-Some-letter_of.ensures) c.in_ok-push-in-Some-letter_of.ensures.ok
    (sym (at_drop_all (λ (ts : List Token). option_map (λ (cs : List ℕ). c.loop-token.text ++ cs) (letters_of (ts ++ c.args.more ∷ []))) c.args.letters.now c.loop-token.token-index (omega (arith, c.loop-token-test.false))) ∙ c.loop-token.invariant)

pub returns-in-None-letter_of : goal.returns-in-None-letter_of
returns-in-None-letter_of c =
    last_none c.loop-token.text c.args.more _ (sym c.in-None-letter_of.ensures)
    (sym (at_drop_all (λ (ts : List Token). option_map (λ (cs : List ℕ). c.loop-token.text ++ cs) (letters_of (ts ++ c.args.more ∷ []))) c.args.letters.now c.loop-token.token-index (omega (arith, c.loop-token-test.false))) ∙ c.loop-token.invariant)
