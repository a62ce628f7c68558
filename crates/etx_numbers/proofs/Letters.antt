-- The letters of a word, the last first.
use Rattle.std.proofs.Common.{◌≡◌, ℕ, List, [], ◌∷◌, ◌++◌, Option, None, Some, refl, sym, ◌∙◌, ap, append_assoc}
use Rattle.std.specs.Option.{option_map}
use Rattle.etx_matter.specs.declared.token.Token.{Token}
use Rattle.etx_numbers.specs.Words.{letter_of, with_letter, letters_of}

-- a token that is no letter: the tokens spell nothing
pub no_letter : (text : List ℕ) (t : Token) (ts : List Token) (more : Token) (whole : Option (List ℕ)) → letter_of t ≡ None
    → option_map (λ (cs : List ℕ). text ++ cs) (letters_of ((t ∷ ts) ++ more ∷ [])) ≡ whole → None ≡ whole
unfolding letters_of
no_letter text t ts more whole none so_far =
    let nothing : option_map (λ (cs : List ℕ). text ++ cs) (with_letter (letter_of t) (letters_of (ts ++ more ∷ []))) ≡ None = ap (λ (o : Option ℕ). option_map (λ (cs : List ℕ). text ++ cs) (with_letter o (letters_of (ts ++ more ∷ [])))) none in
    sym nothing ∙ so_far

-- a letter more
longer_by : (text : List ℕ) (code : ℕ) (o : Option (List ℕ)) → option_map (λ (cs : List ℕ). (text ++ code ∷ []) ++ cs) o ≡ option_map (λ (cs : List ℕ). text ++ cs) (with_letter (Some code) o)
longer_by text code None = refl
longer_by text code (Some cs) = ap Some (append_assoc text (code ∷ []) cs)

pub one_letter : (text new : List ℕ) (code : ℕ) (t : Token) (ts : List Token) (more : Token) (whole : Option (List ℕ)) → letter_of t ≡ Some code → new ≡ text ++ code ∷ []
    → option_map (λ (cs : List ℕ). text ++ cs) (letters_of ((t ∷ ts) ++ more ∷ [])) ≡ whole → option_map (λ (cs : List ℕ). new ++ cs) (letters_of (ts ++ more ∷ [])) ≡ whole
unfolding letters_of
one_letter text new code t ts more whole is longer so_far =
    ap (λ (n : List ℕ). option_map (λ (cs : List ℕ). n ++ cs) (letters_of (ts ++ more ∷ []))) longer
    ∙ longer_by text code (letters_of (ts ++ more ∷ []))
    ∙ sym (ap (λ (o : Option ℕ). option_map (λ (cs : List ℕ). text ++ cs) (with_letter o (letters_of (ts ++ more ∷ [])))) is)
    ∙ so_far

-- the last letter, and a last token that is none
pub last_letter : (text new : List ℕ) (code : ℕ) (more : Token) (whole : Option (List ℕ)) → letter_of more ≡ Some code → new ≡ text ++ code ∷ []
    → option_map (λ (cs : List ℕ). text ++ cs) (letters_of (more ∷ [])) ≡ whole → Some new ≡ whole
unfolding letters_of
last_letter text new code more whole is longer so_far =
    ap Some longer ∙ sym (ap (λ (o : Option ℕ). option_map (λ (cs : List ℕ). text ++ cs) (with_letter o (Some []))) is) ∙ so_far

pub last_none : (text : List ℕ) (more : Token) (whole : Option (List ℕ)) → letter_of more ≡ None
    → option_map (λ (cs : List ℕ). text ++ cs) (letters_of (more ∷ [])) ≡ whole → None ≡ whole
unfolding letters_of
last_none text more whole none so_far =
    let nothing : option_map (λ (cs : List ℕ). text ++ cs) (with_letter (letter_of more) (Some [])) ≡ None = ap (λ (o : Option ℕ). option_map (λ (cs : List ℕ). text ++ cs) (with_letter o (Some []))) none in
    sym nothing ∙ so_far
