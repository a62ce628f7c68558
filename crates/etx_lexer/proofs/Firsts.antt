-- The first character of a text decides what becomes of the text.
use Rattle.std.proofs.Common.{◌≡◌, ℕ, ◌+◌, ◌<◌, ◌≤◌, eqb, cond, List, [], ◌∷◌, length, Option, Some, None, sym, ◌∙◌, ap, subst, arith}
use Rattle.etx_lexer.specs.Fronts.{front_of}
use Rattle.etx_lexer.specs.Reading.{walk, First, first_of}
use Rattle.etx_lexer.specs.Classes.{class_of}
use Rattle.etx_lexer.specs.Names.{with_letter, word_of, named_at, name_of}
use Rattle.etx_lexer.specs.Lex.{lex, lex_char, lexed_of}
use Rattle.etx_lexer.specs.declared.place.LineState.{LineState}
use Rattle.etx_lexer.specs.declared.place.LineState.TheVariants.{Middle}
use Rattle.etx_lexer.specs.declared.lexed.Lexed.TheVariants.{LineEnd}
use Rattle.etx_lexer.proofs.Walks.{each_text, walk-nil, walk-front, walk-bare}
use Rattle.etx_lexer.proofs.Words.{word, named}
use Rattle.etx_lexer.proofs.Shorter.{shorter_front}

pub first-nil : (cats : ℕ → ℕ) → first_of cats [] ≡ None
unfolding first_of
first-nil cats = walk-nil cats _ _

pub first-front : (cats : ℕ → ℕ) (text text' : List ℕ) → front_of cats text ≡ Some text' → first_of cats text ≡ first_of cats text'
unfolding first_of
first-front cats text text' h = walk-front cats _ _ text text' h

pub first-bare : (cats : ℕ → ℕ) (c : ℕ) (rest : List ℕ) → front_of cats (c ∷ rest) ≡ None → first_of cats (c ∷ rest) ≡ Some (record { code = c; rest = rest })
unfolding first_of
first-bare cats c rest h = walk-bare cats _ _ c rest h

-- what a walk makes of the first character
abbrev at_first : {A : Type 0} → (ℕ → ℕ) → A → (ℕ → List ℕ → A → A) → Option First → A
at_first cats stop step None = stop
at_first cats stop step (Some f) = step f.code f.rest (walk cats stop step f.rest)

walk_first : {A : Type 0} (cats : ℕ → ℕ) (stop : A) (step : ℕ → List ℕ → A → A) (text : List ℕ) → walk cats stop step text ≡ at_first cats stop step (first_of cats text)
walk_first cats stop step = each_text cats (λ text. walk cats stop step text ≡ at_first cats stop step (first_of cats text))
    (walk-nil cats stop step ∙ sym (ap (at_first cats stop step) (first-nil cats)))
    (λ text text' h same. walk-front cats stop step text text' h ∙ same ∙ sym (ap (at_first cats stop step) (first-front cats text text' h)))
    (λ c rest bare same. walk-bare cats stop step c rest bare ∙ sym (ap (at_first cats stop step) (first-bare cats c rest bare)))

-- a text in which no character is left is over
pub lexed-none : (cats : ℕ → ℕ) (text : List ℕ) (state : LineState) → first_of cats text ≡ None → lexed_of cats text state ≡ lex LineEnd [] state
unfolding lexed_of
lexed-none cats text state h = walk_first cats (lex LineEnd [] state) (λ c rest later. lex_char (class_of (cats c)) cats state c rest later) text ∙ ap (at_first cats (lex LineEnd [] state) (λ c rest later. lex_char (class_of (cats c)) cats state c rest later)) h

pub lexed-some : (cats : ℕ → ℕ) (text : List ℕ) (state : LineState) (c : ℕ) (rest : List ℕ) → first_of cats text ≡ Some (record { code = c; rest = rest }) → lexed_of cats text state ≡ lex_char (class_of (cats c)) cats state c rest (lexed_of cats rest state)
unfolding lexed_of
lexed-some cats text state c rest h = walk_first cats (lex LineEnd [] state) (λ c rest later. lex_char (class_of (cats c)) cats state c rest later) text ∙ ap (at_first cats (lex LineEnd [] state) (λ c rest later. lex_char (class_of (cats c)) cats state c rest later)) h

pub word-none : (cats : ℕ → ℕ) (text : List ℕ) → first_of cats text ≡ None → word_of cats text ≡ word [] []
unfolding word_of
word-none cats text h = walk_first cats (word [] []) (λ c rest later. cond (eqb (cats c) 11) (with_letter c later) (word [] (c ∷ rest))) text ∙ ap (at_first cats (word [] []) (λ c rest later. cond (eqb (cats c) 11) (with_letter c later) (word [] (c ∷ rest)))) h

pub word-some : (cats : ℕ → ℕ) (text : List ℕ) (c : ℕ) (rest : List ℕ) → first_of cats text ≡ Some (record { code = c; rest = rest }) → word_of cats text ≡ cond (eqb (cats c) 11) (with_letter c (word_of cats rest)) (word [] (c ∷ rest))
unfolding word_of
word-some cats text c rest h = walk_first cats (word [] []) (λ c rest later. cond (eqb (cats c) 11) (with_letter c later) (word [] (c ∷ rest))) text ∙ ap (at_first cats (word [] []) (λ c rest later. cond (eqb (cats c) 11) (with_letter c later) (word [] (c ∷ rest)))) h

pub name-none : (cats : ℕ → ℕ) (text : List ℕ) → first_of cats text ≡ None → name_of cats text ≡ named [] [] Middle
unfolding name_of
name-none cats text h = walk_first cats (named [] [] Middle) (λ c rest later. named_at cats c rest) text ∙ ap (at_first cats (named [] [] Middle) (λ c rest later. named_at cats c rest)) h

pub name-some : (cats : ℕ → ℕ) (text : List ℕ) (c : ℕ) (rest : List ℕ) → first_of cats text ≡ Some (record { code = c; rest = rest }) → name_of cats text ≡ named_at cats c rest
unfolding name_of
name-some cats text c rest h = walk_first cats (named [] [] Middle) (λ c rest later. named_at cats c rest) text ∙ ap (at_first cats (named [] [] Middle) (λ c rest later. named_at cats c rest)) h

abbrev pub BehindFirst : List ℕ → Option First → Type 0
BehindFirst text None = Unit {0}
BehindFirst text (Some f) = length f.rest < length text

behind_more : (text text' : List ℕ) (found : Option First) → length text' + 2 ≤ length text → BehindFirst text' found → BehindFirst text found
behind_more text text' None h l = tt
behind_more text text' (Some f) h l = omega arith

-- behind the first character less is left than there was
pub first_is_shorter : (cats : ℕ → ℕ) (text : List ℕ) → BehindFirst text (first_of cats text)
first_is_shorter cats = each_text cats (λ text. BehindFirst text (first_of cats text))
    (subst (BehindFirst []) (sym (first-nil cats)) tt)
    (λ text text' h l. subst (BehindFirst text) (sym (first-front cats text text' h)) (behind_more text text' _ (shorter_front cats text text' h) l))
    (λ c rest bare l. subst (BehindFirst (c ∷ rest)) (sym (first-bare cats c rest bare)) (omega arith))
