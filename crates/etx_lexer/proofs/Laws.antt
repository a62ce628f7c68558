-- The rules and the function lex each text in one way.
use Rattle.std.proofs.Common.{◌≡◌, ◌≢◌, ℕ, ◌≤◌, List, [], ◌∷◌, length, Some, None, refl, sym, ◌∙◌, ap, subst, arith}
use Rattle.etx_lexer.specs.Fronts.{front_of}
use Rattle.etx_lexer.specs.Classes.{class_of}
use Rattle.etx_lexer.specs.Lex.{Lexes, line_over, front, escape, paragraph, line_space, no_space, ignored, inner_space, first_space, more_space, comment, invalid, plain, Lex, lex, named_lex, lex_char, lexed_of, IsShorter}
use Rattle.etx_lexer.specs.declared.categories.Class.{Class}
use Rattle.etx_lexer.specs.declared.categories.Class.TheVariants as class
use Rattle.etx_lexer.specs.declared.place.LineState.{LineState}
use Rattle.etx_lexer.specs.declared.place.LineState.TheVariants.{New, Middle, Skipping}
use Rattle.etx_lexer.specs.declared.lexed.Lexed.{Lexed}
use Rattle.etx_lexer.specs.declared.lexed.Lexed.TheVariants.{LineEnd}
use Rattle.etx_lexer.proofs.Walks.{each_text, walk-nil, walk-front, walk-bare, no_front_none}
use Rattle.etx_lexer.proofs.Bare.{bare_by_class}
use Rattle.etx_lexer.proofs.Classes.{of_class, to_class}
use Rattle.etx_lexer.proofs.Words.{names_of, only_name, name_is_shorter}
use Rattle.etx_lexer.proofs.Shorter.{shorter_front}

pub lexed-nil : (cats : ℕ → ℕ) (state : LineState) → lexed_of cats [] state ≡ lex LineEnd [] state
unfolding lexed_of
lexed-nil cats state = walk-nil cats _ _

pub lexed-front : (cats : ℕ → ℕ) (text text' : List ℕ) (state : LineState) → front_of cats text ≡ Some text' → lexed_of cats text state ≡ lexed_of cats text' state
unfolding lexed_of
lexed-front cats text text' state h = walk-front cats _ _ text text' h

pub lexed-bare : (cats : ℕ → ℕ) (c : ℕ) (rest : List ℕ) (state : LineState) → front_of cats (c ∷ rest) ≡ None → lexed_of cats (c ∷ rest) state ≡ lex_char (class_of (cats c)) cats state c rest (lexed_of cats rest state)
unfolding lexed_of
lexed-bare cats c rest state h = walk-bare cats _ _ c rest h

-- what a character of this class gives
lexed-class : (k : Class) (cats : ℕ → ℕ) (c : ℕ) (rest : List ℕ) (state : LineState) → class_of (cats c) ≡ k → front_of cats (c ∷ rest) ≡ None → lexed_of cats (c ∷ rest) state ≡ lex_char k cats state c rest (lexed_of cats rest state)
lexed-class k cats c rest state h bare =
    lexed-bare cats c rest state bare ∙ ap (λ k. lex_char k cats state c rest (lexed_of cats rest state)) h

-- the same where the class isn't the plain one
lexed-special : (k : Class) (cats : ℕ → ℕ) (c : ℕ) (rest : List ℕ) (state : LineState) → k ≢ class.Plain → class_of (cats c) ≡ k → lexed_of cats (c ∷ rest) state ≡ lex_char k cats state c rest (lexed_of cats rest state)
lexed-special k cats c rest state n h = lexed-class k cats c rest state h (bare_by_class cats c rest (λ p. n (sym h ∙ p)))

abbrev pub Meets : (ℕ → ℕ) → List ℕ → LineState → Lex → Type 0
Meets cats text state l = Lexes cats text state l.lexed l.rest l.state

-- a character with no front meets the rules, if the text behind it does
class_meets : (k : Class) (cats : ℕ → ℕ) (c : ℕ) (rest : List ℕ) (state : LineState) (later : Lex) → class_of (cats c) ≡ k → front_of cats (c ∷ rest) ≡ None → Meets cats rest state later → Meets cats (c ∷ rest) state (lex_char k cats state c rest later)
class_meets class.Escape cats c rest state later h bare l = escape (of_class class.Escape (cats c) h) (names_of cats rest)
class_meets class.Return cats c rest New later h bare l = paragraph (of_class class.Return (cats c) h)
class_meets class.Return cats c rest Middle later h bare l = line_space (of_class class.Return (cats c) h)
class_meets class.Return cats c rest Skipping later h bare l = no_space (of_class class.Return (cats c) h)
class_meets class.Ignored cats c rest state later h bare l = ignored (of_class class.Ignored (cats c) h) l
class_meets class.Space cats c rest New later h bare l = first_space (of_class class.Space (cats c) h) l
class_meets class.Space cats c rest Middle later h bare l = inner_space (of_class class.Space (cats c) h)
class_meets class.Space cats c rest Skipping later h bare l = more_space (of_class class.Space (cats c) h) l
class_meets class.Comment cats c rest state later h bare l = comment (of_class class.Comment (cats c) h)
class_meets class.Invalid cats c rest state later h bare l = invalid (of_class class.Invalid (cats c) h)
class_meets class.Plain cats c rest state later h bare l = plain bare (of_class class.Plain (cats c) h)

-- the function meets the rules
pub lexes_of : (cats : ℕ → ℕ) (text : List ℕ) (state : LineState) → Meets cats text state (lexed_of cats text state)
lexes_of cats = each_text cats (λ text. (state : LineState) → Meets cats text state (lexed_of cats text state))
    (λ state. subst (Meets cats [] state) (sym (lexed-nil cats state)) line_over)
    (λ text text' h l state. subst (Meets cats text state) (sym (lexed-front cats text text' state h)) (front h (l state)))
    (λ c rest bare l state. subst (Meets cats (c ∷ rest) state) (sym (lexed-bare cats c rest state bare))
    (class_meets (class_of (cats c)) cats c rest state (lexed_of cats rest state) refl bare (l state)))

-- the rules give what the function gives
pub only_lexed : (cats : ℕ → ℕ) {text rest : List ℕ} {state behind : LineState} {lexed : Lexed} → Lexes cats text state lexed rest behind → lexed_of cats text state ≡ lex lexed rest behind
only_lexed cats line_over = lexed-nil cats _
only_lexed cats (front h l) = lexed-front cats _ _ _ h ∙ only_lexed cats l
only_lexed cats (escape h name) = lexed-special class.Escape cats _ _ _ (λ p. cc) (to_class class.Escape _ h) ∙ ap named_lex (only_name cats name)
only_lexed cats (paragraph h) = lexed-special class.Return cats _ _ _ (λ p. cc) (to_class class.Return _ h)
only_lexed cats (line_space h) = lexed-special class.Return cats _ _ _ (λ p. cc) (to_class class.Return _ h)
only_lexed cats (no_space h) = lexed-special class.Return cats _ _ _ (λ p. cc) (to_class class.Return _ h)
only_lexed cats (ignored h l) = lexed-special class.Ignored cats _ _ _ (λ p. cc) (to_class class.Ignored _ h) ∙ only_lexed cats l
only_lexed cats (inner_space h) = lexed-special class.Space cats _ _ _ (λ p. cc) (to_class class.Space _ h)
only_lexed cats (first_space h l) = lexed-special class.Space cats _ _ _ (λ p. cc) (to_class class.Space _ h) ∙ only_lexed cats l
only_lexed cats (more_space h l) = lexed-special class.Space cats _ _ _ (λ p. cc) (to_class class.Space _ h) ∙ only_lexed cats l
only_lexed cats (comment h) = lexed-special class.Comment cats _ _ _ (λ p. cc) (to_class class.Comment _ h)
only_lexed cats (invalid h) = lexed-special class.Invalid cats _ _ _ (λ p. cc) (to_class class.Invalid _ h)
only_lexed cats (plain bare h) = lexed-class class.Plain cats _ _ _ (to_class class.Plain _ h) bare

-- no more is left than there was
at_most : (rest text : List ℕ) → IsShorter rest text → length rest ≤ length text
at_most rest [] h = rw h (omega arith)
at_most rest (c ∷ text) h = omega arith

below_front : (cats : ℕ → ℕ) (rest text text' : List ℕ) → front_of cats text ≡ Some text' → length rest ≤ length text' → IsShorter rest text
below_front cats rest [] text' h l = let n = no_front_none cats in cc
below_front cats rest (c ∷ text) text' h l = omega (arith, shorter_front cats (c ∷ text) text' h)

class_is_shorter : (k : Class) (cats : ℕ → ℕ) (c : ℕ) (rest : List ℕ) (state : LineState) (later : Lex) → length later.rest ≤ length rest → length (lex_char k cats state c rest later).rest ≤ length rest
class_is_shorter class.Escape cats c rest state later h = name_is_shorter cats rest
class_is_shorter class.Return cats c rest state later h = omega arith
class_is_shorter class.Ignored cats c rest state later h = h
class_is_shorter class.Space cats c rest New later h = h
class_is_shorter class.Space cats c rest Middle later h = omega arith
class_is_shorter class.Space cats c rest Skipping later h = h
class_is_shorter class.Comment cats c rest state later h = omega arith
class_is_shorter class.Invalid cats c rest state later h = omega arith
class_is_shorter class.Plain cats c rest state later h = omega arith

-- what is left is shorter than the text, unless that was empty
pub lexed_is_shorter : (cats : ℕ → ℕ) (text : List ℕ) (state : LineState) → IsShorter (lexed_of cats text state).rest text
lexed_is_shorter cats = each_text cats (λ text. (state : LineState) → IsShorter (lexed_of cats text state).rest text)
    (λ state. rw (lexed-nil cats state) refl)
    (λ text text' h l state. rw (lexed-front cats text text' state h) (below_front cats _ text text' h (at_most _ text' (l state))))
    (λ c rest bare l state. rw (lexed-bare cats c rest state bare)
    (omega (arith, class_is_shorter (class_of (cats c)) cats c rest state (lexed_of cats rest state) (at_most _ rest (l state)))))
