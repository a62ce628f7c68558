-- What names and texts are, by their first character.
use Rattle.std.proofs.Common.{◌≡◌, ◌≢◌, ℕ, true, cond, List, [], ◌∷◌, length, drop, Some, refl, ◌∙◌, ap, arith}
use Rattle.std.proofs.lemmas.Bool.{eq-eqb, ne_eqb}
use Rattle.std.proofs.lemmas.List.{drop_all}
use Rattle.etx_lexer.specs.Reading.{first_of}
use Rattle.etx_lexer.specs.Names.{with_letter, word_of}
use Rattle.etx_lexer.specs.Lex.{Lex, lex, lex_char, skips}
use Rattle.etx_lexer.specs.declared.categories.Class.{Class}
use Rattle.etx_lexer.specs.declared.categories.Class.TheVariants as class
use Rattle.etx_lexer.specs.declared.place.LineState.{LineState}
use Rattle.etx_lexer.specs.declared.place.LineState.TheVariants.{New, Middle, Skipping}
use Rattle.etx_lexer.specs.declared.lexed.Lexed.{Lexed}
use Rattle.etx_lexer.proofs.Words.{word, named}
use Rattle.etx_lexer.proofs.Firsts.{word-some}

-- the first character is no letter
pub word_stop : (cats : ℕ → ℕ) (text : List ℕ) (c : ℕ) (rest : List ℕ) → first_of cats text ≡ Some (record { code = c; rest = rest }) → cats c ≢ 11 → word_of cats text ≡ word [] (c ∷ rest)
word_stop cats text c rest h other =
    word-some cats text c rest h ∙ ap (λ b. cond b (with_letter c (word_of cats rest)) (word [] (c ∷ rest))) (ne_eqb (cats c) 11 other)

-- the first character is a letter
pub word_more : (cats : ℕ → ℕ) (text : List ℕ) (c : ℕ) (rest : List ℕ) → first_of cats text ≡ Some (record { code = c; rest = rest }) → cats c ≡ 11 → word_of cats text ≡ with_letter c (word_of cats rest)
word_more cats text c rest h letter =
    word-some cats text c rest h ∙ ap (λ b. cond b (with_letter c (word_of cats rest)) (word [] (c ∷ rest))) (eq-eqb (cats c) 11 letter)

pub named_same : (n n' r r' : List ℕ) (s s' : LineState) → n ≡ n' → r ≡ r' → s ≡ s' → named n r s ≡ named n' r' s'
named_same n n' r r' s s' a b c = cc

pub lex_same : (l l' : Lexed) (r r' : List ℕ) (s s' : LineState) → l ≡ l' → r ≡ r' → s ≡ s' → lex l r s ≡ lex l' r' s'
lex_same l l' r r' s s' a b c = cc

-- nothing is left at the end of a line
pub behind_all : (line : List ℕ) (n : ℕ) → n ≡ length line → drop n line ≡ []
behind_all line n all = drop_all n line (omega arith)

-- a character that is skipped gives what the text behind it gives
pub skipped_is_later : (k : Class) (cats : ℕ → ℕ) (state : LineState) (c : ℕ) (rest : List ℕ) (later : Lex) → skips k state ≡ true → lex_char k cats state c rest later ≡ later
skipped_is_later class.Escape cats state c rest later h = cc
skipped_is_later class.Return cats state c rest later h = cc
skipped_is_later class.Ignored cats state c rest later h = refl
skipped_is_later class.Space cats New c rest later h = refl
skipped_is_later class.Space cats Middle c rest later h = cc
skipped_is_later class.Space cats Skipping c rest later h = refl
skipped_is_later class.Comment cats state c rest later h = cc
skipped_is_later class.Invalid cats state c rest later h = cc
skipped_is_later class.Plain cats state c rest later h = cc
