-- The rules and the functions read names in one way.
use Rattle.std.proofs.Common.{◌≡◌, ◌≢◌, ℕ, ◌≤◌, eqb, List, [], ◌∷◌, length, Some, None, cond, refl, sym, ◌∙◌, ap, subst, arith}
use Rattle.std.proofs.lemmas.Bool.{eqb-true, eqb-false, eq-eqb, ne_eqb}
use Rattle.etx_lexer.specs.Fronts.{front_of}
use Rattle.etx_lexer.specs.Names.{Letters, letters_over, letters_front, letter, letters_end, Names, no_name, name_front, control_word, control_space, control_symbol, Word, with_letter, word_of, Named, named_at, name_of}
use Rattle.etx_lexer.specs.declared.place.LineState.{LineState}
use Rattle.etx_lexer.specs.declared.place.LineState.TheVariants.{Middle, Skipping}
use Rattle.etx_lexer.proofs.Walks.{by_test, each_text, walk-nil, walk-front, walk-bare}
use Rattle.etx_lexer.proofs.Shorter.{shorter_front}
use Rattle.etx_lexer.proofs.Bare.{bare_letter, bare_space}

-- letters with the text behind them
abbrev pub word : List ℕ → List ℕ → Word
word letters rest = record { letters = letters; rest = rest }

-- a name with the text behind it and the state there
abbrev pub named : List ℕ → List ℕ → LineState → Named
named name rest state = record { name = name; rest = rest; state = state }

pub word-nil : (cats : ℕ → ℕ) → word_of cats [] ≡ word [] []
unfolding word_of
word-nil cats = walk-nil cats _ _

pub word-front : (cats : ℕ → ℕ) (text text' : List ℕ) → front_of cats text ≡ Some text' → word_of cats text ≡ word_of cats text'
unfolding word_of
word-front cats text text' h = walk-front cats _ _ text text' h

word-bare : (cats : ℕ → ℕ) (c : ℕ) (rest : List ℕ) → front_of cats (c ∷ rest) ≡ None → word_of cats (c ∷ rest) ≡ cond (eqb (cats c) 11) (with_letter c (word_of cats rest)) (word [] (c ∷ rest))
unfolding word_of
word-bare cats c rest h = walk-bare cats _ _ c rest h

pub word-letter : (cats : ℕ → ℕ) (c : ℕ) (rest : List ℕ) → cats c ≡ 11 → word_of cats (c ∷ rest) ≡ with_letter c (word_of cats rest)
word-letter cats c rest h =
    word-bare cats c rest (bare_letter cats c rest h)
    ∙ ap (λ b. cond b (with_letter c (word_of cats rest)) (word [] (c ∷ rest))) (eq-eqb (cats c) 11 h)

pub word-other : (cats : ℕ → ℕ) (c : ℕ) (rest : List ℕ) → front_of cats (c ∷ rest) ≡ None → cats c ≢ 11 → word_of cats (c ∷ rest) ≡ word [] (c ∷ rest)
word-other cats c rest bare h =
    word-bare cats c rest bare
    ∙ ap (λ b. cond b (with_letter c (word_of cats rest)) (word [] (c ∷ rest))) (ne_eqb (cats c) 11 h)

abbrev IsRun : (ℕ → ℕ) → List ℕ → Word → Type 0
IsRun cats text w = Letters cats text w.letters w.rest

-- the function meets the rules
pub letters_of : (cats : ℕ → ℕ) (text : List ℕ) → IsRun cats text (word_of cats text)
letters_of cats = each_text cats (λ text. IsRun cats text (word_of cats text))
    (subst (IsRun cats []) (sym (word-nil cats)) letters_over)
    (λ text text' h run. subst (IsRun cats text) (sym (word-front cats text text' h)) (letters_front h run))
    (λ c rest bare run. by_test (eqb (cats c) 11)
    (λ t. subst (IsRun cats (c ∷ rest)) (sym (word-letter cats c rest (eqb-true (cats c) 11 t))) (letter (eqb-true (cats c) 11 t) run))
    (λ f. subst (IsRun cats (c ∷ rest)) (sym (word-other cats c rest bare (eqb-false (cats c) 11 f))) (letters_end bare (eqb-false (cats c) 11 f))))

-- the rules give what the function gives
pub only_letters : (cats : ℕ → ℕ) {text letters rest : List ℕ} → Letters cats text letters rest → word_of cats text ≡ word letters rest
only_letters cats letters_over = word-nil cats
only_letters cats (letters_front h run) = word-front cats _ _ h ∙ only_letters cats run
only_letters cats (letter h run) = word-letter cats _ _ h ∙ ap (with_letter _) (only_letters cats run)
only_letters cats (letters_end bare h) = word-other cats _ _ bare h

-- no more is left behind the letters than there was
pub word_is_shorter : (cats : ℕ → ℕ) (text : List ℕ) → length (word_of cats text).rest ≤ length text
word_is_shorter cats = each_text cats (λ text. length (word_of cats text).rest ≤ length text)
    (rw word-nil (omega arith))
    (λ text text' h shorter. rw (word-front cats text text' h) (omega (arith, shorter_front cats text text' h)))
    (λ c rest bare shorter. by_test (eqb (cats c) 11)
    (λ t. rw (word-letter cats c rest (eqb-true (cats c) 11 t)) (omega arith))
    (λ f. rw (word-other cats c rest bare (eqb-false (cats c) 11 f)) (omega arith)))

pub name-nil : (cats : ℕ → ℕ) → name_of cats [] ≡ named [] [] Middle
unfolding name_of
name-nil cats = walk-nil cats _ _

pub name-front : (cats : ℕ → ℕ) (text text' : List ℕ) → front_of cats text ≡ Some text' → name_of cats text ≡ name_of cats text'
unfolding name_of
name-front cats text text' h = walk-front cats _ _ text text' h

pub name-bare : (cats : ℕ → ℕ) (c : ℕ) (rest : List ℕ) → front_of cats (c ∷ rest) ≡ None → name_of cats (c ∷ rest) ≡ named_at cats c rest
unfolding name_of
name-bare cats c rest h = walk-bare cats _ _ c rest h

pub named-letter : (cats : ℕ → ℕ) (c : ℕ) (rest : List ℕ) → cats c ≡ 11 → named_at cats c rest ≡ named (c ∷ (word_of cats rest).letters) (word_of cats rest).rest Skipping
unfolding named_at
named-letter cats c rest h = rw (eq-eqb (cats c) 11 h) refl

pub named-space : (cats : ℕ → ℕ) (c : ℕ) (rest : List ℕ) → cats c ≡ 10 → named_at cats c rest ≡ named (c ∷ []) rest Skipping
unfolding named_at
named-space cats c rest h = rw h refl

pub named-symbol : (cats : ℕ → ℕ) (c : ℕ) (rest : List ℕ) → cats c ≢ 11 → cats c ≢ 10 → named_at cats c rest ≡ named (c ∷ []) rest Middle
unfolding named_at
named-symbol cats c rest h k = rw (ne_eqb (cats c) 11 h, ne_eqb (cats c) 10 k) refl

abbrev IsName : (ℕ → ℕ) → List ℕ → Named → Type 0
IsName cats text n = Names cats text n.name n.rest n.state

name_at : (cats : ℕ → ℕ) (c : ℕ) (rest : List ℕ) → front_of cats (c ∷ rest) ≡ None → IsName cats (c ∷ rest) (named_at cats c rest)
name_at cats c rest bare = by_test (eqb (cats c) 11)
    (λ t. subst (IsName cats (c ∷ rest)) (sym (named-letter cats c rest (eqb-true (cats c) 11 t))) (control_word (eqb-true (cats c) 11 t) (letters_of cats rest)))
    (λ f. by_test (eqb (cats c) 10)
    (λ t. subst (IsName cats (c ∷ rest)) (sym (named-space cats c rest (eqb-true (cats c) 10 t))) (control_space (eqb-true (cats c) 10 t)))
    (λ g. subst (IsName cats (c ∷ rest)) (sym (named-symbol cats c rest (eqb-false (cats c) 11 f) (eqb-false (cats c) 10 g)))
    (control_symbol bare (eqb-false (cats c) 11 f) (eqb-false (cats c) 10 g))))

-- the function meets the rules
pub names_of : (cats : ℕ → ℕ) (text : List ℕ) → IsName cats text (name_of cats text)
names_of cats = each_text cats (λ text. IsName cats text (name_of cats text))
    (subst (IsName cats []) (sym (name-nil cats)) no_name)
    (λ text text' h name. subst (IsName cats text) (sym (name-front cats text text' h)) (name_front h name))
    (λ c rest bare name. subst (IsName cats (c ∷ rest)) (sym (name-bare cats c rest bare)) (name_at cats c rest bare))

-- the rules give what the function gives
pub only_name : (cats : ℕ → ℕ) {text name rest : List ℕ} {state : LineState} → Names cats text name rest state → name_of cats text ≡ named name rest state
only_name cats no_name = name-nil cats
only_name cats (name_front h name) = name-front cats _ _ h ∙ only_name cats name
only_name cats (control_word {c} h run) =
    name-bare cats _ _ (bare_letter cats _ _ h) ∙ named-letter cats _ _ h
    ∙ ap (λ (w : Word). named (c ∷ w.letters) w.rest Skipping) (only_letters cats run)
only_name cats (control_space h) = name-bare cats _ _ (bare_space cats _ _ h) ∙ named-space cats _ _ h
only_name cats (control_symbol bare h k) = name-bare cats _ _ bare ∙ named-symbol cats _ _ h k

named_is_shorter : (cats : ℕ → ℕ) (c : ℕ) (rest : List ℕ) → length (named_at cats c rest).rest ≤ length rest
named_is_shorter cats c rest = by_test (eqb (cats c) 11)
    (λ t. rw (named-letter cats c rest (eqb-true (cats c) 11 t)) (word_is_shorter cats rest))
    (λ f. by_test (eqb (cats c) 10)
    (λ t. rw (named-space cats c rest (eqb-true (cats c) 10 t)) (omega arith))
    (λ g. rw (named-symbol cats c rest (eqb-false (cats c) 11 f) (eqb-false (cats c) 10 g)) (omega arith)))

-- no more is left behind a name than there was
pub name_is_shorter : (cats : ℕ → ℕ) (text : List ℕ) → length (name_of cats text).rest ≤ length text
name_is_shorter cats = each_text cats (λ text. length (name_of cats text).rest ≤ length text)
    (rw name-nil (omega arith))
    (λ text text' h shorter. rw (name-front cats text text' h) (omega (arith, shorter_front cats text text' h)))
    (λ c rest bare shorter. rw (name-bare cats c rest bare) (omega (arith, named_is_shorter cats c rest)))
