-- The name of a control sequence, which begins behind its escape character.
use Rattle.std.specs.Prelude.{◌≡◌, ◌≢◌, ℕ, List, [], ◌∷◌, Some, None, ◌==◌, if◌then◌else◌}
use Rattle.etx_lexer.specs.Fronts.{front_of}
use Rattle.etx_lexer.specs.Reading.{walk}
use Rattle.etx_lexer.specs.declared.place.LineState.{LineState}
use Rattle.etx_lexer.specs.declared.place.LineState.TheVariants.{Middle, Skipping}

-- The longest run of letters (category 11) at the beginning of a text, and the text behind it.
pub data Letters (cats : ℕ → ℕ) : List ℕ → List ℕ → List ℕ → Type 0 where
  letters_over : Letters cats [] [] []
  letters_front : {text text' word rest : List ℕ} → front_of cats text ≡ Some text' → Letters cats text' word rest → Letters cats text word rest
  letter : {c : ℕ} {text word rest : List ℕ} → cats c ≡ 11 → Letters cats text word rest → Letters cats (c ∷ text) (c ∷ word) rest
  letters_end : {c : ℕ} {text : List ℕ} → front_of cats (c ∷ text) ≡ None → cats c ≢ 11 → Letters cats (c ∷ text) [] (c ∷ text)

-- The name at the beginning of a text, the text behind it, and the state behind it: the empty name at the end of the
-- line, letters as many as there are, or one character that isn't a letter. Behind letters, and behind one character
-- of category 10, spaces are skipped.
pub data Names (cats : ℕ → ℕ) : List ℕ → List ℕ → List ℕ → LineState → Type 0 where
  no_name : Names cats [] [] [] Middle
  name_front : {text text' name rest : List ℕ} {state : LineState} → front_of cats text ≡ Some text' → Names cats text' name rest state → Names cats text name rest state
  control_word : {c : ℕ} {text more rest : List ℕ} → cats c ≡ 11 → Letters cats text more rest → Names cats (c ∷ text) (c ∷ more) rest Skipping
  control_space : {c : ℕ} {text : List ℕ} → cats c ≡ 10 → Names cats (c ∷ text) (c ∷ []) text Skipping
  control_symbol : {c : ℕ} {text : List ℕ} → front_of cats (c ∷ text) ≡ None → cats c ≢ 11 → cats c ≢ 10 → Names cats (c ∷ text) (c ∷ []) text Middle

-- letters, and the text behind them
pub record Word : Type 0 where
  pub letters : List ℕ
  pub rest : List ℕ

abbrev pub with_letter : ℕ → Word → Word
with_letter c w = record { letters = c ∷ w.letters; rest = w.rest }

-- the longest run of letters, as a function
unfoldable pub word_of : (ℕ → ℕ) → List ℕ → Word
word_of cats text = walk cats
    (record { letters = []; rest = [] })
    (λ c rest later. if cats c == 11 then with_letter c later else record { letters = []; rest = c ∷ rest })
    text

-- a name, the text behind it, and the state there
pub record Named : Type 0 where
  pub name : List ℕ
  pub rest : List ℕ
  pub state : LineState

-- the name that begins with c, a character with no front
unfoldable pub named_at : (ℕ → ℕ) → ℕ → List ℕ → Named
named_at cats c rest =
    if cats c == 11 then record { name = c ∷ (word_of cats rest).letters; rest = (word_of cats rest).rest; state = Skipping }
    else (if cats c == 10 then record { name = c ∷ []; rest = rest; state = Skipping } else record { name = c ∷ []; rest = rest; state = Middle })

-- the name at the beginning of a text, as a function
unfoldable pub name_of : (ℕ → ℕ) → List ℕ → Named
name_of cats text = walk cats (record { name = []; rest = []; state = Middle }) (λ c rest later. named_at cats c rest) text
