-- What is lexed of a text, in a state of the lexer.
use Rattle.std.specs.Prelude.{◌≡◌, ℕ, ◌<◌, ◌≤◌, Bool, true, false, List, [], ◌∷◌, length, Some, None}
use Rattle.etx_lexer.specs.Fronts.{front_of}
use Rattle.etx_lexer.specs.Reading.{walk}
use Rattle.etx_lexer.specs.Names.{Names, Named, name_of}
use Rattle.etx_lexer.specs.Classes.{class_of, IsOther}
use Rattle.etx_lexer.specs.declared.categories.Class.{Class}
use Rattle.etx_lexer.specs.declared.categories.Class.TheVariants as class
use Rattle.etx_lexer.specs.declared.place.LineState.{LineState}
use Rattle.etx_lexer.specs.declared.place.LineState.TheVariants.{New, Middle, Skipping}
use Rattle.etx_lexer.specs.declared.lexed.Lexed.{Lexed}
use Rattle.etx_lexer.specs.declared.lexed.Lexed.TheVariants.{Char, Name, LineEnd, Invalid}

-- the name of the control sequence that an empty line stands for
abbrev pub par : List ℕ
par = 112 ∷ 97 ∷ 114 ∷ []

-- the space that a line gives: code 32, category 10
abbrev pub space : Lexed
space = Char 32 10

-- In the line's text and the state: what is lexed, the text behind it, and the state there. A rule for each case, by the
-- numbers of the categories ("TeX: The Program", section 207); where no rule names another state, the state stays.
pub data Lexes (cats : ℕ → ℕ) : List ℕ → LineState → Lexed → List ℕ → LineState → Type 0 where
  -- the line is over
  line_over : {state : LineState} → Lexes cats [] state LineEnd [] state
  -- a front at the beginning is replaced, and the text is looked at again
  front : {text text' rest : List ℕ} {state state' : LineState} {lexed : Lexed} → front_of cats text ≡ Some text' → Lexes cats text' state lexed rest state' → Lexes cats text state lexed rest state'
  -- category 0: a name follows
  escape : {c : ℕ} {text name rest : List ℕ} {state state' : LineState} → cats c ≡ 0 → Names cats text name rest state' → Lexes cats (c ∷ text) state (Name name) rest state'
  -- category 5: the rest of the line is dropped
  paragraph : {c : ℕ} {text : List ℕ} → cats c ≡ 5 → Lexes cats (c ∷ text) New (Name par) [] New
  line_space : {c : ℕ} {text : List ℕ} → cats c ≡ 5 → Lexes cats (c ∷ text) Middle space [] Middle
  no_space : {c : ℕ} {text : List ℕ} → cats c ≡ 5 → Lexes cats (c ∷ text) Skipping LineEnd [] Skipping
  -- category 9: the character is skipped
  ignored : {c : ℕ} {text rest : List ℕ} {state state' : LineState} {lexed : Lexed} → cats c ≡ 9 → Lexes cats text state lexed rest state' → Lexes cats (c ∷ text) state lexed rest state'
  -- category 10: a space within the line, and none at its beginning or where spaces are skipped
  inner_space : {c : ℕ} {text : List ℕ} → cats c ≡ 10 → Lexes cats (c ∷ text) Middle space text Skipping
  first_space : {c : ℕ} {text rest : List ℕ} {state' : LineState} {lexed : Lexed} → cats c ≡ 10 → Lexes cats text New lexed rest state' → Lexes cats (c ∷ text) New lexed rest state'
  more_space : {c : ℕ} {text rest : List ℕ} {state' : LineState} {lexed : Lexed} → cats c ≡ 10 → Lexes cats text Skipping lexed rest state' → Lexes cats (c ∷ text) Skipping lexed rest state'
  -- category 14: the rest of the line is dropped
  comment : {c : ℕ} {text : List ℕ} {state : LineState} → cats c ≡ 14 → Lexes cats (c ∷ text) state LineEnd [] state
  -- category 15: no character at all
  invalid : {c : ℕ} {text : List ℕ} {state : LineState} → cats c ≡ 15 → Lexes cats (c ∷ text) state (Invalid c) text state
  -- the other categories, where no front begins
  plain : {c : ℕ} {text : List ℕ} {state : LineState} → front_of cats (c ∷ text) ≡ None → IsOther (cats c) → Lexes cats (c ∷ text) state (Char c (cats c)) text Middle

-- what is lexed, the text behind it, and the state there
pub record Lex : Type 0 where
  pub lexed : Lexed
  pub rest : List ℕ
  pub state : LineState

abbrev pub lex : Lexed → List ℕ → LineState → Lex
lex lexed rest state = record { lexed = lexed; rest = rest; state = state }

abbrev pub named_lex : Named → Lex
named_lex n = lex (Name n.name) n.rest n.state

-- what a character of category 5 gives
abbrev pub at_return : LineState → Lexed
at_return New = Name par
at_return Middle = space
at_return Skipping = LineEnd

-- what a character of category 10 gives; later: what the text behind it gives
abbrev pub at_space : LineState → List ℕ → Lex → Lex
at_space New text later = later
at_space Middle text later = lex space text Skipping
at_space Skipping text later = later

-- a character of this class gives nothing in this state
abbrev pub skips : Class → LineState → Bool
skips class.Escape state = false
skips class.Return state = false
skips class.Ignored state = true
skips class.Space New = true
skips class.Space Middle = false
skips class.Space Skipping = true
skips class.Comment state = false
skips class.Invalid state = false
skips class.Plain state = false

-- what a character with no front gives
abbrev pub lex_char : Class → (ℕ → ℕ) → LineState → ℕ → List ℕ → Lex → Lex
lex_char class.Escape cats state c text later = named_lex (name_of cats text)
lex_char class.Return cats state c text later = lex (at_return state) [] state
lex_char class.Ignored cats state c text later = later
lex_char class.Space cats state c text later = at_space state text later
lex_char class.Comment cats state c text later = lex LineEnd [] state
lex_char class.Invalid cats state c text later = lex (Invalid c) text state
lex_char class.Plain cats state c text later = lex (Char c (cats c)) text Middle

-- what is lexed of a text, as a function
unfoldable pub lexed_of : (ℕ → ℕ) → List ℕ → LineState → Lex
lexed_of cats text state = walk cats (lex LineEnd [] state) (λ c rest later. lex_char (class_of (cats c)) cats state c rest later) text

-- the rest is shorter than the text, unless that was empty
abbrev pub IsShorter : List ℕ → List ℕ → Type 0
IsShorter rest [] = rest ≡ []
IsShorter rest (c ∷ text) = length rest < length (c ∷ text)

-- a lexed character has one of the sixteen categories
abbrev pub HasCategory : Lexed → Type 0
HasCategory (Char code cat) = cat ≤ 15
HasCategory (Name name) = Unit {0}
HasCategory LineEnd = Unit {0}
HasCategory (Invalid code) = Unit {0}
