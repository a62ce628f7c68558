-- How characters, names and tokens are printed ("TeX: The Program", sections 48, 59, 63, 262, 263 and 292 to 295).
use Rattle.std.specs.Prelude.{ℕ, ◌+◌, ◌-◌, ◌/◌, ◌%◌, ◌==◌, nat_lt, ℤ, Option, Some, None, List, [], ◌∷◌, ◌++◌, unwrap_or, slice_get, codes, if◌then◌else◌}
use Rattle.etx_lexer.specs.Places.{end_of_line}
use Rattle.etx_matter.specs.declared.token.Token.{Token}
use Rattle.etx_matter.specs.declared.token.Token.TheVariants.{Char, Name, Param}
use Rattle.etx_prims.specs.declared.parameters.IntParam.TheVariants.{EscapeChar, NewLineChar}
use Rattle.etx_state.specs.declared.frozen.Frozen.{Frozen}
use Rattle.etx_state.specs.Frozen.{frozen_of, frozen_text}
use Rattle.etx_state.specs.Values.{Values}
use Rattle.etx_state.specs.Reading.{category_in, int_in}
use Rattle.etx_state.specs.Rests.{RestState}

-- a digit of 0123456789abcdef
abbrev pub hex_digit : ℕ → ℕ
hex_digit n = if nat_lt n 10 then n + 48 else n + 87

-- visible characters as they are, and the others as fronts that stand for them
unfoldable pub shown_character : ℕ → List ℕ
shown_character c =
    if nat_lt c 32 then 94 ∷ 94 ∷ (c + 64) ∷ []
    else if nat_lt c 127 then c ∷ []
    else if nat_lt c 128 then 94 ∷ 94 ∷ (c - 64) ∷ []
    else 94 ∷ 94 ∷ hex_digit (c / 16) ∷ hex_digit (c % 16) ∷ []

-- the character that a parameter holds, if it holds the code of one
abbrev pub character_in : ℤ → List ℕ
character_in code = end_of_line code

abbrev pub begins_with : ℕ → List ℕ → List ℕ → List ℕ
begins_with c [] shown = shown
begins_with c (d ∷ ds) shown = if c == d then 10 ∷ [] else shown

-- the character of \newlinechar begins a new line
unfoldable pub printed_character : Values → ℕ → List ℕ
printed_character v c = begins_with c (character_in (int_in v NewLineChar)) (shown_character c)

abbrev pub printed : Values → List ℕ → List ℕ
printed v [] = []
printed v (c ∷ cs) = printed_character v c ++ printed v cs

-- the escape character, if there is one
abbrev pub escape_in : Values → List ℕ
escape_in v = character_in (int_in v EscapeChar)

-- a control sequence that no text names
abbrev pub frozen_or_inaccessible : Option Frozen → List ℕ
frozen_or_inaccessible (Some it) = frozen_text it
frozen_or_inaccessible None = codes "inaccessible"

-- a name that no text names has the text of its kind
abbrev pub name_text : List (List ℕ) → ℕ → List ℕ
name_text names n = unwrap_or (slice_get names n) (frozen_or_inaccessible (frozen_of n))

-- the empty name is that of \csname\endcsname
abbrev pub escaped : Values → List ℕ → List ℕ
escaped v [] = escape_in v ++ codes "csname" ++ escape_in v ++ codes "endcsname"
escaped v (c ∷ cs) = escape_in v ++ c ∷ cs

-- a parameter, by the character that marks it; a number that no parameter has is shown by an exclamation mark
abbrev pub parameter_text : ℕ → ℕ → List ℕ
parameter_text mark n = mark ∷ (if nat_lt n 10 then 48 + n else 33) ∷ []

-- a token's own characters: a control sequence with the escape character, a character as it is
unfoldable pub spelled : RestState → Token → List ℕ
spelled r (Char code cat) = code ∷ []
spelled r (Name n) = escaped r.values (name_text r.names n.0)
spelled r (Param n) = parameter_text 35 n

-- a name is followed by a space, unless it is one character that is no letter
abbrev pub space_behind : Values → List ℕ → List ℕ
space_behind v [] = 32 ∷ []
space_behind v (c ∷ []) = if category_in v c == 11 then 32 ∷ [] else []
space_behind v (c ∷ d ∷ cs) = 32 ∷ []

-- a token in a text: a parameter's character is doubled
unfoldable pub token_text : RestState → ℕ → Token → List ℕ
token_text r mark (Char code cat) = if cat == 6 then code ∷ code ∷ [] else code ∷ []
token_text r mark (Name n) = escaped r.values (name_text r.names n.0) ++ space_behind r.values (name_text r.names n.0)
token_text r mark (Param n) = parameter_text mark n

abbrev pub tokens_text : RestState → List Token → List ℕ
tokens_text r [] = []
tokens_text r (t ∷ ts) = token_text r 35 t ++ tokens_text r ts

-- a text as it is said
unfoldable pub said_text : RestState → List Token → List ℕ
said_text r ts = printed r.values (tokens_text r ts)

-- a token's name in an error
unfoldable pub shown_name : RestState → Token → List ℕ
shown_name r t = printed r.values (spelled r t)

-- characters as tokens: a space is a space, and all others are other characters
abbrev pub character_token : ℕ → Token
character_token c = Char c (if c == 32 then 10 else 12)

abbrev pub character_tokens : List ℕ → List Token
character_tokens [] = []
character_tokens (c ∷ cs) = character_token c ∷ character_tokens cs
