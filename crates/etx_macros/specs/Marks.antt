-- What a token is to a macro call, and how deep in braces a text is.
use Rattle.std.specs.Prelude.{ℕ, zero, suc, Bool, true, false, drop, ◌&&◌, All, length, take, ◌-◌, List, [], ◌∷◌, Option, Some, None, ◌==◌, ◌≡◌, ◌<◌, ◌++◌, if◌then◌else◌}
use Rattle.etx_matter.specs.declared.token.Token.{Token}
use Rattle.etx_matter.specs.declared.token.Token.TheVariants.{Char, Name, Param}
use Rattle.etx_macros.specs.declared.mark.Brace.{Brace}
use Rattle.etx_macros.specs.declared.mark.Brace.TheVariants.{Left, Right, Neither}

-- a character of this category
abbrev pub has_category : Token → ℕ → Bool
has_category (Char code cat) n = cat == n
has_category (Name name) n = false
has_category (Param k) n = false

-- the space that an undelimited argument may begin with: code 32, category 10
abbrev pub is_space : Token → Bool
is_space (Char code cat) = (code == 32) && (cat == 10)
is_space (Name name) = false
is_space (Param k) = false

-- the name that ends a paragraph has number 0
abbrev pub is_par : Token → Bool
is_par (Char code cat) = false
is_par (Name name) = name.0 == 0
is_par (Param k) = false

-- whether a token is a brace: a character of category 1 or 2
unfoldable pub brace_of : Token → Brace
brace_of t = if has_category t 1 then Left else if has_category t 2 then Right else Neither

-- a token that is no brace
abbrev pub IsUnbraced : Token → Type 0
IsUnbraced t = (has_category t 1 ≡ false) × (has_category t 2 ≡ false)

-- What may stand before the first parameter or delimit one: no token of it is a right brace, and none but the last one
-- a left brace.
abbrev pub IsDelimiter : List Token → Type 0
IsDelimiter text = All (λ t. has_category t 2 ≡ false) text × All (λ t. has_category t 1 ≡ false) (take (length text - 1) text)

-- what a parameter text gives: one part at least, and each may delimit
abbrev pub IsPattern : List (List Token) → Type 0
IsPattern parts = (0 < length parts) × All IsDelimiter parts

-- one brace fewer is open: none where none was open
abbrev pub closed : ℕ → Option ℕ
closed zero = None
closed (suc n) = Some n

-- how many braces are open behind a token, where n were open before it
unfoldable pub behind : Token → ℕ → Option ℕ
behind t n = if has_category t 1 then Some (suc n) else (if has_category t 2 then closed n else Some n)

abbrev pub behind_all : Option ℕ → List Token → Option ℕ
behind_all None ts = None
behind_all (Some n) [] = Some n
behind_all (Some n) (t ∷ ts) = behind_all (behind t n) ts

-- How many braces are open at the end of a text: none where a right brace closes nothing.
abbrev pub depth_of : List Token → Option ℕ
depth_of ts = behind_all (Some 0) ts

-- each brace of the text has its partner
abbrev pub IsBalanced : List Token → Type 0
IsBalanced ts = depth_of ts ≡ Some 0

-- the text ends with these tokens
abbrev pub EndsWith : List Token → List Token → Type 0
EndsWith text end = (front : List Token) × (text ≡ front ++ end)

-- the tokens are equal
abbrev pub same_token : Token → Token → Bool
same_token (Char code cat) (Char other kind) = (code == other) && (cat == kind)
same_token (Char code cat) (Name name) = false
same_token (Char code cat) (Param k) = false
same_token (Name name) (Char code cat) = false
same_token (Name name) (Name other) = name.0 == other.0
same_token (Name name) (Param k) = false
same_token (Param k) (Char code cat) = false
same_token (Param k) (Name name) = false
same_token (Param k) (Param other) = k == other

abbrev pub same_tokens : List Token → List Token → Bool
same_tokens [] [] = true
same_tokens [] (u ∷ us) = false
same_tokens (t ∷ ts) [] = false
same_tokens (t ∷ ts) (u ∷ us) = same_token t u && same_tokens ts us

-- the text ends with these tokens, as a test
abbrev pub ends_with : List Token → List Token → Bool
ends_with text end = same_tokens (drop (length text - length end) text) end
