-- Which texts a macro's pattern matches as a call, and with which arguments.
use Rattle.std.specs.Prelude.{ℕ, ◌+◌, ◌<◌, ◌≤◌, Bool, true, false, List, [], ◌∷◌, ◌++◌, Some, ◌≡◌, ◌⊎◌, length, take, drop, ◌-◌, slice_index_or}
use Rattle.etx_matter.specs.declared.token.Token.{Token}
use Rattle.etx_macros.specs.Marks.{has_category, is_space, is_par, depth_of, IsBalanced, EndsWith}

-- the text is one pair of braces around `inner`
pub record IsGroup (text inner : List Token) : Type 0 where
  pub left : Token
  pub right : Token
  pub opens : has_category left 1 ≡ true
  pub closes : has_category right 2 ≡ true
  pub inside : IsBalanced inner
  pub whole : text ≡ (left ∷ inner) ++ right ∷ []

-- the text without its first and its last token
abbrev pub inner_of : List Token → List Token
inner_of text = take ((length text - 1) - 1) (drop 1 text)

-- the argument that a text gives: one pair of braces that encloses it all is lost
abbrev pub Gives : List Token → List Token → Type 0
Gives text arg = IsGroup text arg ⊎ (((inner : List Token) → IsGroup text inner → ⊥) × (arg ≡ text))

-- the text ends with a beginning of the delimiter, of one token at least
abbrev pub EndsInside : List Token → List Token → Type 0
EndsInside text delimiter = (k : ℕ) × (k < length delimiter) × EndsWith text (take (k + 1) delimiter)

-- Unless the macro is long, each `\par` of the text stands outside braces where it begins the delimiter or goes on with
-- it: there it is let through, also where the delimiter then breaks off.
abbrev pub ParsAreAllowed : Bool → List Token → List Token → Type 0
ParsAreAllowed long delimiter text = long ≡ false → (front rest : List Token) (t : Token) → text ≡ front ++ t ∷ rest → is_par t ≡ true → (depth_of front ≡ Some 0) × EndsInside (front ++ t ∷ []) delimiter

abbrev pub AreSpaces : List Token → Type 0
AreSpaces [] = Unit {0}
AreSpaces (t ∷ ts) = (is_space t ≡ true) × AreSpaces ts

-- a token that is no brace and no space
pub record IsPlain (t : Token) : Type 0 where
  pub no_space : is_space t ≡ false
  pub no_left : has_category t 1 ≡ false
  pub no_right : has_category t 2 ≡ false

-- one token, or one group
abbrev pub IsItem : List Token → Type 0
IsItem text = ((t : Token) × IsPlain t × (text ≡ t ∷ [])) ⊎ ((inner : List Token) × IsGroup text inner)

-- an undelimited argument: spaces, then one token or one group
pub record IsUndelimited (long : Bool) (text arg : List Token) : Type 0 where
  pub spaces : List Token
  pub raw : List Token
  pub whole : text ≡ spaces ++ raw
  pub are_spaces : AreSpaces spaces
  pub item : IsItem raw
  pub pars : ParsAreAllowed long [] raw
  pub gives : Gives raw arg

-- a delimited argument and its delimiter: the shortest balanced text that the delimiter follows
pub record IsDelimited (long : Bool) (delimiter text arg : List Token) : Type 0 where
  pub raw : List Token
  pub whole : text ≡ raw ++ delimiter
  pub balanced : IsBalanced raw
  pub shortest : (other rest : List Token) → text ≡ (other ++ delimiter) ++ rest → IsBalanced other → length raw ≤ length other
  pub pars : ParsAreAllowed long delimiter raw
  pub gives : Gives raw arg

abbrev pub IsArgument : Bool → List Token → List Token → List Token → Type 0
IsArgument long [] text arg = IsUndelimited long text arg
IsArgument long (t ∷ ts) text arg = IsDelimited long (t ∷ ts) text arg

-- A call is the text before the first parameter, and then an argument with its delimiter for each parameter.
pub data MatchesCall (long : Bool) : List (List Token) → List Token → List (List Token) → Type 0 where
  text_before : (before : List Token) → MatchesCall long (before ∷ []) before []
  with_argument : (parts args : List (List Token)) (call delimiter text arg : List Token) → MatchesCall long parts call args → IsArgument long delimiter text arg → MatchesCall long (parts ++ delimiter ∷ []) (call ++ text) (args ++ arg ∷ [])

-- The tokens are the beginning of a call, and not all of it.
pub record Begins (long : Bool) (parts : List (List Token)) (tokens : List Token) : Type 0 where
  pub rest : List Token
  pub some : 0 < length rest
  pub args : List (List Token)
  pub matched : MatchesCall long parts (tokens ++ rest) args

-- no call begins with the tokens
abbrev pub NoCall : Bool → List (List Token) → List Token → Type 0
NoCall long parts tokens = (rest : List Token) (args : List (List Token)) → MatchesCall long parts (tokens ++ rest) args → ⊥

-- the text before the first parameter is matched
abbrev pub IsPastText : List (List Token) → List Token → Type 0
IsPastText parts tokens = (rest : List Token) × (tokens ≡ slice_index_or parts 0 [] ++ rest)
