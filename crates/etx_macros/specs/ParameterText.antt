-- What a macro's parameter text says: the text before the first parameter, then what delimits each parameter.
use Rattle.std.specs.Prelude.{ℕ, suc, ◌+◌, Bool, false, ◌&&◌, ◌||◌, List, [], ◌∷◌, ◌++◌, length, drop, ◌≤◌, ◌<◌, Result, Ok, Err, true, ◌==◌, ◌≡◌, if◌then◌else◌}
use Rattle.etx_matter.specs.declared.token.Token.{Token}
use Rattle.etx_matter.specs.declared.token.Token.TheVariants.{Char, Name, Param}
use Rattle.etx_macros.specs.declared.pattern.PatternFault.{PatternFault}
use Rattle.etx_macros.specs.declared.pattern.PatternFault.TheVariants.{BadNumber, TooManyParameters, OutOfMemory}
use Rattle.etx_macros.specs.declared.pattern.Next.{Next}
use Rattle.etx_macros.specs.declared.pattern.Next.TheVariants.{End, Text, Parameter, Brace}
use Rattle.etx_macros.specs.Marks.{has_category, IsUnbraced}

-- a brace of either kind
abbrev pub is_brace : Token → Bool
is_brace t = has_category t 1 || has_category t 2

-- the token is the digit n, of category 12
abbrev pub is_digit : ℕ → Token → Bool
is_digit n (Char code cat) = (code == 48 + n) && (cat == 12)
is_digit n (Name name) = false
is_digit n (Param k) = false

-- the text before the first parameter, and what delimits each parameter
pub record Split : Type 0 where
  pub first : List Token
  pub others : List (List Token)

abbrev pub split : List Token → List (List Token) → Split
split first others = record { first = first; others = others }

-- a parameter text taken apart, or what is wrong with it first
abbrev pub Parts : Type 0
Parts = Result Split PatternFault

-- a token at the beginning
abbrev pub with_token : Token → Parts → Parts
with_token t (Ok s) = Ok (split (t ∷ s.first) s.others)
with_token t (Err fault) = Err fault

-- an empty text, and a parameter, at the beginning
abbrev pub with_part : Parts → Parts
with_part (Ok s) = Ok (split [] (s.first ∷ s.others))
with_part (Err fault) = Err fault

-- what a character of category 6 is wrong for that no number follows: the tenth is one parameter too many
abbrev pub wrong_number : ℕ → PatternFault
wrong_number n = if n == 9 then TooManyParameters else BadNumber

-- a numbered parameter, or what is wrong; later: the parts behind it
abbrev pub numbered : ℕ → Token → Parts → Parts
numbered n t later = if n == 9 then Err TooManyParameters else (if is_digit (suc n) t then with_part later else Err BadNumber)

-- what stands behind a character of category 6: a left brace belongs to the last part, and ends the text
abbrev pub behind_mark : ℕ → Token → Parts → Parts
behind_mark n t later = if has_category t 1 then Ok (split (t ∷ []) []) else numbered n t later

-- The parts of a parameter text in which n parameters went before: the text up to the first parameter, then what
-- delimits each parameter. A parameter is a character of category 6 and the next digit. The first brace ends the text.
unfoldable pub parts_of : ℕ → List Token → Parts
parts_of n [] = Ok (split [] [])
parts_of n (t ∷ []) = if is_brace t then Ok (split [] []) else (if has_category t 6 then Err (wrong_number n) else with_token t (Ok (split [] [])))
parts_of n (t ∷ u ∷ rest) = if is_brace t then Ok (split [] []) else (if has_category t 6 then behind_mark n u (parts_of (suc n) rest) else with_token t (parts_of n (u ∷ rest)))

-- the text before the first parameter at the head
abbrev pub listed : Parts → Result (List (List Token)) PatternFault
listed (Ok s) = Ok (s.first ∷ s.others)
listed (Err fault) = Err fault

-- the parts of a whole parameter text, or its first fault
abbrev pub pattern_of : List Token → Result (List (List Token)) PatternFault
pattern_of params = listed (parts_of 0 params)

-- a fault is one of the parameter text, or want of memory
abbrev pub IsFaultOf : PatternFault → List Token → Type 0
IsFaultOf BadNumber params = pattern_of params ≡ Err BadNumber
IsFaultOf TooManyParameters params = pattern_of params ≡ Err TooManyParameters
IsFaultOf OutOfMemory params = Unit {0}

-- a numbered parameter of which n went before, or what is wrong
abbrev pub number_of : ℕ → Token → Result Next PatternFault
number_of n t = if n == 9 then Err TooManyParameters else (if is_digit (suc n) t then Ok Parameter else Err BadNumber)

-- what stands behind a character of category 6: a left brace, or a numbered parameter
abbrev pub behind_of : ℕ → List Token → Result Next PatternFault
behind_of n [] = Err (wrong_number n)
behind_of n (t ∷ rest) = if has_category t 1 then Ok (Brace t) else number_of n t

-- what a parameter text begins with
abbrev pub next_of : ℕ → List Token → Result Next PatternFault
next_of n [] = Ok End
next_of n (t ∷ rest) = if is_brace t then Ok End else (if has_category t 6 then behind_of n rest else Ok (Text t))

-- the parts of a text, by what it begins with
abbrev pub parts_by : ℕ → List Token → Result Next PatternFault → Parts
parts_by n text (Ok End) = Ok (split [] [])
parts_by n text (Ok (Text t)) = with_token t (parts_of n (drop 1 text))
parts_by n text (Ok Parameter) = with_part (parts_of (suc n) (drop 2 text))
parts_by n text (Ok (Brace b)) = Ok (split (b ∷ []) [])
parts_by n text (Err fault) = Err fault

-- a text is as long as what it begins with; what is to be matched is no brace, but for the last left one; a tenth parameter isn't found
abbrev pub HasRoom : ℕ → List Token → Next → Type 0
HasRoom n text End = Unit {0}
HasRoom n text (Text t) = (1 ≤ length text) × IsUnbraced t
HasRoom n text Parameter = (2 ≤ length text) × (n < 9)
HasRoom n text (Brace b) = has_category b 1 ≡ true

-- the parts before and the part that goes on, with the parts of the rest
abbrev pub joined : List (List Token) → List Token → Parts → Result (List (List Token)) PatternFault
joined parts part (Ok s) = Ok (parts ++ (part ++ s.first) ∷ s.others)
joined parts part (Err fault) = Err fault
