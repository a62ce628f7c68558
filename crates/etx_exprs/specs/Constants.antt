-- The digits of an integer constant, by "TeX: The Program", sections 444 and 445.
use Rattle.std.specs.Prelude.{◌≡◌, ◌⊎◌, ℕ, ◌+◌, ◌-◌, ◌*◌, ◌^◌, ◌==◌, nat_lt, nat_le, Bool, true, false, not, ◌&&◌, ◌||◌, if◌then◌else◌, List, [], ◌∷◌, length, Option, Some, None}
use Rattle.etx_matter.specs.declared.token.Token.{Token}
use Rattle.etx_matter.specs.declared.token.Token.TheVariants.{Char, Name, Param}
use Rattle.etx_exprs.specs.declared.part.Turn.{Turn}
use Rattle.etx_exprs.specs.declared.part.Turn.TheVariants.{More, Done, DoneBack}

-- the bases of constants: a quote begins an octal one, and a double quote a hexadecimal one
abbrev pub IsBase : ℕ → Type 0
IsBase base = (base ≡ 8) ⊎ ((base ≡ 10) ⊎ (base ≡ 16))

-- '0' (48) to '9' (57) of category 12 are digits where they are below the base
abbrev pub is_decimal : ℕ → ℕ → ℕ → Bool
is_decimal base code cat = (cat == 12) && (nat_le 48 code && (nat_le code 57 && nat_lt (code - 48) base))

-- 'A' (65) to 'F' (70) are digits in base 16, as letters (11) and as others (12)
abbrev pub is_hexadecimal : ℕ → ℕ → ℕ → Bool
is_hexadecimal base code cat = (base == 16) && ((cat == 11 || cat == 12) && (nat_le 65 code && nat_le code 70))

-- the digit that a character is, if it is one
abbrev pub digit_at : ℕ → ℕ → ℕ → Option ℕ
digit_at base code cat = if is_decimal base code cat then Some (code - 48) else (if is_hexadecimal base code cat then Some (code - 55) else None)

abbrev pub digit_of : ℕ → Token → Option ℕ
digit_of base (Char code cat) = digit_at base code cat
digit_of base (Name name) = None
digit_of base (Param n) = None

-- a space behind the digits belongs to the constant
abbrev pub is_space : Token → Bool
is_space (Char code cat) = cat == 10
is_space (Name name) = false
is_space (Param n) = false

-- the number that digits stand for
abbrev pub number_of : ℕ → List ℕ → ℕ
number_of base [] = 0
number_of base (d ∷ ds) = d * base ^ length ds + number_of base ds

abbrev pub is_no_digit : List ℕ → Bool
is_no_digit [] = true
is_no_digit (d ∷ ds) = false

-- the greatest number is 2^31-1
abbrev pub within : ℕ → Option ℕ
within n = if nat_le n 2_147_483_647 then Some n else None

-- a constant that is being read: its base, its number unless that is too big, and whether it has no digit yet
pub record DigitsState : Type 0 where
  pub base : ℕ
  pub number : Option ℕ
  pub empty : Bool

-- what is said of a token: a digit goes on, a space behind a digit ends the constant, and all else stands behind it
abbrev pub turn_at : Option ℕ → Bool → Turn
turn_at (Some digit) _ = More
turn_at None true = Done
turn_at None false = DoneBack

abbrev pub digit_turn : DigitsState → Token → Turn
digit_turn s t = turn_at (digit_of s.base t) (not s.empty && is_space t)

-- what is said of a token behind these digits
abbrev pub said_behind : ℕ → List ℕ → Token → Turn
said_behind base digits t = turn_at (digit_of base t) (not (is_no_digit digits) && is_space t)

-- with a digit more
abbrev pub number_with : Option ℕ → ℕ → ℕ → Option ℕ
number_with None base digit = None
number_with (Some n) base digit = within (n * base + digit)

abbrev pub with_digit : DigitsState → Option ℕ → DigitsState
with_digit s None = s
with_digit s (Some digit) = record { base = s.base; number = number_with s.number s.base digit; empty = false }

abbrev pub digits_fed : DigitsState → Token → DigitsState
digits_fed s t = with_digit s (digit_of s.base t)

-- these are the digits that were fed
pub record StandsFor (s : DigitsState) (digits : List ℕ) : Type 0 where
  pub base_is : IsBase s.base
  pub number_is : s.number ≡ within (number_of s.base digits)
  pub empty_is : s.empty ≡ is_no_digit digits
