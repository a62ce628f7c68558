-- A decimal constant, many tokens at once: its scan is on top of the stack and waits for the first digit, and the innermost level is a
-- list of fresh tokens. The proofs need these words; nothing that is promised stands here.
use Rattle.std.specs.Prelude.{◌≡◌, ℕ, zero, suc, ◌≤◌, Bool, true, List, ◌∷◌, drop, is_some}
use Rattle.etx_exprs.specs.Constants.{DigitsState, digits_fed}
use Rattle.etx_exprs.specs.declared.value.Value.TheVariants as amount
use Rattle.etx_matter.specs.declared.glue.GlueOrder.TheVariants as order
use Rattle.etx_matter.specs.declared.token.Token.{Token}
use Rattle.etx_matter.specs.declared.token.Token.TheVariants.{Char, Name, Param}
use Rattle.etx_state.specs.declared.taker.NumberScan.TheVariants as number
use Rattle.etx_state.specs.declared.taker.Taker.{Taker}
use Rattle.etx_state.specs.declared.scan.Scan.TheVariants as scan
use Rattle.etx_state.specs.declared.scan.Value.TheVariants as value
use Rattle.etx_state.specs.declared.scan.Entry.{Entry}
use Rattle.etx_state.specs.declared.scan.Entry.TheVariants as entry
use Rattle.etx_expand.specs.Moves.{most_stages}
use Rattle.etx_numbers.specs.Numbers.{integer, no_digits, number_in, number_or_greatest}

-- an integer begins
abbrev pub at_start : ℕ → Taker → Entry
at_start left taker = entry.Scan left (scan.Number (number.Start integer) taker)

-- it has these digits
abbrev pub in_digits : DigitsState → Taker → Entry
in_digits d taker = entry.Scan most_stages (scan.Number (number.Digits integer d true) taker)

-- it is whole
abbrev pub given : DigitsState → Taker → Entry
given d taker = entry.Given most_stages (value.Number (amount.Int (number_or_greatest (number_in d))) order.Normal taker)

-- a digit: '0' (48) to '9' (57), of category 12
abbrev pub IsDigit : Token → Type 0
IsDigit (Char code cat) = (cat ≡ 12) × (48 ≤ code) × (code ≤ 57)
IsDigit (Name n) = ⊥
IsDigit (Param n) = ⊥

-- a digit more, and the number isn't too big
pub record IsDigitMore (before : DigitsState) (t : Token) (d : DigitsState) : Type 0 where
  pub base : before.base ≡ 10
  pub digit : IsDigit t
  pub fed : d ≡ digits_fed before t
  pub small : is_some (number_in d) ≡ true

-- so many tokens at the beginning are digits, and come to this
abbrev pub AreDigits : ℕ → List Token → DigitsState → Type 0
AreDigits zero ts d = d ≡ no_digits 10
AreDigits (suc n) ts d = (before : DigitsState) × (t : Token) × (us : List Token) × (drop n ts ≡ t ∷ us) × AreDigits n ts before × IsDigitMore before t d

-- a space: a character of category 10
abbrev pub IsSpace : Token → Type 0
IsSpace (Char code cat) = cat ≡ 10
IsSpace (Name n) = ⊥
IsSpace (Param n) = ⊥

-- one stands behind so many tokens
abbrev pub IsSpaceAt : ℕ → List Token → Type 0
IsSpaceAt n ts = (code : ℕ) × (us : List Token) × (drop n ts ≡ Char code 10 ∷ us)
