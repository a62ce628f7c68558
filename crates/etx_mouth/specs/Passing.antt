-- The text of a conditional that isn't taken, many tokens at once: its scan is on top of the stack, and the innermost level is a list
-- of fresh tokens. The proofs need these words; nothing that is promised stands here.
use Rattle.std.specs.Prelude.{◌≡◌, ℕ, zero, suc, ◌+◌, false, List, ◌∷◌, drop}
use Rattle.etx_matter.specs.declared.token.Token.{Token}
use Rattle.etx_state.specs.declared.scan.ExpansionScan.TheVariants as expansion
use Rattle.etx_state.specs.declared.scan.Scan.{Scan}
use Rattle.etx_state.specs.declared.scan.Scan.TheVariants as scan
use Rattle.etx_state.specs.declared.scan.Skip.{Skip}
use Rattle.etx_state.specs.Reading.{token_meaning}
use Rattle.etx_state.specs.Values.{Values}
use Rattle.etx_state.specs.Mouths.{Mouth}
use Rattle.etx_answers.specs.Meanings.{is_outer}
use Rattle.etx_conditionals.specs.declared.skips.Skipped.TheVariants.{Other}
use Rattle.etx_conditionals.specs.Conditionals.{skipped_of}
use Rattle.etx_mouth.specs.Gathering.{input_behind}

-- the scan of such a text
abbrev pub in_skipped : Skip → Scan
in_skipped k = scan.Expansion (expansion.Skip k)

-- such a text goes on at this token, whatever is open in it: no outer macro, and no part of a conditional
pub record IsPassed (v : Values) (t : Token) : Type 0 where
  pub inner : is_outer (token_meaning v t) ≡ false
  pub other : skipped_of (token_meaning v t) ≡ Other

-- so many tokens at the beginning are such tokens
abbrev pub ArePassed : Values → ℕ → List Token → Type 0
ArePassed v zero ts = Unit {0}
ArePassed v (suc n) ts = (t : Token) × (us : List Token) × (drop n ts ≡ t ∷ us) × ArePassed v n ts × IsPassed v t

-- the mouth once so many tokens were taken, each a step
abbrev pub past : ℕ → Mouth → Mouth
past n m = record m { input = input_behind n m.input; spent = m.spent + n }
