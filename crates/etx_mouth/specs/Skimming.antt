-- Turns at rest that the code makes many of at once: nothing stands on the stack, and the innermost level is a list of fresh tokens.
-- The proofs need these words; nothing that is promised stands here.
use Rattle.std.specs.Prelude.{◌≡◌, Bool, true, false, ℕ, zero, suc, ◌+◌, ◌<◌, ◌≤◌, List, [], ◌∷◌, length, ◌⊎◌, Option, Some, None, if◌then◌else◌}
use Rattle.etx_matter.specs.declared.token.Token.{Token}
use Rattle.etx_prims.specs.declared.command.Primitive.TheVariants as prims
use Rattle.etx_input.specs.declared.origin.Origin.TheVariants.{Fresh}
use Rattle.etx_input.specs.Runs.{fresh_in, skipped}
use Rattle.etx_state.specs.declared.key.Meaning.{Meaning}
use Rattle.etx_state.specs.declared.key.Meaning.TheVariants as means
use Rattle.etx_state.specs.Reading.{token_meaning}
use Rattle.etx_state.specs.Values.{Values}
use Rattle.etx_state.specs.Mouths.{Mouth}
use Rattle.etx_answers.specs.declared.plan.Did.{Did}
use Rattle.etx_answers.specs.declared.plan.Did.TheVariants as did
use Rattle.etx_expand.specs.Expanding.{is_plain}
use Rattle.etx_answers.specs.Meanings.{expandable_of}
use Rattle.etx_expand.specs.Moves.{read_next}
use Rattle.etx_mouth.specs.declared.skim.Glance.{Glance}
use Rattle.etx_mouth.specs.declared.skim.Glance.TheVariants as glance

-- main control does nothing at this meaning: \relax, \par, a space
abbrev pub IsIdle : Meaning → Type 0
IsIdle means.Undefined = ⊥
IsIdle (means.Primitive p) = (p ≡ prims.Relax) ⊎ (p ≡ prims.Par)
IsIdle (means.Char code cat) = cat ≡ 10
IsIdle (means.Macro m) = ⊥
IsIdle means.Unexpanded = Unit {0}
IsIdle means.EndTemplate = ⊥
IsIdle (means.CharGiven code) = ⊥
IsIdle (means.MathGiven code) = ⊥
IsIdle (means.Register kind number) = ⊥

-- so many tokens at the beginning are such tokens
abbrev pub AreIdle : Values → ℕ → List Token → Type 0
AreIdle v zero ts = Unit {0}
AreIdle v (suc n) [] = ⊥
AreIdle v (suc n) (t ∷ ts) = IsIdle (token_meaning v t) × AreIdle v n ts

-- so many fresh tokens were taken, each a step
abbrev pub taken : ℕ → Mouth → Mouth
taken n m = record m { input = skipped n m.input; spent = m.spent + n }

-- the body of a macro whose call is its name alone
abbrev pub plain_body : Meaning → Option (List Token)
plain_body means.Undefined = None
plain_body (means.Primitive p) = None
plain_body (means.Char code cat) = None
plain_body (means.Macro d) = if is_plain d.parts then Some d.body else None
plain_body means.Unexpanded = None
plain_body means.EndTemplate = None
plain_body (means.CharGiven code) = None
plain_body (means.MathGiven code) = None
plain_body (means.Register kind number) = None

-- a call of such a macro: its body is read next
abbrev pub called : List Token → Mouth → Mouth
called body m = read_next Fresh body (taken 1 m)

-- nothing stands on the stack, and the levels of the input are as many as may be
pub record IsAtRest (m : Mouth) : Type 0 where
  pub entries : m.entries ≡ []
  pub depth : length m.input.levels ≤ 10000

-- this is the first of the tokens
abbrev pub IsFirst : Token → List Token → Type 0
IsFirst t ts = (us : List Token) × (ts ≡ t ∷ us)

-- nothing stands on the stack, one level more may be read, and this is the next token, a fresh one of a list
pub record IsNext (t : Token) (m : Mouth) : Type 0 where
  pub entries : m.entries ≡ []
  pub depth : length m.input.levels < 10000
  pub first : IsFirst t (fresh_in m.input.levels)

-- the meaning of a command that isn't expanded
abbrev pub IsCommand : Meaning → Meaning → Type 0
IsCommand mm command = (command ≡ mm) × (expandable_of command ≡ None)

-- what is seen of a token that means this
abbrev pub IsGlance : Meaning → Glance → Type 0
IsGlance mm glance.Idle = IsIdle mm
IsGlance mm (glance.Call body) = plain_body mm ≡ Some body
IsGlance mm (glance.Command command) = IsCommand mm command
IsGlance mm glance.Other = Unit {0}

-- nothing is done beside
abbrev pub is_nothing : Did → Bool
is_nothing did.Nothing = true
is_nothing did.Space = false
is_nothing (did.Error f) = false
is_nothing (did.End e) = false
