-- Scans that gather tokens, many at once: such a scan is on top of the stack, and the innermost level is a list of fresh tokens.
-- The proofs need these words; nothing that is promised stands here.
use Rattle.std.specs.Prelude.{◌≡◌, ℕ, zero, suc, ◌+◌, false, List, ◌∷◌, ◌++◌, drop, None}
use Rattle.etx_matter.specs.declared.token.Token.{Token}
use Rattle.etx_input.specs.Levels.{InputState}
use Rattle.etx_input.specs.Runs.{skipped}
use Rattle.etx_macros.specs.declared.mark.Brace.{Brace}
use Rattle.etx_macros.specs.declared.mark.Brace.TheVariants.{Left, Right, Neither}
use Rattle.etx_macros.specs.Marks.{brace_of}
use Rattle.etx_state.specs.declared.key.Meaning.{Meaning}
use Rattle.etx_state.specs.declared.scan.Definition.{Definition}
use Rattle.etx_state.specs.Reading.{token_meaning}
use Rattle.etx_state.specs.Values.{Values}
use Rattle.etx_state.specs.Mouths.{Mouth}
use Rattle.etx_answers.specs.Meanings.{is_outer}
use Rattle.etx_assign.specs.Definitions.{mark_of}

-- a body copies this token, and so many braces are open in it before and behind it
abbrev pub IsCopiedAs : Brace → Meaning → ℕ → ℕ → Type 0
IsCopiedAs Left mm before inside = inside ≡ before + 1
IsCopiedAs Right mm before inside = before ≡ inside + 1
IsCopiedAs Neither mm before inside = (inside ≡ before) × (mark_of mm ≡ None)

pub record IsCopied (v : Values) (t : Token) (before inside : ℕ) : Type 0 where
  pub inner : is_outer (token_meaning v t) ≡ false
  pub copied : IsCopiedAs (brace_of t) (token_meaning v t) before inside

-- so many tokens at the beginning are copied
abbrev pub AreCopied : Values → ℕ → List Token → ℕ → ℕ → Type 0
AreCopied v zero ts before inside = inside ≡ before
AreCopied v (suc n) ts before inside = (depth : ℕ) × (t : Token) × (us : List Token) × (drop n ts ≡ t ∷ us) × AreCopied v n ts before depth × IsCopied v t depth inside

-- the body has these tokens more
abbrev pub with_copied : List Token → ℕ → Definition → Definition
with_copied ts depth d = record d { depth = depth; body = d.body ++ ts; mark = None }

-- the input behind so many tokens of the innermost level
abbrev pub input_behind : ℕ → InputState → InputState
input_behind zero i = i
input_behind (suc n) i = skipped (suc n) i

-- the mouth once so many tokens were taken and copied: each is a step, and its copy is another
abbrev pub behind : ℕ → Mouth → Mouth
behind n m = record m { input = input_behind n m.input; spent = m.spent + (n + n) }
