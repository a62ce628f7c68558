-- What stands under the keys of each kind, as its type, and what a token means.
use Rattle.std.specs.Prelude.{ℕ, ℤ, pos, unsigned_abs, List, [], Option, None, ◌==◌, nat_lt, if◌then◌else◌}
use Rattle.etx_keys.specs.declared.key.Key.{Key}
use Rattle.etx_keys.specs.declared.key.Key.TheVariants as key
use Rattle.etx_keys.specs.declared.single.Single.TheVariants as singles
use Rattle.etx_state.specs.declared.key.Val.{Val}
use Rattle.etx_state.specs.declared.key.Val.TheVariants as val
use Rattle.etx_state.specs.declared.key.Meaning.{Meaning}
use Rattle.etx_state.specs.declared.key.Meaning.TheVariants as meanings
use Rattle.etx_matter.specs.declared.glue.Glue.{Glue}
use Rattle.etx_matter.specs.declared.token.Token.{Token}
use Rattle.etx_matter.specs.declared.token.Token.TheVariants as tokens
use Rattle.etx_prims.specs.declared.parameters.IntParam.{IntParam}
use Rattle.etx_prims.specs.declared.quantities.CodeKind.TheVariants as kinds
use Rattle.etx_state.specs.Initial.{no_glue}
use Rattle.etx_state.specs.Frozen.{frozen_meaning}
use Rattle.etx_state.specs.Values.{Values, get}

abbrev pub meaning_or : Val → Meaning
meaning_or (val.Means meaning) = meaning
meaning_or _ = meanings.Undefined

abbrev pub int_or : Val → ℤ
int_or (val.Int number) = number
int_or _ = pos 0

abbrev pub glue_or : Val → Glue
glue_or (val.Glue glue) = glue
glue_or _ = no_glue

abbrev pub tokens_or : Val → List Token
tokens_or (val.Tokens tokens) = tokens
tokens_or _ = []

abbrev pub kept_or : Val → Option Token
kept_or (val.Kept token) = token
kept_or _ = None

-- the number under a key, which may be a dimension
unfoldable pub number_at : Values → Key → ℤ
number_at m k = int_or (get m k)

unfoldable pub glue_at : Values → Key → Glue
glue_at m k = glue_or (get m k)

unfoldable pub tokens_at : Values → Key → List Token
tokens_at m k = tokens_or (get m k)

-- the category of a character
unfoldable pub category_in : Values → ℕ → ℕ
category_in m code = unsigned_abs (int_or (get m (key.Code kinds.Cat code)))

-- the meaning of the control sequence whose name has this number; those above all names are frozen
unfoldable pub meaning_in : Values → ℕ → Meaning
meaning_in m name = if nat_lt name 1048576 then meaning_or (get m (key.Meaning name)) else frozen_meaning name

-- the meaning of an active character
unfoldable pub active_in : Values → ℕ → Meaning
active_in m code = meaning_or (get m (key.Active code))

unfoldable pub int_in : Values → IntParam → ℤ
int_in m parameter = int_or (get m (key.Int parameter))

-- the token that \afterassignment keeps
unfoldable pub kept_in : Values → Option Token
kept_in m = kept_or (get m (key.Single singles.AfterAssignment))

-- what a token means: an active character (category 13) and a control sequence what stands under their keys, every
-- other character itself, and a parameter nothing
unfoldable pub token_meaning : Values → Token → Meaning
token_meaning m (tokens.Char code cat) = if cat == 13 then active_in m code else meanings.Char code cat
token_meaning m (tokens.Name name) = meaning_in m name.0
token_meaning m (tokens.Param number) = meanings.Undefined
