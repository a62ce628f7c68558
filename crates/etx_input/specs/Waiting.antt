-- The tokens of a list that were not taken yet.
use Rattle.std.specs.Prelude.{List, [], ◌∷◌, drop}
use Rattle.etx_matter.specs.declared.token.Token.{Token}
use Rattle.etx_input.specs.declared.level.Waiting.{Waiting}
use Rattle.etx_input.specs.declared.level.Waiting.TheVariants.{Nothing, One, Shared}

abbrev pub tokens_waiting : Waiting → List Token
tokens_waiting Nothing = []
tokens_waiting (One token) = token ∷ []
tokens_waiting (Shared tokens taken) = drop taken tokens
