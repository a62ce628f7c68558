-- A list of tokens as it is read.
use Rattle.std.specs.Prelude.{Bool, true, false, List, [], ◌∷◌}
use Rattle.etx_matter.specs.declared.token.Token.{Token}
use Rattle.etx_input.specs.declared.origin.Origin.{Origin}
use Rattle.etx_input.specs.declared.origin.Origin.TheVariants.{Fresh, Back, Unexpanded, Kept}

-- the tokens that were not taken yet
pub record ListState : Type 0 where
  pub rest : List Token
  pub origin : Origin

abbrev pub is_empty : List Token → Bool
is_empty [] = true
is_empty (t ∷ ts) = false

-- the tokens to come, where they count as steps
abbrev pub fresh_of : Origin → List Token → List Token
fresh_of Fresh tokens = tokens
fresh_of Back tokens = []
fresh_of Unexpanded tokens = []
fresh_of Kept tokens = []
