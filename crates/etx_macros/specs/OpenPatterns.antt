-- A parameter text as far as it is read: taken apart as it comes.
use Rattle.std.specs.Prelude.{List, [], ◌∷◌, ◌++◌, Option, Some, None}
use Rattle.etx_matter.specs.declared.token.Token.{Token}

-- The parts that are complete, the part that goes on, and the left brace that ended the text behind a character of category 6:
-- it is the last token to be matched, and ends the body too.
pub record OpenState : Type 0 where
  pub parts : List (List Token)
  pub part : List Token
  pub brace : Option Token

abbrev pub no_pattern : OpenState
no_pattern = record { parts = []; part = []; brace = None }

-- one token more that is to be matched
abbrev pub with_text : Token → OpenState → OpenState
with_text t p = record p { part = p.part ++ t ∷ [] }

-- one parameter more
abbrev pub with_parameter : OpenState → OpenState
with_parameter p = record p { parts = p.parts ++ p.part ∷ []; part = [] }

abbrev pub with_brace : Token → OpenState → OpenState
with_brace t p = record p { brace = Some t }

-- a list that this token ends, if it is there
abbrev pub ended_with : Option Token → List Token → List Token
ended_with None ts = ts
ended_with (Some t) ts = ts ++ t ∷ []

-- the parts of the whole
abbrev pub whole_pattern : OpenState → List (List Token)
whole_pattern p = p.parts ++ ended_with p.brace p.part ∷ []
