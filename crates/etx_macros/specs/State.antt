-- The match of a call, as data.
use Rattle.std.specs.Prelude.{ℕ, Bool, List}
use Rattle.etx_matter.specs.declared.token.Token.{Token}
use Rattle.etx_macros.specs.declared.fault.Fed.{Fed}

-- The pattern's parts and whether the macro is long; the arguments that are complete; the part that is being matched;
-- what was read of it, without the spaces before an undelimited argument; how many braces are open there; how many
-- tokens of the delimiter end it, where none is; and whether a token was refused.
pub record MatcherState : Type 0 where
  pub parts : List (List Token)
  pub long : Bool
  pub args : List (List Token)
  pub part : ℕ
  pub read : List Token
  pub depth : ℕ
  pub matched : ℕ
  pub failed : Bool

-- what is said of a token, and the match behind it
pub record FedBy : Type 0 where
  pub fed : Fed
  pub matcher : MatcherState
