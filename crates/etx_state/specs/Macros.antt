-- The definition of a macro ("TeX: The Program", sections 291 and 473).
use Rattle.std.specs.Prelude.{ℕ, Bool, List}
use Rattle.etx_matter.specs.declared.token.Token.{Token}

-- The parameter text: what stands before the first parameter, then for each parameter the text that delimits it. The code
-- of the character that marked each parameter. The body, in which Param n stands for the n-th argument. And the prefixes
-- \long, \outer and \protected.
pub record MacroState : Type 0 where
  pub parts : List (List Token)
  pub marks : List ℕ
  pub body : List Token
  pub is_long : Bool
  pub is_outer : Bool
  pub is_protected : Bool
