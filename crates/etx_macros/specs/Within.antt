-- The part of an argument that was read.
use Rattle.std.specs.Prelude.{ℕ, suc, Bool, true, List, [], ◌∷◌, ◌++◌, Some, length, ◌<◌, ◌≡◌, ◌⊎◌}
use Rattle.etx_matter.specs.declared.token.Token.{Token}
use Rattle.etx_macros.specs.Marks.{has_category, depth_of, IsBalanced}
use Rattle.etx_macros.specs.Matching.{IsLongest}
use Rattle.etx_macros.specs.Calls.{ParsAreAllowed, AreSpaces}

-- in a group that is an undelimited argument
pub record InGroup (long : Bool) (read : List Token) (depth : ℕ) : Type 0 where
  pub left : Token
  pub inner : List Token
  pub deeper : ℕ
  pub opens : has_category left 1 ≡ true
  pub read_is : read ≡ left ∷ inner
  pub inside : depth_of inner ≡ Some deeper
  pub depth_is : depth ≡ suc deeper
  pub pars : ParsAreAllowed long [] read

-- in a delimited argument: the delimiter hasn't come yet behind a balanced text; outside braces, so many tokens of it have
pub record InDelimited (long : Bool) (delimiter read : List Token) (depth matched : ℕ) : Type 0 where
  pub depth_is : depth_of read ≡ Some depth
  pub not_yet : (other rest : List Token) → read ≡ (other ++ delimiter) ++ rest → IsBalanced other → ⊥
  pub place : depth ≡ 0 → IsLongest read delimiter (length delimiter) matched
  pub wants : matched < length delimiter
  pub pars : ParsAreAllowed long delimiter read

abbrev pub Within : Bool → List Token → List Token → List Token → ℕ → ℕ → Type 0
Within long [] skipped read depth matched = AreSpaces skipped × (((read ≡ []) × (depth ≡ 0)) ⊎ InGroup long read depth)
Within long (t ∷ ts) skipped read depth matched = (skipped ≡ []) × InDelimited long (t ∷ ts) read depth matched
