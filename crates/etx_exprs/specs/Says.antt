-- What is said of a part behind others, by the trees alone.
use Rattle.std.specs.Prelude.{◌≡◌, ℕ, ◌+◌, List, [], ◌∷◌, ◌++◌, Some}
use Rattle.etx_exprs.specs.declared.value.ValueKind.{ValueKind}
use Rattle.etx_exprs.specs.declared.part.Part.{Part}
use Rattle.etx_exprs.specs.declared.part.Part.TheVariants.{Open, Close, Relax}
use Rattle.etx_exprs.specs.declared.part.Turn.{Turn}
use Rattle.etx_exprs.specs.declared.part.Turn.TheVariants.{More, Done, DoneBack}
use Rattle.etx_exprs.specs.Trees.{Expression, expression_parts, IsExpression}
use Rattle.etx_exprs.specs.Feeding.{ExprState, started, after}

-- these parts are all of a tree of the kind
pub record IsTree (kind : ValueKind) (parts : List Part) : Type 0 where
  pub tree : Expression
  pub kind_is : IsExpression kind tree
  pub parts_are : parts ≡ expression_parts tree

-- a tree of the kind begins with these parts
pub record BeginsTree (kind : ValueKind) (parts : List Part) : Type 0 where
  pub tree : Expression
  pub rest : List Part
  pub kind_is : IsExpression kind tree
  pub parts_are : parts ++ rest ≡ expression_parts tree

-- a `\relax` behind a whole tree ends it and is used up
abbrev pub EndsTree : ValueKind → List Part → Part → Type 0
EndsTree kind parts last = (last ≡ Relax) × IsTree kind parts

-- a tree goes on with the last part; the last part ends one; or it can't follow
abbrev pub Says : Turn → ValueKind → List Part → Part → Type 0
Says More kind parts last = BeginsTree kind (parts ++ last ∷ [])
Says Done kind parts last = EndsTree kind parts last
Says DoneBack kind parts last = (BeginsTree kind (parts ++ last ∷ []) → ⊥) × (EndsTree kind parts last → ⊥)

-- these parts were taken so far by an expression of the kind
abbrev pub Took : ValueKind → List Part → ExprState → Type 0
Took kind parts s = after (Some (started kind)) parts ≡ Some s

-- what an expression is behind a part: it took the part too, or it is what it was
abbrev pub Comes : Turn → ExprState → Part → ExprState → Type 0
Comes More s part s' = (kind : ValueKind) (parts : List Part) → Took kind parts s → Took kind (parts ++ part ∷ []) s'
Comes Done s part s' = s' ≡ s
Comes DoneBack s part s' = s' ≡ s

-- how many parentheses these parts open, and close
abbrev pub open_of : Part → ℕ
open_of Open = 1
open_of _ = 0

abbrev pub close_of : Part → ℕ
close_of Close = 1
close_of _ = 0

abbrev pub opens : List Part → ℕ
opens [] = 0
opens (p ∷ ps) = open_of p + opens ps

abbrev pub closes : List Part → ℕ
closes [] = 0
closes (p ∷ ps) = close_of p + closes ps
