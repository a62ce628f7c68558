-- What was taken so far as the beginning of a tree: the terms, and the factors of the last one, at each level.
use Rattle.std.proofs.Common.{◌≡◌, List, [], ◌∷◌, ◌++◌, Some, None, refl, sym, ap, subst, ◌∙◌, append_assoc}
use Rattle.etx_exprs.specs.declared.value.ValueKind.{ValueKind}
use Rattle.etx_exprs.specs.declared.value.ValueKind.TheVariants as kinds
use Rattle.etx_exprs.specs.declared.part.Part.{Part}
use Rattle.etx_exprs.specs.declared.part.Part.TheVariants as part
use Rattle.etx_exprs.specs.declared.sum.Sign.{Sign}
use Rattle.etx_exprs.specs.declared.sum.Sign.TheVariants as sign
use Rattle.etx_exprs.specs.declared.level.Sum.{Sum}
use Rattle.etx_exprs.specs.declared.level.Sum.TheVariants.{Nothing, Before}
use Rattle.etx_exprs.specs.declared.level.Progress.{Progress}
use Rattle.etx_exprs.specs.declared.level.Progress.TheVariants.{Begins, Times}
use Rattle.etx_exprs.specs.declared.level.Level.{Level}
use Rattle.etx_exprs.specs.Values.{sum_of}
use Rattle.etx_exprs.specs.Trees.{Expression, first, plus, minus, Term, lone, times, over, Factor, expression_parts, term_parts, factor_parts, IsExpression, IsTerm, IsFactor, term_begun, expression_begun, expression_value, term_value, factor_value}
use Rattle.etx_exprs.specs.Feeding.{ExprState, wanted_by, with_factor, level_value, level_begun, divided_progress}
use Rattle.etx_exprs.proofs.Completeness.{at, level, progress_of, value_of_progress, begun_of_progress, none_wanted, wanted_divided, divided_of}

pub data SumTree : Type 0 where
  nothing : SumTree
  before : Expression → Sign → SumTree

pub data ProgressTree : Type 0 where
  begins : ProgressTree
  due : Term → ProgressTree
  multiplied : Term → ProgressTree
  divided : Term → ProgressTree

pub record LevelTree : Type 0 where
  pub kind : ValueKind
  pub sum : SumTree
  pub progress : ProgressTree

-- the parts
abbrev pub sign_part : Sign → Part
sign_part sign.Plus = part.Plus
sign_part sign.Minus = part.Minus

abbrev pub sum_parts : SumTree → List Part
sum_parts nothing = []
sum_parts (before e s) = expression_parts e ++ sign_part s ∷ []

abbrev pub progress_parts : ProgressTree → List Part
progress_parts begins = []
progress_parts (due t) = term_parts t
progress_parts (multiplied t) = term_parts t ++ part.Times ∷ []
progress_parts (divided t) = term_parts t ++ part.Divide ∷ []

abbrev pub level_parts : LevelTree → List Part
level_parts l = sum_parts l.sum ++ progress_parts l.progress

abbrev pub outer_parts : List LevelTree → List Part
outer_parts [] = []
outer_parts (l ∷ ls) = outer_parts ls ++ (level_parts l ++ part.Open ∷ [])

-- what the code keeps of it
abbrev pub sum_in : SumTree → Sum
sum_in nothing = Nothing
sum_in (before e s) = Before (expression_begun e (expression_value e)) s

abbrev pub progress_in : ProgressTree → Progress
progress_in begins = Begins
progress_in (due t) = progress_of t
progress_in (multiplied t) = Times (term_begun t (term_value t))
progress_in (divided t) = divided_progress (progress_of t)

abbrev pub level_in : LevelTree → Level
level_in l = level l.kind (sum_in l.sum) (progress_in l.progress)

abbrev pub levels_in : List LevelTree → List Level
levels_in [] = []
levels_in (l ∷ ls) = level_in l ∷ levels_in ls

-- the kinds
abbrev pub IsSum : ValueKind → SumTree → Type 0
IsSum kind nothing = Unit {0}
IsSum kind (before e s) = IsExpression kind e

abbrev pub IsProgress : ValueKind → ProgressTree → Type 0
IsProgress kind begins = Unit {0}
IsProgress kind (due t) = IsTerm kind t
IsProgress kind (multiplied t) = IsTerm kind t
IsProgress kind (divided t) = IsTerm kind t

-- a level inside these has the kind that the innermost of them wants, and the outermost has the kind of the whole
abbrev pub Nests : ValueKind → List LevelTree → ValueKind → Type 0
Nests top [] kind = kind ≡ top
Nests top (l ∷ ls) kind = IsSum l.kind l.sum × IsProgress l.kind l.progress × (wanted_by l.kind (progress_in l.progress) ≡ Some kind) × Nests top ls l.kind

pub record Spelled (top : ValueKind) (parts : List Part) (s : ExprState) : Type 0 where
  pub outer : List LevelTree
  pub inner : LevelTree
  pub state_is : s ≡ at (levels_in outer) (level_in inner)
  pub parts_are : parts ≡ outer_parts outer ++ level_parts inner
  pub sum_is : IsSum inner.kind inner.sum
  pub progress_is : IsProgress inner.kind inner.progress
  pub nests : Nests top outer inner.kind

-- a term more
abbrev pub joined : SumTree → Term → Expression
joined nothing t = first t
joined (before e sign.Plus) t = plus e t
joined (before e sign.Minus) t = minus e t

pub joined_parts : (s : SumTree) (t : Term) → expression_parts (joined s t) ≡ sum_parts s ++ term_parts t
joined_parts nothing t = refl
joined_parts (before e sign.Plus) t = sym (append_assoc (expression_parts e) (part.Plus ∷ []) (term_parts t))
joined_parts (before e sign.Minus) t = sym (append_assoc (expression_parts e) (part.Minus ∷ []) (term_parts t))

pub joined_is : (kind : ValueKind) (s : SumTree) (t : Term) → IsSum kind s → IsTerm kind t → IsExpression kind (joined s t)
joined_is kind nothing t h g = g
joined_is kind (before e sign.Plus) t h g = (h, g)
joined_is kind (before e sign.Minus) t h g = (h, g)

pub joined_value : (kind : ValueKind) (s : SumTree) (t : Term) → level_value (level kind (sum_in s) (progress_of t)) ≡ expression_value (joined s t)
joined_value kind nothing t = value_of_progress t
joined_value kind (before e sign.Plus) t = ap (sum_of sign.Plus (expression_begun e (expression_value e))) (value_of_progress t)
joined_value kind (before e sign.Minus) t = ap (sum_of sign.Minus (expression_begun e (expression_value e))) (value_of_progress t)

pub joined_begun : (kind : ValueKind) (s : SumTree) (t : Term) →
    level_begun (level kind (sum_in s) (progress_of t)) ≡ expression_begun (joined s t) (expression_value (joined s t))
joined_begun kind nothing t = begun_of_progress t
joined_begun kind (before e sign.Plus) t = ap (sum_of sign.Plus (expression_begun e (expression_value e))) (value_of_progress t)
joined_begun kind (before e sign.Minus) t = ap (sum_of sign.Minus (expression_begun e (expression_value e))) (value_of_progress t)

-- a factor more
abbrev pub filled : ProgressTree → Factor → Term
filled begins f = lone f
filled (due t) f = t
filled (multiplied t) f = times t f
filled (divided t) f = over t f

not_wanted : {A : Type 0} (kind k : ValueKind) (t : Term) → wanted_by kind (progress_of t) ≡ Some k → A
not_wanted kind k t w = let e : None ≡ Some k = sym (none_wanted kind t) ∙ w in cc

pub filled_parts : (kind k : ValueKind) (p : ProgressTree) (f : Factor) → wanted_by kind (progress_in p) ≡ Some k → term_parts (filled p f) ≡ progress_parts p ++ factor_parts f
filled_parts kind k begins f w = refl
filled_parts kind k (due t) f w = not_wanted kind k t w
filled_parts kind k (multiplied t) f w = sym (append_assoc (term_parts t) (part.Times ∷ []) (factor_parts f))
filled_parts kind k (divided t) f w = sym (append_assoc (term_parts t) (part.Divide ∷ []) (factor_parts f))

same_kind : (k l : ValueKind) → Some k ≡ Some l → k ≡ l
same_kind k l e = cc

pub filled_is : (kind k : ValueKind) (p : ProgressTree) (f : Factor) → wanted_by kind (progress_in p) ≡ Some k → IsProgress kind p → IsFactor k f → IsTerm kind (filled p f)
filled_is kind k begins f w h g = subst (λ (x : ValueKind). IsFactor x f) (sym (same_kind kind k w)) g
filled_is kind k (due t) f w h g = not_wanted kind k t w
filled_is kind k (multiplied t) f w h g = (h, subst (λ (x : ValueKind). IsFactor x f) (sym (same_kind kinds.Int k w)) g)
filled_is kind k (divided t) f w h g = (h, subst (λ (x : ValueKind). IsFactor x f) (sym (same_kind kinds.Int k (sym (wanted_divided kind t) ∙ w))) g)

pub filled_value : (kind k : ValueKind) (p : ProgressTree) (f : Factor) → wanted_by kind (progress_in p) ≡ Some k → with_factor (progress_in p) (factor_value f) ≡ progress_of (filled p f)
filled_value kind k begins f w = refl
filled_value kind k (due t) f w = not_wanted kind k t w
filled_value kind k (multiplied t) f w = refl
filled_value kind k (divided t) f w = divided_of t f
