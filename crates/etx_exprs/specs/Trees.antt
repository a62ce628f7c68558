-- The expressions of e-TeX as trees, by section 3.5 of its manual: the parts that a tree is written with, the kind that it is
-- of, and its value.
use Rattle.std.specs.Prelude.{◌≡◌, true, List, [], ◌∷◌, ◌++◌, Option}
use Rattle.etx_exprs.specs.declared.value.Value.{Value}
use Rattle.etx_exprs.specs.declared.value.ValueKind.{ValueKind}
use Rattle.etx_exprs.specs.declared.value.ValueKind.TheVariants.{Int}
use Rattle.etx_exprs.specs.declared.part.Part.{Part}
use Rattle.etx_exprs.specs.declared.part.Part.TheVariants.{Operand, Plus, Minus, Times, Divide, Open, Close}
use Rattle.etx_exprs.specs.declared.sum.Sign.TheVariants as sign
use Rattle.etx_exprs.specs.Values.{is_of, checked, product, quotient, scaled, normalized, sum_of}

mutual
  -- terms with a sign between them
  pub data Expression : Type 0 where
    first : Term → Expression
    plus : Expression → Term → Expression
    minus : Expression → Term → Expression

  -- a factor, times or divided by others
  pub data Term : Type 0 where
    lone : Factor → Term
    times : Term → Factor → Term
    over : Term → Factor → Term

  -- an operand, or an expression in parentheses
  pub data Factor : Type 0 where
    operand : Value → Factor
    parens : Expression → Factor

-- what a tree is written with
abbrev mutual
  pub expression_parts : Expression → List Part
  expression_parts (first t) = term_parts t
  expression_parts (plus e t) = expression_parts e ++ Plus ∷ term_parts t
  expression_parts (minus e t) = expression_parts e ++ Minus ∷ term_parts t

  pub term_parts : Term → List Part
  term_parts (lone f) = factor_parts f
  term_parts (times t f) = term_parts t ++ Times ∷ factor_parts f
  term_parts (over t f) = term_parts t ++ Divide ∷ factor_parts f

  pub factor_parts : Factor → List Part
  factor_parts (operand v) = Operand v ∷ []
  factor_parts (parens e) = Open ∷ (expression_parts e ++ Close ∷ [])

-- a tree of a kind: its terms begin with factors of that kind, and all other factors are integers
abbrev mutual
  pub IsExpression : ValueKind → Expression → Type 0
  IsExpression kind (first t) = IsTerm kind t
  IsExpression kind (plus e t) = IsExpression kind e × IsTerm kind t
  IsExpression kind (minus e t) = IsExpression kind e × IsTerm kind t

  pub IsTerm : ValueKind → Term → Type 0
  IsTerm kind (lone f) = IsFactor kind f
  IsTerm kind (times t f) = IsTerm kind t × IsFactor Int f
  IsTerm kind (over t f) = IsTerm kind t × IsFactor Int f

  pub IsFactor : ValueKind → Factor → Type 0
  IsFactor kind (operand v) = is_of kind v ≡ true
  IsFactor kind (parens e) = IsExpression kind e

-- A factor that begins a term is normal once an operator stands behind it: a stretch or shrink of nothing is then finite. (The
-- manual doesn't say so, and real e-TeX does it.)
abbrev pub term_begun : Term → Option Value → Option Value
term_begun (lone f) v = normalized v
term_begun (times t f) v = v
term_begun (over t f) v = v

abbrev pub expression_begun : Expression → Option Value → Option Value
expression_begun (first t) v = term_begun t v
expression_begun (plus e t) v = v
expression_begun (minus e t) v = v

-- The value of a tree, `None` where one that is formed on the way is out of its range or a divisor is zero. A product directly
-- followed by a division is one scaling, whose product has no bound.
abbrev mutual
  pub expression_value : Expression → Option Value
  expression_value (first t) = term_value t
  expression_value (plus e t) = sum_of sign.Plus (expression_begun e (expression_value e)) (term_value t)
  expression_value (minus e t) = sum_of sign.Minus (expression_begun e (expression_value e)) (term_value t)

  pub term_value : Term → Option Value
  term_value (lone f) = factor_value f
  term_value (times t f) = product (term_begun t (term_value t)) (factor_value f)
  term_value (over (times t f) g) = scaled (term_begun t (term_value t)) (factor_value f) (factor_value g)
  term_value (over (lone f) g) = quotient (normalized (factor_value f)) (factor_value g)
  term_value (over (over t f) g) = quotient (term_value (over t f)) (factor_value g)

  pub factor_value : Factor → Option Value
  factor_value (operand v) = checked v
  factor_value (parens e) = expression_value e
