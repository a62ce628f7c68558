-- A value has the kind of its tree.
use Rattle.std.proofs.Common.{◌≡◌, Bool, true, false, if◌then◌else◌, ℤ, List, Option, Some, None, MatchResult, IfOk, Result, Ok, Err, refl, sym, subst}
use Rattle.std.specs.Option.{option_map}
use Rattle.etx_matter.specs.declared.glue.Glue.{Glue}
use Rattle.etx_exprs.specs.declared.value.Value.{Value}
use Rattle.etx_exprs.specs.declared.value.Value.TheVariants as value
use Rattle.etx_exprs.specs.declared.value.ValueKind.{ValueKind}
use Rattle.etx_exprs.specs.declared.value.ValueKind.TheVariants as kinds
use Rattle.etx_exprs.specs.declared.step.Step.{Step}
use Rattle.etx_exprs.specs.declared.step.Step.TheVariants.{Times, Over, Scale}
use Rattle.etx_exprs.specs.declared.sum.Sign.{Sign}
use Rattle.etx_exprs.specs.declared.sum.Sign.TheVariants as sign
use Rattle.etx_exprs.specs.declared.part.Part.{Part}
use Rattle.etx_exprs.specs.Values.{kind_of, is_of, integer, dimension, divides_by_zero, sized, formed, glue_formed, checked, stepped, product, quotient, scaled, normalized, joined, glue_joined, sum_of}
use Rattle.etx_exprs.specs.Trees.{expression_parts, Expression, first, plus, minus, Term, lone, times, over, Factor, operand, parens, IsExpression, IsTerm, IsFactor, term_begun, expression_begun, expression_value, term_value, factor_value}
use Rattle.etx_exprs.specs.Feeding.{ExprState, level_value, is_whole}
use Rattle.etx_exprs.specs.Says.{Took}
use Rattle.etx_exprs.proofs.Completeness.{tree_value}
use Rattle.etx_exprs.proofs.Places.{kind_is}
use Rattle.etx_exprs.proofs.Steps.{is_tree}

abbrev pub Fits : ValueKind → Option Value → Type 0
Fits kind None = Unit {0}
Fits kind (Some v) = is_of kind v ≡ true

integer_fits : (o : Option ℤ) → Fits kinds.Int (option_map value.Int o)
integer_fits None = tt
integer_fits (Some n) = refl

dimension_fits : (o : Option ℤ) → Fits kinds.Dim (option_map value.Dim o)
dimension_fits None = tt
dimension_fits (Some n) = refl

glue_fits : (o : Option Glue) → Fits kinds.Glue (option_map value.Glue o)
glue_fits None = tt
glue_fits (Some g) = refl

mu_glue_fits : (o : Option Glue) → Fits kinds.MuGlue (option_map value.MuGlue o)
mu_glue_fits None = tt
mu_glue_fits (Some g) = refl

formed_own : (f : ℤ → ℤ) (v : Value) → Fits (kind_of v) (formed f v)
formed_own f (value.Int n) = integer_fits (integer (f n))
formed_own f (value.Dim d) = dimension_fits (dimension (f d))
formed_own f (value.Glue g) = glue_fits (glue_formed f g)
formed_own f (value.MuGlue g) = mu_glue_fits (glue_formed f g)

formed_fits : (kind : ValueKind) (f : ℤ → ℤ) (v : Value) → is_of kind v ≡ true → Fits kind (formed f v)
formed_fits kind f v h = subst (λ (k : ValueKind). Fits k (formed f v)) (sym (kind_is kind v h)) (formed_own f v)

checked_fits : (kind : ValueKind) (v : Value) → is_of kind v ≡ true → Fits kind (checked v)
unfolding checked
checked_fits kind v h = formed_fits kind (λ z. z) v h

unless_fits : (b : Bool) (kind : ValueKind) (o : Option Value) → Fits kind o → Fits kind (if b then None else o)
unless_fits true kind o h = tt
unless_fits false kind o h = h

stepped_fits : (kind : ValueKind) (step : Step) (v : Value) → is_of kind v ≡ true → Fits kind (stepped step v)
stepped_fits kind step v h = unless_fits (divides_by_zero step) kind (formed (sized step) v) (formed_fits kind (sized step) v h)

product_fits : (kind : ValueKind) (a b : Option Value) → Fits kind a → Fits kind (product a b)
unfolding product
product_fits kind None b h = tt
product_fits kind (Some v) None h = tt
product_fits kind (Some v) (Some (value.Int n)) h = stepped_fits kind (Times n) v h
product_fits kind (Some v) (Some (value.Dim n)) h = tt
product_fits kind (Some v) (Some (value.Glue n)) h = tt
product_fits kind (Some v) (Some (value.MuGlue n)) h = tt

quotient_fits : (kind : ValueKind) (a b : Option Value) → Fits kind a → Fits kind (quotient a b)
unfolding quotient
quotient_fits kind None b h = tt
quotient_fits kind (Some v) None h = tt
quotient_fits kind (Some v) (Some (value.Int n)) h = stepped_fits kind (Over n) v h
quotient_fits kind (Some v) (Some (value.Dim n)) h = tt
quotient_fits kind (Some v) (Some (value.Glue n)) h = tt
quotient_fits kind (Some v) (Some (value.MuGlue n)) h = tt

scaled_fits : (kind : ValueKind) (a b c : Option Value) → Fits kind a → Fits kind (scaled a b c)
unfolding scaled
scaled_fits kind None b c h = tt
scaled_fits kind (Some v) None c h = tt
scaled_fits kind (Some v) (Some (value.Int n)) None h = tt
scaled_fits kind (Some v) (Some (value.Int n)) (Some (value.Int d)) h = stepped_fits kind (Scale n d) v h
scaled_fits kind (Some v) (Some (value.Int n)) (Some (value.Dim d)) h = tt
scaled_fits kind (Some v) (Some (value.Int n)) (Some (value.Glue d)) h = tt
scaled_fits kind (Some v) (Some (value.Int n)) (Some (value.MuGlue d)) h = tt
scaled_fits kind (Some v) (Some (value.Dim n)) c h = tt
scaled_fits kind (Some v) (Some (value.Glue n)) c h = tt
scaled_fits kind (Some v) (Some (value.MuGlue n)) c h = tt

normalized_fits : (kind : ValueKind) (a : Option Value) → Fits kind a → Fits kind (normalized a)
unfolding normalized
normalized_fits kind None h = tt
normalized_fits kinds.Int (Some (value.Int n)) h = refl
normalized_fits kinds.Int (Some (value.Dim n)) h = h
normalized_fits kinds.Int (Some (value.Glue n)) h = h
normalized_fits kinds.Int (Some (value.MuGlue n)) h = h
normalized_fits kinds.Dim (Some (value.Int n)) h = h
normalized_fits kinds.Dim (Some (value.Dim n)) h = refl
normalized_fits kinds.Dim (Some (value.Glue n)) h = h
normalized_fits kinds.Dim (Some (value.MuGlue n)) h = h
normalized_fits kinds.Glue (Some (value.Int n)) h = h
normalized_fits kinds.Glue (Some (value.Dim n)) h = h
normalized_fits kinds.Glue (Some (value.Glue n)) h = refl
normalized_fits kinds.Glue (Some (value.MuGlue n)) h = h
normalized_fits kinds.MuGlue (Some (value.Int n)) h = h
normalized_fits kinds.MuGlue (Some (value.Dim n)) h = h
normalized_fits kinds.MuGlue (Some (value.Glue n)) h = h
normalized_fits kinds.MuGlue (Some (value.MuGlue n)) h = refl

sum_own : (s : Sign) (v : Value) (b : Option Value) → Fits (kind_of v) (sum_of s (Some v) b)
unfolding sum_of
sum_own s v None = tt
sum_own s (value.Int x) (Some (value.Int y)) = integer_fits (integer (joined s x y))
sum_own s (value.Int x) (Some (value.Dim y)) = tt
sum_own s (value.Int x) (Some (value.Glue y)) = tt
sum_own s (value.Int x) (Some (value.MuGlue y)) = tt
sum_own s (value.Dim x) (Some (value.Int y)) = tt
sum_own s (value.Dim x) (Some (value.Dim y)) = dimension_fits (dimension (joined s x y))
sum_own s (value.Dim x) (Some (value.Glue y)) = tt
sum_own s (value.Dim x) (Some (value.MuGlue y)) = tt
sum_own s (value.Glue x) (Some (value.Int y)) = tt
sum_own s (value.Glue x) (Some (value.Dim y)) = tt
sum_own s (value.Glue x) (Some (value.Glue y)) = glue_fits (glue_joined s x y)
sum_own s (value.Glue x) (Some (value.MuGlue y)) = tt
sum_own s (value.MuGlue x) (Some (value.Int y)) = tt
sum_own s (value.MuGlue x) (Some (value.Dim y)) = tt
sum_own s (value.MuGlue x) (Some (value.Glue y)) = tt
sum_own s (value.MuGlue x) (Some (value.MuGlue y)) = mu_glue_fits (glue_joined s x y)

sum_fits : (kind : ValueKind) (s : Sign) (a b : Option Value) → Fits kind a → Fits kind (sum_of s a b)
unfolding sum_of
sum_fits kind s None b h = tt
sum_fits kind s (Some v) b h = subst (λ (k : ValueKind). Fits k (sum_of s (Some v) b)) (sym (kind_is kind v h)) (sum_own s v b)

term_begun_fits : (kind : ValueKind) (t : Term) (v : Option Value) → Fits kind v → Fits kind (term_begun t v)
term_begun_fits kind (lone f) v h = normalized_fits kind v h
term_begun_fits kind (times t f) v h = h
term_begun_fits kind (over t f) v h = h

expression_begun_fits : (kind : ValueKind) (e : Expression) (v : Option Value) → Fits kind v → Fits kind (expression_begun e v)
expression_begun_fits kind (first t) v h = term_begun_fits kind t v h
expression_begun_fits kind (plus e t) v h = h
expression_begun_fits kind (minus e t) v h = h

mutual
  pub expression_fits : (e : Expression) (kind : ValueKind) → IsExpression kind e → Fits kind (expression_value e)
  expression_fits (first t) kind h = term_fits t kind h
  expression_fits (plus e t) kind h = sum_fits kind sign.Plus (expression_begun e (expression_value e)) (term_value t) (expression_begun_fits kind e (expression_value e) (expression_fits e kind h.0))
  expression_fits (minus e t) kind h = sum_fits kind sign.Minus (expression_begun e (expression_value e)) (term_value t) (expression_begun_fits kind e (expression_value e) (expression_fits e kind h.0))

  term_fits : (t : Term) (kind : ValueKind) → IsTerm kind t → Fits kind (term_value t)
  term_fits (lone f) kind h = factor_fits f kind h
  term_fits (times t f) kind h = product_fits kind (term_begun t (term_value t)) (factor_value f) (term_begun_fits kind t (term_value t) (term_fits t kind h.0))
  term_fits (over (times t f) g) kind h = scaled_fits kind (term_begun t (term_value t)) (factor_value f) (factor_value g) (term_begun_fits kind t (term_value t) (term_fits t kind h.0.0))
  term_fits (over (lone f) g) kind h = quotient_fits kind (normalized (factor_value f)) (factor_value g) (normalized_fits kind (factor_value f) (factor_fits f kind h.0))
  term_fits (over (over t f) g) kind h = quotient_fits kind (term_value (over t f)) (factor_value g) (term_fits (over t f) kind h.0)

  factor_fits : (f : Factor) (kind : ValueKind) → IsFactor kind f → Fits kind (factor_value f)
  factor_fits (operand v) kind h = checked_fits kind v h
  factor_fits (parens e) kind h = expression_fits e kind h

some_kind : (kind : ValueKind) (v : Value) (o : Option Value) → Fits kind o → o ≡ Some v → kind_of v ≡ kind
some_kind kind v o fits is = sym (kind_is kind v (subst (Fits kind) is fits))

pub value_kind : {E : Type 0} (r : Result Value E) (s : ExprState) → is_whole s ≡ true → MatchResult r (λ v. level_value s.level ≡ Some v) (λ _. level_value s.level ≡ None) →
    (kind : ValueKind) (parts : List Part) → Took kind parts s → IfOk r (λ v. kind_of v ≡ kind)
value_kind (Err x) s whole e kind parts took = tt
value_kind (Ok v) s whole e kind parts took =
    let tree = is_tree kind parts s took whole in
    let took' : Took kind (expression_parts tree.tree) s = subst (λ (ps : List Part). Took kind ps s) tree.parts_are took in
    some_kind kind v (level_value s.level) (subst (Fits kind) (sym (tree_value kind tree.tree s tree.kind_is took')) (expression_fits tree.tree kind tree.kind_is)) e
