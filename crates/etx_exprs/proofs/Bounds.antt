-- A value that was formed is in its range.
use Rattle.std.proofs.Common.{◌≡◌, Bool, true, false, not, ◌&&◌, ◌==◌, nat_lt, if◌then◌else◌, ℤ, pos, List, Option, Some, None, MatchResult, IfOk, Result, Ok, Err, unsigned_abs, refl, sym, ap, subst, ◌∙◌}
use Rattle.std.specs.Option.{option_map}
use Rattle.etx_matter.specs.declared.glue.Glue.{Glue}
use Rattle.etx_matter.specs.declared.glue.GlueOrder.{GlueOrder}
use Rattle.etx_matter.specs.declared.glue.GlueOrder.TheVariants.{Normal}
use Rattle.etx_exprs.specs.declared.value.Value.{Value}
use Rattle.etx_exprs.specs.declared.value.Value.TheVariants as value
use Rattle.etx_exprs.specs.declared.value.ValueKind.{ValueKind}
use Rattle.etx_exprs.specs.declared.step.Step.{Step}
use Rattle.etx_exprs.specs.declared.step.Step.TheVariants.{Times, Over, Scale}
use Rattle.etx_exprs.specs.declared.sum.Amount.{Amount}
use Rattle.etx_exprs.specs.declared.sum.Sign.{Sign}
use Rattle.etx_exprs.specs.declared.sum.Sign.TheVariants as sign
use Rattle.etx_exprs.specs.declared.part.Part.{Part}
use Rattle.etx_exprs.specs.Values.{integer, dimension, glue_from, amount_from, stretch_of, shrink_of, divides_by_zero, is_zero, sized, formed, glue_formed, checked, stepped, product, quotient, scaled, normal, normalized, joined, rank, amount_joined, sum_of}
use Rattle.etx_exprs.specs.Trees.{expression_parts, Expression, first, plus, minus, Term, lone, times, over, Factor, operand, parens, term_begun, expression_begun, expression_value, term_value, factor_value}
use Rattle.etx_exprs.specs.Feeding.{ExprState, level_value, is_whole}
use Rattle.etx_exprs.specs.Says.{Took}
use Rattle.etx_exprs.proofs.Completeness.{tree_value}
use Rattle.etx_exprs.proofs.Steps.{is_tree}

abbrev pub InRange : Option Value → Type 0
InRange None = Unit {0}
InRange (Some v) = checked v ≡ Some v

-- numbers
if_true : (b : Bool) (z n : ℤ) → (if b then Some z else None) ≡ Some n → b ≡ true
if_true true z n e = refl
if_true false z n e = cc

if_same : (b : Bool) (z n : ℤ) → (if b then Some z else None) ≡ Some n → z ≡ n
if_same true z n e = cc
if_same false z n e = cc

integer_again : (z n : ℤ) → integer z ≡ Some n → integer n ≡ Some n
integer_again z n e =
    let same : z ≡ n = if_same (nat_lt (unsigned_abs z) 2147483648) z n e in
    subst (λ (x : ℤ). integer x ≡ Some n) same e

dimension_again : (z n : ℤ) → dimension z ≡ Some n → dimension n ≡ Some n
dimension_again z n e =
    let same : z ≡ n = if_same (nat_lt (unsigned_abs z) 1073741824) z n e in
    subst (λ (x : ℤ). dimension x ≡ Some n) same e

abbrev IsInteger : Option ℤ → Type 0
IsInteger None = Unit {0}
IsInteger (Some n) = integer n ≡ Some n

abbrev IsDimension : Option ℤ → Type 0
IsDimension None = Unit {0}
IsDimension (Some n) = dimension n ≡ Some n

abbrev IsAmount : Option Amount → Type 0
IsAmount None = Unit {0}
IsAmount (Some a) = dimension a.size ≡ Some a.size

integer_by : (z : ℤ) (o : Option ℤ) → integer z ≡ o → IsInteger o
integer_by z None e = tt
integer_by z (Some n) e = integer_again z n e

dimension_by : (z : ℤ) (o : Option ℤ) → dimension z ≡ o → IsDimension o
dimension_by z None e = tt
dimension_by z (Some n) e = dimension_again z n e

dimension_in : (z : ℤ) → IsDimension (dimension z)
dimension_in z = dimension_by z (dimension z) refl

amount_in : (o : Option ℤ) (order : GlueOrder) → IsDimension o → IsAmount (amount_from o order)
amount_in None order h = tt
amount_in (Some n) order h = h

if_normal : (b : Bool) (a : Amount) → dimension a.size ≡ Some a.size →
    dimension (if b then record { size = pos 0; order = Normal } else a).size ≡ Some (if b then record { size = pos 0; order = Normal } else a).size
if_normal true a h = refl
if_normal false a h = h

normal_in : (a : Amount) → dimension a.size ≡ Some a.size → dimension (normal a).size ≡ Some (normal a).size
normal_in a h = if_normal (is_zero a.size) a h

normal_map : (o : Option Amount) → IsAmount o → IsAmount (option_map normal o)
normal_map None h = tt
normal_map (Some a) h = normal_in a h

-- values
integers_in : (o : Option ℤ) → IsInteger o → InRange (option_map value.Int o)
unfolding checked
integers_in None h = tt
integers_in (Some n) h = rw h refl

dimensions_in : (o : Option ℤ) → IsDimension o → InRange (option_map value.Dim o)
unfolding checked
dimensions_in None h = tt
dimensions_in (Some n) h = rw h refl

glue_in : (w : Option ℤ) (s h : Option Amount) → IsDimension w → IsAmount s → IsAmount h → InRange (option_map value.Glue (glue_from w s h))
unfolding checked
glue_in None s h a b c = tt
glue_in (Some w) None h a b c = tt
glue_in (Some w) (Some s) None a b c = tt
glue_in (Some w) (Some s) (Some h) a b c = rw (a, b, c) refl

mu_glue_in : (w : Option ℤ) (s h : Option Amount) → IsDimension w → IsAmount s → IsAmount h → InRange (option_map value.MuGlue (glue_from w s h))
unfolding checked
mu_glue_in None s h a b c = tt
mu_glue_in (Some w) None h a b c = tt
mu_glue_in (Some w) (Some s) None a b c = tt
mu_glue_in (Some w) (Some s) (Some h) a b c = rw (a, b, c) refl

formed_in : (f : ℤ → ℤ) (v : Value) → InRange (formed f v)
formed_in f (value.Int n) = integers_in (integer (f n)) (integer_by (f n) (integer (f n)) refl)
formed_in f (value.Dim d) = dimensions_in (dimension (f d)) (dimension_in (f d))
formed_in f (value.Glue g) =
    glue_in (dimension (f g.width)) (amount_from (dimension (f g.stretch)) g.stretch_order) (amount_from (dimension (f g.shrink)) g.shrink_order) (dimension_in (f g.width))
    (amount_in (dimension (f g.stretch)) g.stretch_order (dimension_in (f g.stretch))) (amount_in (dimension (f g.shrink)) g.shrink_order (dimension_in (f g.shrink)))
formed_in f (value.MuGlue g) =
    mu_glue_in (dimension (f g.width)) (amount_from (dimension (f g.stretch)) g.stretch_order) (amount_from (dimension (f g.shrink)) g.shrink_order) (dimension_in (f g.width))
    (amount_in (dimension (f g.stretch)) g.stretch_order (dimension_in (f g.stretch))) (amount_in (dimension (f g.shrink)) g.shrink_order (dimension_in (f g.shrink)))

checked_in : (v : Value) → InRange (checked v)
checked_in v = unfold checked in formed_in (λ z. z) v

unless_in : (b : Bool) (o : Option Value) → InRange o → InRange (if b then None else o)
unless_in true o h = tt
unless_in false o h = h

stepped_in : (step : Step) (v : Value) → InRange (stepped step v)
stepped_in step v = unless_in (divides_by_zero step) (formed (sized step) v) (formed_in (sized step) v)

product_in : (a b : Option Value) → InRange (product a b)
unfolding product
product_in None b = tt
product_in (Some v) None = tt
product_in (Some v) (Some (value.Int n)) = stepped_in (Times n) v
product_in (Some v) (Some (value.Dim n)) = tt
product_in (Some v) (Some (value.Glue n)) = tt
product_in (Some v) (Some (value.MuGlue n)) = tt

quotient_in : (a b : Option Value) → InRange (quotient a b)
unfolding quotient
quotient_in None b = tt
quotient_in (Some v) None = tt
quotient_in (Some v) (Some (value.Int n)) = stepped_in (Over n) v
quotient_in (Some v) (Some (value.Dim n)) = tt
quotient_in (Some v) (Some (value.Glue n)) = tt
quotient_in (Some v) (Some (value.MuGlue n)) = tt

scaled_in : (a b c : Option Value) → InRange (scaled a b c)
unfolding scaled
scaled_in None b c = tt
scaled_in (Some v) None c = tt
scaled_in (Some v) (Some (value.Int n)) None = tt
scaled_in (Some v) (Some (value.Int n)) (Some (value.Int d)) = stepped_in (Scale n d) v
scaled_in (Some v) (Some (value.Int n)) (Some (value.Dim d)) = tt
scaled_in (Some v) (Some (value.Int n)) (Some (value.Glue d)) = tt
scaled_in (Some v) (Some (value.Int n)) (Some (value.MuGlue d)) = tt
scaled_in (Some v) (Some (value.Dim n)) c = tt
scaled_in (Some v) (Some (value.Glue n)) c = tt
scaled_in (Some v) (Some (value.MuGlue n)) c = tt

-- the sizes of glue that is in its range
record SizesIn (g : Glue) : Type 0 where
  pub width : dimension g.width ≡ Some g.width
  pub stretch : dimension g.stretch ≡ Some g.stretch
  pub shrink : dimension g.shrink ≡ Some g.shrink

sizes_by : (w s h : Option ℤ) (so ho : GlueOrder) (g : Glue) → dimension g.width ≡ w → dimension g.stretch ≡ s → dimension g.shrink ≡ h →
    glue_from w (amount_from s so) (amount_from h ho) ≡ Some g → SizesIn g
sizes_by None s h so ho g a b c e = cc
sizes_by (Some w) None h so ho g a b c e = cc
sizes_by (Some w) (Some s) None so ho g a b c e = cc
sizes_by (Some w) (Some s) (Some h) so ho g a b c e =
    let of : Glue = record { width = w; stretch = s; shrink = h; stretch_order = so; shrink_order = ho } in
    let same : of ≡ g = cc in
    record { width = a ∙ ap (λ (x : Glue). Some x.width) same; stretch = b ∙ ap (λ (x : Glue). Some x.stretch) same; shrink = c ∙ ap (λ (x : Glue). Some x.shrink) same }

glue_some : (o : Option Glue) (g : Glue) → option_map value.Glue o ≡ Some (value.Glue g) → o ≡ Some g
glue_some None g e = cc
glue_some (Some h) g e = cc

mu_glue_some : (o : Option Glue) (g : Glue) → option_map value.MuGlue o ≡ Some (value.MuGlue g) → o ≡ Some g
mu_glue_some None g e = cc
mu_glue_some (Some h) g e = cc

glue_sizes : (g : Glue) → checked (value.Glue g) ≡ Some (value.Glue g) → SizesIn g
unfolding checked
glue_sizes g e = sizes_by (dimension g.width) (dimension g.stretch) (dimension g.shrink) g.stretch_order g.shrink_order g refl refl refl (glue_some (glue_formed (λ z. z) g) g e)

mu_glue_sizes : (g : Glue) → checked (value.MuGlue g) ≡ Some (value.MuGlue g) → SizesIn g
unfolding checked
mu_glue_sizes g e = sizes_by (dimension g.width) (dimension g.stretch) (dimension g.shrink) g.stretch_order g.shrink_order g refl refl refl (mu_glue_some (glue_formed (λ z. z) g) g e)

normalized_in : (a : Option Value) → InRange a → InRange (normalized a)
unfolding normalized
normalized_in None h = tt
normalized_in (Some (value.Int n)) h = h
normalized_in (Some (value.Dim d)) h = h
normalized_in (Some (value.Glue g)) h =
    let r = glue_sizes g h in glue_in (Some g.width) (Some (normal (stretch_of g))) (Some (normal (shrink_of g))) r.width (normal_in (stretch_of g) r.stretch) (normal_in (shrink_of g) r.shrink)
normalized_in (Some (value.MuGlue g)) h =
    let r = mu_glue_sizes g h in mu_glue_in (Some g.width) (Some (normal (stretch_of g))) (Some (normal (shrink_of g))) r.width (normal_in (stretch_of g) r.stretch) (normal_in (shrink_of g) r.shrink)

either_in : (b c : Bool) (o : Option Amount) (x y : Amount) → IsAmount o → dimension x.size ≡ Some x.size → dimension y.size ≡ Some y.size →
    IsAmount (if b then o else (if c then Some y else Some (normal x)))
either_in true c o x y h p q = h
either_in false true o x y h p q = q
either_in false false o x y h p q = normal_in x p

amount_joined_in : (s : Sign) (x y : Amount) → dimension x.size ≡ Some x.size → dimension y.size ≡ Some y.size → IsAmount (amount_joined s x y)
amount_joined_in s x y p q =
    either_in (rank x.order == rank y.order) (nat_lt (rank x.order) (rank y.order) && not (is_zero y.size)) (option_map normal (amount_from (dimension (joined s x.size y.size)) x.order)) x y
    (normal_map (amount_from (dimension (joined s x.size y.size)) x.order) (amount_in (dimension (joined s x.size y.size)) x.order (dimension_in (joined s x.size y.size)))) p q

sum_in : (s : Sign) (a b : Option Value) → InRange a → InRange b → InRange (sum_of s a b)
unfolding sum_of
sum_in s None b h g = tt
sum_in s (Some v) None h g = tt
sum_in s (Some (value.Int x)) (Some (value.Int y)) h g = integers_in (integer (joined s x y)) (integer_by (joined s x y) (integer (joined s x y)) refl)
sum_in s (Some (value.Int x)) (Some (value.Dim y)) h g = tt
sum_in s (Some (value.Int x)) (Some (value.Glue y)) h g = tt
sum_in s (Some (value.Int x)) (Some (value.MuGlue y)) h g = tt
sum_in s (Some (value.Dim x)) (Some (value.Int y)) h g = tt
sum_in s (Some (value.Dim x)) (Some (value.Dim y)) h g = dimensions_in (dimension (joined s x y)) (dimension_in (joined s x y))
sum_in s (Some (value.Dim x)) (Some (value.Glue y)) h g = tt
sum_in s (Some (value.Dim x)) (Some (value.MuGlue y)) h g = tt
sum_in s (Some (value.Glue x)) (Some (value.Int y)) h g = tt
sum_in s (Some (value.Glue x)) (Some (value.Dim y)) h g = tt
sum_in s (Some (value.Glue x)) (Some (value.Glue y)) h g =
    let p = glue_sizes x h in
    let q = glue_sizes y g in
    glue_in (dimension (joined s x.width y.width)) (amount_joined s (stretch_of x) (stretch_of y)) (amount_joined s (shrink_of x) (shrink_of y)) (dimension_in (joined s x.width y.width))
    (amount_joined_in s (stretch_of x) (stretch_of y) p.stretch q.stretch) (amount_joined_in s (shrink_of x) (shrink_of y) p.shrink q.shrink)
sum_in s (Some (value.Glue x)) (Some (value.MuGlue y)) h g = tt
sum_in s (Some (value.MuGlue x)) (Some (value.Int y)) h g = tt
sum_in s (Some (value.MuGlue x)) (Some (value.Dim y)) h g = tt
sum_in s (Some (value.MuGlue x)) (Some (value.Glue y)) h g = tt
sum_in s (Some (value.MuGlue x)) (Some (value.MuGlue y)) h g =
    let p = mu_glue_sizes x h in
    let q = mu_glue_sizes y g in
    mu_glue_in (dimension (joined s x.width y.width)) (amount_joined s (stretch_of x) (stretch_of y)) (amount_joined s (shrink_of x) (shrink_of y)) (dimension_in (joined s x.width y.width))
    (amount_joined_in s (stretch_of x) (stretch_of y) p.stretch q.stretch) (amount_joined_in s (shrink_of x) (shrink_of y) p.shrink q.shrink)

-- trees
term_begun_in : (t : Term) (v : Option Value) → InRange v → InRange (term_begun t v)
term_begun_in (lone f) v h = normalized_in v h
term_begun_in (times t f) v h = h
term_begun_in (over t f) v h = h

expression_begun_in : (e : Expression) (v : Option Value) → InRange v → InRange (expression_begun e v)
expression_begun_in (first t) v h = term_begun_in t v h
expression_begun_in (plus e t) v h = h
expression_begun_in (minus e t) v h = h

mutual
  expression_in : (e : Expression) → InRange (expression_value e)
  expression_in (first t) = term_in t
  expression_in (plus e t) = sum_in sign.Plus (expression_begun e (expression_value e)) (term_value t) (expression_begun_in e (expression_value e) (expression_in e)) (term_in t)
  expression_in (minus e t) = sum_in sign.Minus (expression_begun e (expression_value e)) (term_value t) (expression_begun_in e (expression_value e) (expression_in e)) (term_in t)

  term_in : (t : Term) → InRange (term_value t)
  term_in (lone f) = factor_in f
  term_in (times t f) = product_in (term_begun t (term_value t)) (factor_value f)
  term_in (over (times t f) g) = scaled_in (term_begun t (term_value t)) (factor_value f) (factor_value g)
  term_in (over (lone f) g) = quotient_in (normalized (factor_value f)) (factor_value g)
  term_in (over (over t f) g) = quotient_in (term_value (over t f)) (factor_value g)

  factor_in : (f : Factor) → InRange (factor_value f)
  factor_in (operand v) = checked_in v
  factor_in (parens e) = expression_in e

pub value_in : {E : Type 0} (r : Result Value E) (s : ExprState) → is_whole s ≡ true → MatchResult r (λ v. level_value s.level ≡ Some v) (λ _. level_value s.level ≡ None) →
    (kind : ValueKind) (parts : List Part) → Took kind parts s → IfOk r (λ v. checked v ≡ Some v)
value_in (Err x) s whole e kind parts took = tt
value_in (Ok v) s whole e kind parts took =
    let tree = is_tree kind parts s took whole in
    let took' : Took kind (expression_parts tree.tree) s = subst (λ (ps : List Part). Took kind ps s) tree.parts_are took in
    subst InRange e (subst InRange (sym (tree_value kind tree.tree s tree.kind_is took')) (expression_in tree.tree))
