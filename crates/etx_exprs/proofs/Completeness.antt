-- The parts of a tree are taken, and leave its value.
use Rattle.std.proofs.Common.{◌≡◌, true, List, [], ◌∷◌, ◌++◌, Option, Some, None, refl, sym, ap, ◌∙◌, append_assoc, append-nil}
use Rattle.etx_exprs.specs.declared.value.Value.{Value}
use Rattle.etx_exprs.specs.declared.value.ValueKind.{ValueKind}
use Rattle.etx_exprs.specs.declared.value.ValueKind.TheVariants.{Int}
use Rattle.etx_exprs.specs.declared.part.Part.{Part}
use Rattle.etx_exprs.specs.declared.part.Part.TheVariants as part
use Rattle.etx_exprs.specs.declared.sum.Sign.TheVariants as sign
use Rattle.etx_exprs.specs.declared.level.Sum.{Sum}
use Rattle.etx_exprs.specs.declared.level.Sum.TheVariants.{Nothing, Before}
use Rattle.etx_exprs.specs.declared.level.Progress.{Progress}
use Rattle.etx_exprs.specs.declared.level.Progress.TheVariants.{Begins, Lone, Whole, Product, Times}
use Rattle.etx_exprs.specs.declared.level.Level.{Level}
use Rattle.etx_exprs.specs.Values.{is_of, checked, sum_of}
use Rattle.etx_exprs.specs.Trees.{Expression, first, plus, minus, Term, lone, times, over, Factor, operand, parens, expression_parts, term_parts, factor_parts, IsExpression, IsTerm, IsFactor, term_begun, expression_begun, expression_value, term_value, factor_value}
use Rattle.etx_exprs.specs.Feeding.{ExprState, fresh, started, wanted_by, wanted_of, is_due, with_factor, value_so_far, value_begun, level_value, level_begun, behind_sign, behind_times, divided_progress, behind_divide, behind_factor, fed_of, after}

abbrev pub at : List Level → Level → ExprState
at outer level = record { outer = outer; level = level }

abbrev pub level : ValueKind → Sum → Progress → Level
level kind sum progress = record { kind = kind; sum = sum; progress = progress }

-- what a level is behind a term, and behind an expression
abbrev pub progress_of : Term → Progress
progress_of (lone f) = Lone (factor_value f)
progress_of (times t f) = Product (term_begun t (term_value t)) (factor_value f)
progress_of (over t f) = Whole (term_value (over t f))

abbrev pub last_term : Expression → Term
last_term (first t) = t
last_term (plus e t) = t
last_term (minus e t) = t

abbrev pub sum_before : Expression → Sum
sum_before (first t) = Nothing
sum_before (plus e t) = Before (expression_begun e (expression_value e)) sign.Plus
sum_before (minus e t) = Before (expression_begun e (expression_value e)) sign.Minus

abbrev pub level_of : ValueKind → Expression → Level
level_of kind e = level kind (sum_before e) (progress_of (last_term e))

-- it has the value of the tree
pub value_of_progress : (t : Term) → value_so_far (progress_of t) ≡ term_value t
value_of_progress (lone f) = refl
value_of_progress (times t f) = refl
value_of_progress (over t f) = refl

pub begun_of_progress : (t : Term) → value_begun (progress_of t) ≡ term_begun t (term_value t)
begun_of_progress (lone f) = refl
begun_of_progress (times t f) = refl
begun_of_progress (over t f) = refl

pub due_of : (t : Term) → is_due (progress_of t) ≡ true
due_of (lone f) = refl
due_of (times t f) = refl
due_of (over t f) = refl

pub none_wanted : (kind : ValueKind) (t : Term) → wanted_by kind (progress_of t) ≡ None
none_wanted kind (lone f) = refl
none_wanted kind (times t f) = refl
none_wanted kind (over t f) = refl

pub wanted_divided : (kind : ValueKind) (t : Term) → wanted_by kind (divided_progress (progress_of t)) ≡ Some Int
wanted_divided kind (lone f) = refl
wanted_divided kind (times t f) = refl
wanted_divided kind (over t f) = refl

pub divided_of : (t : Term) (f : Factor) → with_factor (divided_progress (progress_of t)) (factor_value f) ≡ Whole (term_value (over t f))
divided_of (lone g) f = refl
divided_of (times t g) f = refl
divided_of (over t g) f = refl

value_of_level : (kind : ValueKind) (e : Expression) → level_value (level_of kind e) ≡ expression_value e
value_of_level kind (first t) = value_of_progress t
value_of_level kind (plus e t) = ap (sum_of sign.Plus (expression_begun e (expression_value e))) (value_of_progress t)
value_of_level kind (minus e t) = ap (sum_of sign.Minus (expression_begun e (expression_value e))) (value_of_progress t)

begun_of_level : (kind : ValueKind) (e : Expression) → level_begun (level_of kind e) ≡ expression_begun e (expression_value e)
begun_of_level kind (first t) = begun_of_progress t
begun_of_level kind (plus e t) = ap (sum_of sign.Plus (expression_begun e (expression_value e))) (value_of_progress t)
begun_of_level kind (minus e t) = ap (sum_of sign.Minus (expression_begun e (expression_value e))) (value_of_progress t)

-- one part
step_operand : (s : ExprState) (kind : ValueKind) (v : Value) (ps : List Part) → wanted_of s ≡ Some kind → is_of kind v ≡ true →
    after (Some s) (part.Operand v ∷ ps) ≡ after (Some (at s.outer (behind_factor s.level (checked v)))) ps
unfolding fed_of
step_operand s kind v ps w is = rw (w, is) refl

step_open : (s : ExprState) (kind : ValueKind) (ps : List Part) → wanted_of s ≡ Some kind →
    after (Some s) (part.Open ∷ ps) ≡ after (Some (at (s.level ∷ s.outer) (fresh kind))) ps
unfolding fed_of
step_open s kind ps w = rw w refl

step_plus : (s : ExprState) (ps : List Part) → is_due s.level.progress ≡ true →
    after (Some s) (part.Plus ∷ ps) ≡ after (Some (at s.outer (behind_sign sign.Plus s.level))) ps
unfolding fed_of
step_plus s ps due = rw due refl

step_minus : (s : ExprState) (ps : List Part) → is_due s.level.progress ≡ true →
    after (Some s) (part.Minus ∷ ps) ≡ after (Some (at s.outer (behind_sign sign.Minus s.level))) ps
unfolding fed_of
step_minus s ps due = rw due refl

step_times : (s : ExprState) (ps : List Part) → is_due s.level.progress ≡ true →
    after (Some s) (part.Times ∷ ps) ≡ after (Some (at s.outer (behind_times s.level))) ps
unfolding fed_of
step_times s ps due = rw due refl

step_divide : (s : ExprState) (ps : List Part) → is_due s.level.progress ≡ true →
    after (Some s) (part.Divide ∷ ps) ≡ after (Some (at s.outer (behind_divide s.level))) ps
unfolding fed_of
step_divide s ps due = rw due refl

step_close : (l around : Level) (outer : List Level) (ps : List Part) → is_due l.progress ≡ true →
    after (Some (at (around ∷ outer) l)) (part.Close ∷ ps) ≡ after (Some (at outer (behind_factor around (level_value l)))) ps
unfolding fed_of
step_close l around outer ps due = rw due refl

mutual
  pub run_expression : (e : Expression) (kind : ValueKind) (outer : List Level) (rest : List Part) → IsExpression kind e →
      after (Some (at outer (fresh kind))) (expression_parts e ++ rest) ≡ after (Some (at outer (level_of kind e))) rest
  run_expression (first t) kind outer rest h = run_term t kind Nothing outer rest h
  run_expression (plus e t) kind outer rest h =
      ap (after (Some (at outer (fresh kind)))) (append_assoc (expression_parts e) (part.Plus ∷ term_parts t) rest)
      ∙ run_expression e kind outer (part.Plus ∷ (term_parts t ++ rest)) h.0
      ∙ step_plus (at outer (level_of kind e)) (term_parts t ++ rest) (due_of (last_term e))
      ∙ ap (λ (v : Option Value). after (Some (at outer (level kind (Before v sign.Plus) Begins))) (term_parts t ++ rest)) (begun_of_level kind e)
      ∙ run_term t kind (Before (expression_begun e (expression_value e)) sign.Plus) outer rest h.1
  run_expression (minus e t) kind outer rest h =
      ap (after (Some (at outer (fresh kind)))) (append_assoc (expression_parts e) (part.Minus ∷ term_parts t) rest)
      ∙ run_expression e kind outer (part.Minus ∷ (term_parts t ++ rest)) h.0
      ∙ step_minus (at outer (level_of kind e)) (term_parts t ++ rest) (due_of (last_term e))
      ∙ ap (λ (v : Option Value). after (Some (at outer (level kind (Before v sign.Minus) Begins))) (term_parts t ++ rest)) (begun_of_level kind e)
      ∙ run_term t kind (Before (expression_begun e (expression_value e)) sign.Minus) outer rest h.1

  run_term : (t : Term) (kind : ValueKind) (sum : Sum) (outer : List Level) (rest : List Part) → IsTerm kind t →
      after (Some (at outer (level kind sum Begins))) (term_parts t ++ rest) ≡ after (Some (at outer (level kind sum (progress_of t)))) rest
  run_term (lone f) kind sum outer rest h = run_factor f kind (level kind sum Begins) outer rest refl h
  run_term (times t f) kind sum outer rest h =
      ap (after (Some (at outer (level kind sum Begins)))) (append_assoc (term_parts t) (part.Times ∷ factor_parts f) rest)
      ∙ run_term t kind sum outer (part.Times ∷ (factor_parts f ++ rest)) h.0
      ∙ step_times (at outer (level kind sum (progress_of t))) (factor_parts f ++ rest) (due_of t)
      ∙ ap (λ (v : Option Value). after (Some (at outer (level kind sum (Times v)))) (factor_parts f ++ rest)) (begun_of_progress t)
      ∙ run_factor f Int (level kind sum (Times (term_begun t (term_value t)))) outer rest refl h.1
  run_term (over t f) kind sum outer rest h =
      ap (after (Some (at outer (level kind sum Begins)))) (append_assoc (term_parts t) (part.Divide ∷ factor_parts f) rest)
      ∙ run_term t kind sum outer (part.Divide ∷ (factor_parts f ++ rest)) h.0
      ∙ step_divide (at outer (level kind sum (progress_of t))) (factor_parts f ++ rest) (due_of t)
      ∙ run_factor f Int (level kind sum (divided_progress (progress_of t))) outer rest (wanted_divided kind t) h.1
      ∙ ap (λ (p : Progress). after (Some (at outer (level kind sum p))) rest) (divided_of t f)

  run_factor : (f : Factor) (kind : ValueKind) (l : Level) (outer : List Level) (rest : List Part) → wanted_by l.kind l.progress ≡ Some kind → IsFactor kind f →
      after (Some (at outer l)) (factor_parts f ++ rest) ≡ after (Some (at outer (behind_factor l (factor_value f)))) rest
  run_factor (operand v) kind l outer rest w h = step_operand (at outer l) kind v rest w h
  run_factor (parens e) kind l outer rest w h =
      step_open (at outer l) kind ((expression_parts e ++ part.Close ∷ []) ++ rest) w
      ∙ ap (after (Some (at (l ∷ outer) (fresh kind)))) (append_assoc (expression_parts e) (part.Close ∷ []) rest)
      ∙ run_expression e kind (l ∷ outer) (part.Close ∷ rest) h
      ∙ step_close (level_of kind e) l outer rest (due_of (last_term e))
      ∙ ap (λ (v : Option Value). after (Some (at outer (behind_factor l v))) rest) (value_of_level kind e)

-- all parts of a tree
pub tree_taken : (kind : ValueKind) (e : Expression) → IsExpression kind e → after (Some (started kind)) (expression_parts e) ≡ Some (at [] (level_of kind e))
unfolding started
tree_taken kind e h = ap (after (Some (started kind))) (sym (append-nil (expression_parts e))) ∙ run_expression e kind [] [] h

pub same_state : (s s' : ExprState) → Some s ≡ Some s' → s ≡ s'
same_state s s' e = cc

pub tree_state : (kind : ValueKind) (e : Expression) (s : ExprState) → IsExpression kind e → after (Some (started kind)) (expression_parts e) ≡ Some s → s ≡ at [] (level_of kind e)
tree_state kind e s h took = same_state s (at [] (level_of kind e)) (sym took ∙ tree_taken kind e h)

pub tree_value : (kind : ValueKind) (e : Expression) (s : ExprState) → IsExpression kind e → after (Some (started kind)) (expression_parts e) ≡ Some s → level_value s.level ≡ expression_value e
tree_value kind e s h took = ap (λ (x : ExprState). level_value x.level) (tree_state kind e s h took) ∙ value_of_level kind e
