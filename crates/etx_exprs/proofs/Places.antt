-- What is wanted, and how many parentheses are open.
use Rattle.std.proofs.Common.{◌≡◌, ◌↔◌, ◌+◌, ℕ, Bool, true, false, if◌then◌else◌, List, [], ◌∷◌, length, Option, Some, None, refl, sym, ap, subst, ◌∙◌, arith}
use Rattle.etx_exprs.specs.declared.value.Value.{Value}
use Rattle.etx_exprs.specs.declared.value.Value.TheVariants as value
use Rattle.etx_exprs.specs.declared.value.ValueKind.{ValueKind}
use Rattle.etx_exprs.specs.declared.value.ValueKind.TheVariants as kinds
use Rattle.etx_exprs.specs.declared.part.Part.{Part}
use Rattle.etx_exprs.specs.declared.part.Part.TheVariants as part
use Rattle.etx_exprs.specs.declared.part.Turn.TheVariants.{More}
use Rattle.etx_exprs.specs.declared.level.Level.{Level}
use Rattle.etx_exprs.specs.Values.{kind_of, is_of, checked}
use Rattle.etx_exprs.specs.Feeding.{ExprState, started, wanted_of, is_due, behind_factor, fed_of, after, on, refused, operand_fed, open_fed, operator_fed, close_fed, close_in}
use Rattle.etx_exprs.specs.Says.{Took, open_of, close_of, opens, closes}
use Rattle.etx_exprs.proofs.Steps.{goes}

-- the kind that an operand is of
own_kind : (v : Value) → is_of (kind_of v) v ≡ true
own_kind (value.Int n) = refl
own_kind (value.Dim d) = refl
own_kind (value.Glue g) = refl
own_kind (value.MuGlue g) = refl

pub kind_is : (k : ValueKind) (v : Value) → is_of k v ≡ true → k ≡ kind_of v
kind_is kinds.Int (value.Int n) h = refl
kind_is kinds.Int (value.Dim d) h = cc
kind_is kinds.Int (value.Glue g) h = cc
kind_is kinds.Int (value.MuGlue g) h = cc
kind_is kinds.Dim (value.Int n) h = cc
kind_is kinds.Dim (value.Dim d) h = refl
kind_is kinds.Dim (value.Glue g) h = cc
kind_is kinds.Dim (value.MuGlue g) h = cc
kind_is kinds.Glue (value.Int n) h = cc
kind_is kinds.Glue (value.Dim d) h = cc
kind_is kinds.Glue (value.Glue g) h = refl
kind_is kinds.Glue (value.MuGlue g) h = cc
kind_is kinds.MuGlue (value.Int n) h = cc
kind_is kinds.MuGlue (value.Dim d) h = cc
kind_is kinds.MuGlue (value.Glue g) h = cc
kind_is kinds.MuGlue (value.MuGlue g) h = refl

if_more : (b : Bool) (s : ExprState) (l : Level) → (if b then on s.outer l else refused s).turn ≡ More → b ≡ true
if_more true s l e = refl
if_more false s l e = cc

goes_on : (o : Option ValueKind) (s : ExprState) (v : Value) → (operand_fed o s v).turn ≡ More → o ≡ Some (kind_of v)
goes_on None s v e = cc
goes_on (Some k) s v e = ap (λ (x : ValueKind). Some x) (kind_is k v (if_more (is_of k v) s (behind_factor s.level (checked v)) e))

wanted_goes : (s : ExprState) (v : Value) → (operand_fed (Some (kind_of v)) s v).turn ≡ More
wanted_goes s v = rw (own_kind v) refl

pub fits : (o : Option ValueKind) (s : ExprState) (v : Value) → o ≡ wanted_of s → ((fed_of s (part.Operand v)).turn ≡ More) ↔ (o ≡ Some (kind_of v))
unfolding fed_of
fits o s v is =
    ((λ e. is ∙ goes_on (wanted_of s) s v e), (λ e. subst (λ (x : Option ValueKind). (operand_fed x s v).turn ≡ More) (sym e ∙ is) (wanted_goes s v)))

-- parentheses
if_depth : (b : Bool) (s : ExprState) (l : Level) → (if b then on s.outer l else refused s).turn ≡ More → length s.outer ≡ length (if b then on s.outer l else refused s).state.outer
if_depth true s l e = refl
if_depth false s l e = refl

operand_depth : (o : Option ValueKind) (s : ExprState) (v : Value) → (operand_fed o s v).turn ≡ More → length s.outer ≡ length (operand_fed o s v).state.outer
operand_depth None s v e = refl
operand_depth (Some k) s v e = if_depth (is_of k v) s (behind_factor s.level (checked v)) e

operator_depth : (b : Bool) (s : ExprState) (l : Level) → length s.outer ≡ length (operator_fed b s l).state.outer
operator_depth true s l = refl
operator_depth false s l = refl

open_depth : (o : Option ValueKind) (s : ExprState) → (open_fed o s).turn ≡ More → 1 + length s.outer ≡ length (open_fed o s).state.outer
open_depth None s e = cc
open_depth (Some k) s e = omega arith

close_in_depth : (outer : List Level) (s : ExprState) → (close_in outer s).turn ≡ More → length outer ≡ 1 + length (close_in outer s).state.outer
close_in_depth [] s e = cc
close_in_depth (l ∷ ls) s e = omega arith

close_depth : (b : Bool) (s : ExprState) → (close_fed b s).turn ≡ More → length s.outer ≡ 1 + length (close_fed b s).state.outer
close_depth false s e = cc
close_depth true s e = close_in_depth s.outer s e

step_depth : (p : Part) (s : ExprState) → (fed_of s p).turn ≡ More → open_of p + length s.outer ≡ close_of p + length (fed_of s p).state.outer
unfolding fed_of
step_depth (part.Operand v) s e = ap (λ (n : ℕ). 0 + n) (operand_depth (wanted_of s) s v e)
step_depth part.Plus s e = ap (λ (n : ℕ). 0 + n) (operator_depth (is_due s.level.progress) s _)
step_depth part.Minus s e = ap (λ (n : ℕ). 0 + n) (operator_depth (is_due s.level.progress) s _)
step_depth part.Times s e = ap (λ (n : ℕ). 0 + n) (operator_depth (is_due s.level.progress) s _)
step_depth part.Divide s e = ap (λ (n : ℕ). 0 + n) (operator_depth (is_due s.level.progress) s _)
step_depth part.Open s e = let h = open_depth (wanted_of s) s e in omega (arith, h)
step_depth part.Close s e = let h = close_depth (is_due s.level.progress) s e in omega (arith, h)
step_depth part.Relax s e = refl
step_depth part.Other s e = refl

joined_depth : (o c os cs n m k : ℕ) → o + n ≡ c + m → os + m ≡ cs + k → o + os + n ≡ c + cs + k
joined_depth o c os cs n m k e f = omega (arith, e, f)

depth_after : (ps : List Part) (s s' : ExprState) → after (Some s) ps ≡ Some s' → opens ps + length s.outer ≡ closes ps + length s'.outer
depth_after [] s s' e = let same : s ≡ s' = cc in ap (λ (x : ExprState). 0 + length x.outer) same
depth_after (p ∷ ps) s s' e =
    goes (fed_of s p).turn (fed_of s p).state ps s' e
    (λ more rest. joined_depth (open_of p) (close_of p) (opens ps) (closes ps) (length s.outer) (length (fed_of s p).state.outer) (length s'.outer) (step_depth p s more)
    (depth_after ps (fed_of s p).state s' rest))

none_open : (o c n : ℕ) → o + 0 ≡ c + n → n + c ≡ o
none_open o c n e = omega (arith, e)

pub depth_of : (n : ℕ) (s : ExprState) → n ≡ length s.outer → (kind : ValueKind) (parts : List Part) → Took kind parts s → n + closes parts ≡ opens parts
unfolding started
depth_of n s is kind parts took = ap (λ (m : ℕ). m + closes parts) is ∙ none_open (opens parts) (closes parts) (length s.outer) (depth_after parts (started kind) s took)
