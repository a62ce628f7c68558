-- Each part that goes on leads to the beginning of a tree, and each beginning can be made a tree.
use Rattle.std.proofs.Common.{◌≡◌, Bool, true, false, if◌then◌else◌, List, [], ◌∷◌, ◌++◌, Option, Some, None, pos, refl, sym, ap, subst, ◌∙◌, append_assoc, append-nil}
use Rattle.etx_matter.specs.declared.glue.GlueOrder.TheVariants.{Normal}
use Rattle.etx_exprs.specs.declared.value.Value.{Value}
use Rattle.etx_exprs.specs.declared.value.Value.TheVariants as value
use Rattle.etx_exprs.specs.declared.value.ValueKind.{ValueKind}
use Rattle.etx_exprs.specs.declared.value.ValueKind.TheVariants as kinds
use Rattle.etx_exprs.specs.declared.part.Part.{Part}
use Rattle.etx_exprs.specs.declared.part.Part.TheVariants as part
use Rattle.etx_exprs.specs.declared.part.Turn.{Turn}
use Rattle.etx_exprs.specs.declared.part.Turn.TheVariants.{More, Done, DoneBack}
use Rattle.etx_exprs.specs.declared.sum.Sign.{Sign}
use Rattle.etx_exprs.specs.declared.sum.Sign.TheVariants as sign
use Rattle.etx_exprs.specs.declared.level.Progress.{Progress}
use Rattle.etx_exprs.specs.declared.level.Sum.TheVariants.{Before}
use Rattle.etx_exprs.specs.declared.level.Progress.TheVariants.{Begins, Times}
use Rattle.etx_exprs.specs.declared.level.Level.{Level}
use Rattle.etx_exprs.specs.Values.{is_of, checked}
use Rattle.etx_exprs.specs.Trees.{Expression, Term, lone, times, over, Factor, operand, parens, expression_parts, factor_parts, IsExpression, IsFactor, expression_value, factor_value}
use Rattle.etx_exprs.specs.Feeding.{ExprState, started, wanted_by, is_due, with_factor, level_value, level_begun, value_begun, behind_sign, behind_times, divided_progress, behind_divide, behind_factor, fed_of, gone_on, after, is_whole, on, refused, operand_fed, open_fed, operator_fed, close_fed, ended_in}
use Rattle.etx_exprs.specs.Says.{IsTree, BeginsTree}
use Rattle.etx_exprs.proofs.Completeness.{at, level, progress_of, begun_of_progress, wanted_divided}
use Rattle.etx_exprs.proofs.Spelling.{SumTree, nothing, before, ProgressTree, begins, due, multiplied, divided, LevelTree, sign_part, sum_parts, progress_parts, level_parts, outer_parts, sum_in, progress_in, level_in, levels_in, IsSum, IsProgress, Nests, Spelled, joined, joined_parts, joined_is, joined_value, joined_begun, filled, filled_parts, filled_is, filled_value}

-- lists
push_right : {A : Type 0} (o s p c : List A) → (o ++ (s ++ p)) ++ c ≡ o ++ (s ++ (p ++ c))
push_right o s p c = simp append_assoc

push_sum : {A : Type 0} (o x c : List A) → (o ++ x) ++ c ≡ o ++ ((x ++ c) ++ [])
push_sum {A = A} o x c = append_assoc o x c ∙ ap (λ (l : List A). o ++ l) (sym (append-nil (x ++ c)))

push_open : {A : Type 0} (o l c : List A) → (o ++ l) ++ c ≡ (o ++ (l ++ c)) ++ ([] ++ [])
push_open {A = A} o l c = append_assoc o l c ∙ sym (append-nil (o ++ (l ++ c)))

push_close : {A : Type 0} (o l e c : List A) (x : A) → ((o ++ (l ++ x ∷ [])) ++ e) ++ c ≡ (o ++ l) ++ (x ∷ (e ++ c))
push_close o l e c x = simp append_assoc

-- a factor
factor_spelled : (top k : ValueKind) (outer : List LevelTree) (l : LevelTree) (f : Factor) (v : Option Value) → IsSum l.kind l.sum → IsProgress l.kind l.progress →
    wanted_by l.kind (progress_in l.progress) ≡ Some k → IsFactor k f → Nests top outer l.kind → v ≡ factor_value f →
    Spelled top ((outer_parts outer ++ level_parts l) ++ factor_parts f) (at (levels_in outer) (behind_factor (level_in l) v))
factor_spelled top k outer l f v sum progress w is nests same =
    record {
      outer = outer;
      inner = record { kind = l.kind; sum = l.sum; progress = due (filled l.progress f) };
      state_is =
          ap (λ (p : Progress). at (levels_in outer) (level l.kind (sum_in l.sum) p))
          (ap (with_factor (progress_in l.progress)) same ∙ filled_value l.kind k l.progress f w);
      parts_are =
          push_right (outer_parts outer) (sum_parts l.sum) (progress_parts l.progress) (factor_parts f)
          ∙ ap (λ (ps : List Part). outer_parts outer ++ (sum_parts l.sum ++ ps)) (sym (filled_parts l.kind k l.progress f w));
      sum_is = sum;
      progress_is = filled_is l.kind k l.progress f w progress is;
      nests = nests;
    }

operand_if : (b : Bool) (top k : ValueKind) (outer : List LevelTree) (l : LevelTree) (v : Value) → is_of k v ≡ b → IsSum l.kind l.sum → IsProgress l.kind l.progress →
    wanted_by l.kind (progress_in l.progress) ≡ Some k → Nests top outer l.kind → (s : ExprState) →
    (if b then on (levels_in outer) (behind_factor (level_in l) (checked v)) else refused s).turn ≡ More →
    Spelled top ((outer_parts outer ++ level_parts l) ++ part.Operand v ∷ []) (if b then on (levels_in outer) (behind_factor (level_in l) (checked v)) else refused s).state
operand_if true top k outer l v is sum progress w nests s more = factor_spelled top k outer l (operand v) (checked v) sum progress w is nests refl
operand_if false top k outer l v is sum progress w nests s more = cc

operand_spelled : (o : Option ValueKind) (top : ValueKind) (outer : List LevelTree) (l : LevelTree) (v : Value) → IsSum l.kind l.sum → IsProgress l.kind l.progress →
    wanted_by l.kind (progress_in l.progress) ≡ o → Nests top outer l.kind → (operand_fed o (at (levels_in outer) (level_in l)) v).turn ≡ More →
    Spelled top ((outer_parts outer ++ level_parts l) ++ part.Operand v ∷ []) (operand_fed o (at (levels_in outer) (level_in l)) v).state
operand_spelled None top outer l v sum progress w nests more = cc
operand_spelled (Some k) top outer l v sum progress w nests more =
    operand_if (is_of k v) top k outer l v refl sum progress w nests (at (levels_in outer) (level_in l)) more

open_spelled : (o : Option ValueKind) (top : ValueKind) (outer : List LevelTree) (l : LevelTree) → IsSum l.kind l.sum → IsProgress l.kind l.progress →
    wanted_by l.kind (progress_in l.progress) ≡ o → Nests top outer l.kind → (open_fed o (at (levels_in outer) (level_in l))).turn ≡ More →
    Spelled top ((outer_parts outer ++ level_parts l) ++ part.Open ∷ []) (open_fed o (at (levels_in outer) (level_in l))).state
open_spelled None top outer l sum progress w nests more = cc
open_spelled (Some k) top outer l sum progress w nests more =
    record {
      outer = l ∷ outer;
      inner = record { kind = k; sum = nothing; progress = begins };
      state_is = refl;
      parts_are = push_open (outer_parts outer) (level_parts l) (part.Open ∷ []);
      sum_is = tt;
      progress_is = tt;
      nests = (sum, progress, w, nests);
    }

-- an operator stands behind a term
pub record IsDue (p : ProgressTree) : Type 0 where
  pub term : Term
  pub is : p ≡ due term

not_due : (t : Term) → is_due (divided_progress (progress_of t)) ≡ false
not_due (lone f) = refl
not_due (times t f) = refl
not_due (over t f) = refl

due_term : (p : ProgressTree) → is_due (progress_in p) ≡ true → IsDue p
due_term begins h = cc
due_term (due t) h = record { term = t; is = refl }
due_term (multiplied t) h = cc
due_term (divided t) h = let no : is_due (divided_progress (progress_of t)) ≡ false = not_due t in cc

operator_more : (b : Bool) (s : ExprState) (l : Level) → (operator_fed b s l).turn ≡ More → b ≡ true
operator_more true s l more = refl
operator_more false s l more = cc

sign_spelled : (sg : Sign) (top : ValueKind) (outer : List LevelTree) (l : LevelTree) (t : Term) → l.progress ≡ due t → IsSum l.kind l.sum → IsProgress l.kind l.progress → Nests top outer l.kind →
    Spelled top ((outer_parts outer ++ level_parts l) ++ sign_part sg ∷ []) (at (levels_in outer) (behind_sign sg (level_in l)))
sign_spelled sg top outer l t e sum progress nests =
    record {
      outer = outer;
      inner = record { kind = l.kind; sum = before (joined l.sum t) sg; progress = begins };
      state_is =
          ap (λ (v : Option Value). at (levels_in outer) (level l.kind (Before v sg) Begins))
          (ap (λ (p : ProgressTree). level_begun (level l.kind (sum_in l.sum) (progress_in p))) e ∙ joined_begun l.kind l.sum t);
      parts_are =
          ap (λ (x : List Part). (outer_parts outer ++ x) ++ sign_part sg ∷ []) (ap (λ (p : ProgressTree). sum_parts l.sum ++ progress_parts p) e ∙ sym (joined_parts l.sum t))
          ∙ push_sum (outer_parts outer) (expression_parts (joined l.sum t)) (sign_part sg ∷ []);
      sum_is = joined_is l.kind l.sum t sum (subst (IsProgress l.kind) e progress);
      progress_is = tt;
      nests = nests;
    }

times_spelled : (top : ValueKind) (outer : List LevelTree) (l : LevelTree) (t : Term) → l.progress ≡ due t → IsSum l.kind l.sum → IsProgress l.kind l.progress → Nests top outer l.kind →
    Spelled top ((outer_parts outer ++ level_parts l) ++ part.Times ∷ []) (at (levels_in outer) (behind_times (level_in l)))
times_spelled top outer l t e sum progress nests =
    record {
      outer = outer;
      inner = record { kind = l.kind; sum = l.sum; progress = multiplied t };
      state_is =
          ap (λ (v : Option Value). at (levels_in outer) (level l.kind (sum_in l.sum) (Times v)))
          (ap (λ (p : ProgressTree). value_begun (progress_in p)) e ∙ begun_of_progress t);
      parts_are =
          push_right (outer_parts outer) (sum_parts l.sum) (progress_parts l.progress) (part.Times ∷ [])
          ∙ ap (λ (p : ProgressTree). outer_parts outer ++ (sum_parts l.sum ++ (progress_parts p ++ part.Times ∷ []))) e;
      sum_is = sum;
      progress_is = subst (IsProgress l.kind) e progress;
      nests = nests;
    }

divide_spelled : (top : ValueKind) (outer : List LevelTree) (l : LevelTree) (t : Term) → l.progress ≡ due t → IsSum l.kind l.sum → IsProgress l.kind l.progress → Nests top outer l.kind →
    Spelled top ((outer_parts outer ++ level_parts l) ++ part.Divide ∷ []) (at (levels_in outer) (behind_divide (level_in l)))
divide_spelled top outer l t e sum progress nests =
    record {
      outer = outer;
      inner = record { kind = l.kind; sum = l.sum; progress = divided t };
      state_is = ap (λ (p : ProgressTree). at (levels_in outer) (level l.kind (sum_in l.sum) (divided_progress (progress_in p)))) e;
      parts_are =
          push_right (outer_parts outer) (sum_parts l.sum) (progress_parts l.progress) (part.Divide ∷ [])
          ∙ ap (λ (p : ProgressTree). outer_parts outer ++ (sum_parts l.sum ++ (progress_parts p ++ part.Divide ∷ []))) e;
      sum_is = sum;
      progress_is = subst (IsProgress l.kind) e progress;
      nests = nests;
    }

operator_spelled : (b : Bool) (top : ValueKind) (parts : List Part) (outer : List Level) (s : ExprState) (l : Level) → b ≡ true → s.outer ≡ outer →
    Spelled top parts (at outer l) → Spelled top parts (operator_fed b s l).state
operator_spelled b top parts outer s l is same h =
    subst (λ (x : Bool). Spelled top parts (operator_fed x s l).state) (sym is) (subst (λ (ls : List Level). Spelled top parts (at ls l)) (sym same) h)

-- a parenthesis is closed
close_around : (top : ValueKind) (around : LevelTree) (outer : List LevelTree) (l : LevelTree) (t : Term) → l.progress ≡ due t → IsSum l.kind l.sum → IsProgress l.kind l.progress →
    Nests top (around ∷ outer) l.kind →
    Spelled top ((outer_parts (around ∷ outer) ++ level_parts l) ++ part.Close ∷ []) (at (levels_in outer) (behind_factor (level_in around) (level_value (level_in l))))
close_around top around outer l t e sum progress nests =
    let ex = joined l.sum t in
    let inside : level_parts l ≡ expression_parts ex = ap (λ (p : ProgressTree). sum_parts l.sum ++ progress_parts p) e ∙ sym (joined_parts l.sum t) in
    let same : level_value (level_in l) ≡ expression_value ex = ap (λ (p : ProgressTree). level_value (level l.kind (sum_in l.sum) (progress_in p))) e ∙ joined_value l.kind l.sum t in
    let written : (outer_parts (around ∷ outer) ++ level_parts l) ++ part.Close ∷ [] ≡ (outer_parts outer ++ level_parts around) ++ factor_parts (parens ex) =
    ap (λ (x : List Part). (outer_parts (around ∷ outer) ++ x) ++ part.Close ∷ []) inside
    ∙ push_close (outer_parts outer) (level_parts around) (expression_parts ex) (part.Close ∷ []) part.Open in
    subst (λ (ps : List Part). Spelled top ps (at (levels_in outer) (behind_factor (level_in around) (level_value (level_in l))))) (sym written)
    (factor_spelled top l.kind outer around (parens ex) (level_value (level_in l)) nests.0 nests.1 nests.2 (joined_is l.kind l.sum t sum (subst (IsProgress l.kind) e progress)) nests.3 same)

close_spelled : (b : Bool) (top : ValueKind) (outer : List LevelTree) (l : LevelTree) → is_due (progress_in l.progress) ≡ b → IsSum l.kind l.sum → IsProgress l.kind l.progress → Nests top outer l.kind →
    (close_fed b (at (levels_in outer) (level_in l))).turn ≡ More →
    Spelled top ((outer_parts outer ++ level_parts l) ++ part.Close ∷ []) (close_fed b (at (levels_in outer) (level_in l))).state
close_spelled false top outer l is sum progress nests more = cc
close_spelled true top [] l is sum progress nests more = cc
close_spelled true top (around ∷ outer) l is sum progress nests more =
    let d = due_term l.progress is in close_around top around outer l d.term d.is sum progress nests

pub never_more : {A : Type 0} (ls : List Level) (b : Bool) → ended_in ls b ≡ More → A
never_more [] true e = cc
never_more [] false e = cc
never_more (l ∷ ls) b e = cc

-- any part
part_spelled : (p : Part) (top : ValueKind) (outer : List LevelTree) (l : LevelTree) → IsSum l.kind l.sum → IsProgress l.kind l.progress → Nests top outer l.kind →
    (fed_of (at (levels_in outer) (level_in l)) p).turn ≡ More →
    Spelled top ((outer_parts outer ++ level_parts l) ++ p ∷ []) (fed_of (at (levels_in outer) (level_in l)) p).state
unfolding fed_of
part_spelled (part.Operand v) top outer l sum progress nests more = operand_spelled (wanted_by l.kind (progress_in l.progress)) top outer l v sum progress refl nests more
part_spelled part.Plus top outer l sum progress nests more =
    let is = operator_more _ (at (levels_in outer) (level_in l)) (behind_sign sign.Plus (level_in l)) more in
    let d = due_term l.progress is in
    operator_spelled _ top _ (levels_in outer) (at (levels_in outer) (level_in l)) (behind_sign sign.Plus (level_in l)) is refl (sign_spelled sign.Plus top outer l d.term d.is sum progress nests)
part_spelled part.Minus top outer l sum progress nests more =
    let is = operator_more _ (at (levels_in outer) (level_in l)) (behind_sign sign.Minus (level_in l)) more in
    let d = due_term l.progress is in
    operator_spelled _ top _ (levels_in outer) (at (levels_in outer) (level_in l)) (behind_sign sign.Minus (level_in l)) is refl (sign_spelled sign.Minus top outer l d.term d.is sum progress nests)
part_spelled part.Times top outer l sum progress nests more =
    let is = operator_more _ (at (levels_in outer) (level_in l)) (behind_times (level_in l)) more in
    let d = due_term l.progress is in
    operator_spelled _ top _ (levels_in outer) (at (levels_in outer) (level_in l)) (behind_times (level_in l)) is refl (times_spelled top outer l d.term d.is sum progress nests)
part_spelled part.Divide top outer l sum progress nests more =
    let is = operator_more _ (at (levels_in outer) (level_in l)) (behind_divide (level_in l)) more in
    let d = due_term l.progress is in
    operator_spelled _ top _ (levels_in outer) (at (levels_in outer) (level_in l)) (behind_divide (level_in l)) is refl (divide_spelled top outer l d.term d.is sum progress nests)
part_spelled part.Open top outer l sum progress nests more = open_spelled (wanted_by l.kind (progress_in l.progress)) top outer l sum progress refl nests more
part_spelled part.Close top outer l sum progress nests more = close_spelled (is_due (progress_in l.progress)) top outer l refl sum progress nests more
part_spelled part.Relax top outer l sum progress nests more = never_more (levels_in outer) (is_due (progress_in l.progress)) more
part_spelled part.Other top outer l sum progress nests more = cc

spelled_on : (top : ValueKind) (parts : List Part) (s : ExprState) (p : Part) → Spelled top parts s → (fed_of s p).turn ≡ More → Spelled top (parts ++ p ∷ []) (fed_of s p).state
spelled_on top parts s p h more =
    let here : ExprState = at (levels_in h.outer) (level_in h.inner) in
    let more' : (fed_of here p).turn ≡ More = subst (λ (x : ExprState). (fed_of x p).turn ≡ More) h.state_is more in
    subst (λ (x : ExprState). Spelled top (parts ++ p ∷ []) (fed_of x p).state) (sym h.state_is)
    (subst (λ (ps : List Part). Spelled top (ps ++ p ∷ []) (fed_of here p).state) (sym h.parts_are) (part_spelled p top h.outer h.inner h.sum_is h.progress_is h.nests more'))

pub after_none : (ps : List Part) → after None ps ≡ None
after_none [] = refl
after_none (p ∷ ps) = after_none ps

pub goes : {P : Type 0} (t : Turn) (s' : ExprState) (ps : List Part) (s : ExprState) → after (gone_on t s') ps ≡ Some s → (t ≡ More → after (Some s') ps ≡ Some s → P) → P
goes More s' ps s e h = h refl e
goes Done s' ps s e h = let none : after None ps ≡ None = after_none ps in cc
goes DoneBack s' ps s e h = let none : after None ps ≡ None = after_none ps in cc

spelled_after : (top : ValueKind) (ps parts : List Part) (s s' : ExprState) → Spelled top parts s → after (Some s) ps ≡ Some s' → Spelled top (parts ++ ps) s'
spelled_after top [] parts s s' h e =
    let same : s ≡ s' = cc in
    subst (λ (xs : List Part). Spelled top xs s') (sym (append-nil parts)) (subst (Spelled top parts) same h)
spelled_after top (p ∷ ps) parts s s' h e =
    goes (fed_of s p).turn (fed_of s p).state ps s' e
    (λ more rest. subst (λ (xs : List Part). Spelled top xs s') (append_assoc parts (p ∷ []) ps)
    (spelled_after top ps (parts ++ p ∷ []) (fed_of s p).state s' (spelled_on top parts s p h more) rest))

pub spelled : (top : ValueKind) (parts : List Part) (s : ExprState) → after (Some (started top)) parts ≡ Some s → Spelled top parts s
unfolding started
spelled top parts s took =
    let begun : Spelled top [] (started top) =
    record { outer = []; inner = record { kind = top; sum = nothing; progress = begins }; state_is = refl; parts_are = refl; sum_is = tt; progress_is = tt; nests = refl } in
    spelled_after top parts [] (started top) s begun took

-- a beginning can be made a tree
zero_of : ValueKind → Value
zero_of kinds.Int = value.Int (pos 0)
zero_of kinds.Dim = value.Dim (pos 0)
zero_of kinds.Glue = value.Glue (record { width = pos 0; stretch = pos 0; shrink = pos 0; stretch_order = Normal; shrink_order = Normal })
zero_of kinds.MuGlue = value.MuGlue (record { width = pos 0; stretch = pos 0; shrink = pos 0; stretch_order = Normal; shrink_order = Normal })

zero_is : (k : ValueKind) → is_of k (zero_of k) ≡ true
unfolding zero_of
zero_is kinds.Int = refl
zero_is kinds.Dim = refl
zero_is kinds.Glue = refl
zero_is kinds.MuGlue = refl

close_list : {A : Type 0} (o s p e r : List A) (x y : A) → ((o ++ ((s ++ p) ++ x ∷ [])) ++ e) ++ y ∷ r ≡ (o ++ (s ++ (p ++ (x ∷ (e ++ y ∷ []))))) ++ r
close_list o s p e r x y = simp append_assoc

fill_list : {A : Type 0} (o s p r : List A) (x : A) → (o ++ (s ++ p)) ++ x ∷ r ≡ (o ++ (s ++ (p ++ x ∷ []))) ++ r
fill_list o s p r x = simp append_assoc

filled_list : (k : ValueKind) (l : LevelTree) (f : Factor) → wanted_by l.kind (progress_in l.progress) ≡ Some k →
    sum_parts l.sum ++ (progress_parts l.progress ++ factor_parts f) ≡ expression_parts (joined l.sum (filled l.progress f))
filled_list k l f w =
    ap (λ (ps : List Part). sum_parts l.sum ++ ps) (sym (filled_parts l.kind k l.progress f w)) ∙ sym (joined_parts l.sum (filled l.progress f))

finish : (outer : List LevelTree) (top k : ValueKind) (e : Expression) → IsExpression k e → Nests top outer k → BeginsTree top (outer_parts outer ++ expression_parts e)
finish [] top k e is nests = record { tree = e; rest = []; kind_is = subst (λ (x : ValueKind). IsExpression x e) nests is; parts_are = append-nil (expression_parts e) }
finish (l ∷ ls) top k e is nests =
    let t = filled l.progress (parens e) in
    let more : BeginsTree top (outer_parts ls ++ expression_parts (joined l.sum t)) =
    finish ls top l.kind (joined l.sum t) (joined_is l.kind l.sum t nests.0 (filled_is l.kind k l.progress (parens e) nests.2 nests.1 is)) nests.3 in
    record {
      tree = more.tree;
      rest = part.Close ∷ more.rest;
      kind_is = more.kind_is;
      parts_are =
          close_list (outer_parts ls) (sum_parts l.sum) (progress_parts l.progress) (expression_parts e) more.rest part.Open part.Close
          ∙ ap (λ (ps : List Part). (outer_parts ls ++ ps) ++ more.rest) (filled_list k l (parens e) nests.2)
          ∙ more.parts_are;
    }

fill : (top k : ValueKind) (outer : List LevelTree) (l : LevelTree) → IsSum l.kind l.sum → IsProgress l.kind l.progress → Nests top outer l.kind →
    wanted_by l.kind (progress_in l.progress) ≡ Some k → BeginsTree top (outer_parts outer ++ level_parts l)
fill top k outer l sum progress nests w =
    let f = operand (zero_of k) in
    let t = filled l.progress f in
    let more : BeginsTree top (outer_parts outer ++ expression_parts (joined l.sum t)) =
    finish outer top l.kind (joined l.sum t) (joined_is l.kind l.sum t sum (filled_is l.kind k l.progress f w progress (zero_is k))) nests in
    record {
      tree = more.tree;
      rest = part.Operand (zero_of k) ∷ more.rest;
      kind_is = more.kind_is;
      parts_are =
          fill_list (outer_parts outer) (sum_parts l.sum) (progress_parts l.progress) more.rest (part.Operand (zero_of k))
          ∙ ap (λ (ps : List Part). (outer_parts outer ++ ps) ++ more.rest) (filled_list k l f w)
          ∙ more.parts_are;
    }

begins_by : (p : ProgressTree) (top kind : ValueKind) (outer : List LevelTree) (s : SumTree) → IsSum kind s → IsProgress kind p → Nests top outer kind →
    BeginsTree top (outer_parts outer ++ (sum_parts s ++ progress_parts p))
begins_by begins top kind outer s sum progress nests = fill top kind outer (record { kind = kind; sum = s; progress = begins }) sum progress nests refl
begins_by (due t) top kind outer s sum progress nests =
    subst (λ (ps : List Part). BeginsTree top (outer_parts outer ++ ps)) (joined_parts s t) (finish outer top kind (joined s t) (joined_is kind s t sum progress) nests)
begins_by (multiplied t) top kind outer s sum progress nests = fill top kinds.Int outer (record { kind = kind; sum = s; progress = multiplied t }) sum progress nests refl
begins_by (divided t) top kind outer s sum progress nests =
    fill top kinds.Int outer (record { kind = kind; sum = s; progress = divided t }) sum progress nests (wanted_divided kind t)

pub begins_tree : (top : ValueKind) (parts : List Part) (s : ExprState) → after (Some (started top)) parts ≡ Some s → BeginsTree top parts
begins_tree top parts s took =
    let h = spelled top parts s took in
    subst (BeginsTree top) (sym h.parts_are) (begins_by h.inner.progress top h.inner.kind h.outer h.inner.sum h.sum_is h.progress_is h.nests)

-- where an operator is due and no parenthesis is open, the parts are a tree
whole_tree : (outer : List LevelTree) (top : ValueKind) (l : LevelTree) → IsSum l.kind l.sum → IsProgress l.kind l.progress → Nests top outer l.kind →
    is_whole (at (levels_in outer) (level_in l)) ≡ true → IsTree top (outer_parts outer ++ level_parts l)
unfolding is_whole
whole_tree [] top l sum progress nests whole =
    let d = due_term l.progress whole in
    record {
      tree = joined l.sum d.term;
      kind_is = subst (λ (k : ValueKind). IsExpression k (joined l.sum d.term)) nests (joined_is l.kind l.sum d.term sum (subst (IsProgress l.kind) d.is progress));
      parts_are = ap (λ (p : ProgressTree). sum_parts l.sum ++ progress_parts p) d.is ∙ sym (joined_parts l.sum d.term);
    }
whole_tree (around ∷ outer) top l sum progress nests whole = cc

pub is_tree : (top : ValueKind) (parts : List Part) (s : ExprState) → after (Some (started top)) parts ≡ Some s → is_whole s ≡ true → IsTree top parts
is_tree top parts s took whole =
    let h = spelled top parts s took in
    subst (IsTree top) (sym h.parts_are)
    (whole_tree h.outer top h.inner h.sum_is h.progress_is h.nests (subst (λ (x : ExprState). is_whole x ≡ true) h.state_is whole))
