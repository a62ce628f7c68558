-- What is said of a part is what is true of the trees.
use Rattle.std.proofs.Common.{◌≡◌, ◌↔◌, Bool, true, false, if◌then◌else◌, List, [], ◌∷◌, ◌++◌, Option, Some, None, Result, Ok, Err, IfOk, OnOk, MatchResult, is_some, refl, sym, ap, subst, ◌∙◌}
use Rattle.etx_exprs.specs.declared.value.Value.{Value}
use Rattle.etx_exprs.specs.declared.value.ValueKind.{ValueKind}
use Rattle.etx_exprs.specs.declared.part.Part.{Part}
use Rattle.etx_exprs.specs.declared.part.Part.TheVariants as part
use Rattle.etx_exprs.specs.declared.part.Turn.{Turn}
use Rattle.etx_exprs.specs.declared.part.Turn.TheVariants.{More, Done, DoneBack}
use Rattle.etx_exprs.specs.declared.level.Level.{Level}
use Rattle.etx_exprs.specs.Values.{is_of, checked}
use Rattle.etx_exprs.specs.Trees.{Expression, expression_parts, IsExpression, expression_value}
use Rattle.etx_exprs.specs.Feeding.{ExprState, started, wanted_of, is_due, level_value, behind_factor, fed_of, gone_on, next, after, is_whole, operand_fed, open_fed, operator_fed, close_fed, close_in, ended_in, on, refused}
use Rattle.etx_exprs.specs.Says.{IsTree, BeginsTree, EndsTree, Says, Took, Comes}
use Rattle.etx_exprs.proofs.Completeness.{at, level_of, last_term, due_of, tree_taken, tree_state, tree_value}
use Rattle.etx_exprs.proofs.Steps.{after_none, begins_tree, is_tree}

after-append : (ps qs : List Part) (s : Option ExprState) → after s (ps ++ qs) ≡ after (after s ps) qs
after-append [] qs s = refl
after-append (p ∷ ps) qs s = after-append ps qs (next s p)

-- the part behind others
took_next : (kind : ValueKind) (parts : List Part) (s : ExprState) (p : Part) → Took kind parts s → after (Some (started kind)) (parts ++ p ∷ []) ≡ gone_on (fed_of s p).turn (fed_of s p).state
took_next kind parts s p took = after-append parts (p ∷ []) (Some (started kind)) ∙ ap (λ (x : Option ExprState). after x (p ∷ [])) took

pub took_more : (kind : ValueKind) (parts : List Part) (s : ExprState) (p : Part) → Took kind parts s → (fed_of s p).turn ≡ More → Took kind (parts ++ p ∷ []) (fed_of s p).state
took_more kind parts s p took more = took_next kind parts s p took ∙ ap (λ (t : Turn). gone_on t (fed_of s p).state) more

-- a tree that begins so shows that the part goes on
only_more : (t : Turn) (s' s'' : ExprState) (rest : List Part) → after (gone_on t s') rest ≡ Some s'' → t ≡ More
only_more More s' s'' rest e = refl
only_more Done s' s'' rest e = let none : after None rest ≡ None = after_none rest in cc
only_more DoneBack s' s'' rest e = let none : after None rest ≡ None = after_none rest in cc

begins_more : (kind : ValueKind) (parts : List Part) (s : ExprState) (p : Part) → Took kind parts s → BeginsTree kind (parts ++ p ∷ []) → (fed_of s p).turn ≡ More
begins_more kind parts s p took h =
    only_more (fed_of s p).turn (fed_of s p).state (at [] (level_of kind h.tree)) h.rest
    (ap (λ (x : Option ExprState). after x h.rest) (sym (took_next kind parts s p took))
    ∙ sym (after-append (parts ++ p ∷ []) h.rest (Some (started kind)))
    ∙ ap (after (Some (started kind))) h.parts_are
    ∙ tree_taken kind h.tree h.kind_is)

-- a whole tree
whole_level : (kind : ValueKind) (e : Expression) → is_whole (at [] (level_of kind e)) ≡ true
unfolding is_whole
whole_level kind e = due_of (last_term e)

pub tree_whole : (kind : ValueKind) (parts : List Part) (s : ExprState) → Took kind parts s → IsTree kind parts → is_whole s ≡ true
tree_whole kind parts s took h =
    let took' : after (Some (started kind)) (expression_parts h.tree) ≡ Some s = ap (after (Some (started kind))) (sym h.parts_are) ∙ took in
    ap is_whole (tree_state kind h.tree s h.kind_is took') ∙ whole_level kind h.tree

relax_turn : (outer : List Level) (l : Level) → is_whole (at outer l) ≡ true → (fed_of (at outer l) part.Relax).turn ≡ Done
unfolding fed_of is_whole
relax_turn [] l whole = rw whole refl
relax_turn (o ∷ outer) l whole = cc

ends_done : (kind : ValueKind) (parts : List Part) (s : ExprState) (p : Part) → Took kind parts s → EndsTree kind parts p → (fed_of s p).turn ≡ Done
ends_done kind parts s p took h = subst (λ (x : Part). (fed_of s x).turn ≡ Done) (sym h.0) (relax_turn s.outer s.level (tree_whole kind parts s took h.1))

-- only a `\relax` behind a whole tree ends one
record Ended (s : ExprState) (p : Part) : Type 0 where
  pub relax : p ≡ part.Relax
  pub whole : is_whole s ≡ true

if_not : (b : Bool) (s : ExprState) (l : Level) → (if b then on s.outer l else refused s).turn ≡ Done → ⊥
if_not true s l e = cc
if_not false s l e = cc

operand_not : (o : Option ValueKind) (s : ExprState) (v : Value) → (operand_fed o s v).turn ≡ Done → ⊥
operand_not None s v e = cc
operand_not (Some k) s v e = if_not (is_of k v) s (behind_factor s.level (checked v)) e

open_not : (o : Option ValueKind) (s : ExprState) → (open_fed o s).turn ≡ Done → ⊥
open_not None s e = cc
open_not (Some k) s e = cc

operator_not : (b : Bool) (s : ExprState) (l : Level) → (operator_fed b s l).turn ≡ Done → ⊥
operator_not true s l e = cc
operator_not false s l e = cc

close_in_not : (outer : List Level) (s : ExprState) → (close_in outer s).turn ≡ Done → ⊥
close_in_not [] s e = cc
close_in_not (l ∷ ls) s e = cc

close_not : (b : Bool) (s : ExprState) → (close_fed b s).turn ≡ Done → ⊥
close_not true s e = close_in_not s.outer s e
close_not false s e = cc

relax_whole : (outer : List Level) (l : Level) (b : Bool) → is_due l.progress ≡ b → ended_in outer b ≡ Done → is_whole (at outer l) ≡ true
unfolding is_whole
relax_whole [] l true is e = is
relax_whole [] l false is e = cc
relax_whole (o ∷ outer) l b is e = cc

done_ends : (s : ExprState) (p : Part) → (fed_of s p).turn ≡ Done → Ended s p
unfolding fed_of
done_ends s (part.Operand v) e = absurd (operand_not (wanted_of s) s v e)
done_ends s part.Plus e = absurd (operator_not _ s _ e)
done_ends s part.Minus e = absurd (operator_not _ s _ e)
done_ends s part.Times e = absurd (operator_not _ s _ e)
done_ends s part.Divide e = absurd (operator_not _ s _ e)
done_ends s part.Open e = absurd (open_not (wanted_of s) s e)
done_ends s part.Close e = absurd (close_not _ s e)
done_ends s part.Relax e = record { relax = refl; whole = relax_whole s.outer s.level (is_due s.level.progress) refl e }
done_ends s part.Other e = cc

-- what is said is true
says_turn : (t : Turn) (kind : ValueKind) (parts : List Part) (s : ExprState) (p : Part) → Took kind parts s → (fed_of s p).turn ≡ t → Says t kind parts p
says_turn More kind parts s p took e = begins_tree kind (parts ++ p ∷ []) (fed_of s p).state (took_more kind parts s p took e)
says_turn Done kind parts s p took e = let d = done_ends s p e in (d.relax, is_tree kind parts s took d.whole)
says_turn DoneBack kind parts s p took e =
    ((λ h. let more : (fed_of s p).turn ≡ More = begins_more kind parts s p took h in cc), (λ h. let done : (fed_of s p).turn ≡ Done = ends_done kind parts s p took h in cc))

-- and what is true is said
said_turn : (t u : Turn) (kind : ValueKind) (parts : List Part) (s : ExprState) (p : Part) → Took kind parts s → (fed_of s p).turn ≡ u → Says t kind parts p → (fed_of s p).turn ≡ t
said_turn More u kind parts s p took e h = begins_more kind parts s p took h
said_turn Done u kind parts s p took e h = ends_done kind parts s p took h
said_turn DoneBack More kind parts s p took e h = absurd (h.0 (says_turn More kind parts s p took e))
said_turn DoneBack Done kind parts s p took e h = absurd (h.1 (says_turn Done kind parts s p took e))
said_turn DoneBack DoneBack kind parts s p took e h = e

pub says_exactly : (kind : ValueKind) (parts : List Part) (s : ExprState) (p : Part) (t : Turn) → Took kind parts s → ((fed_of s p).turn ≡ t) ↔ Says t kind parts p
says_exactly kind parts s p t took = (says_turn t kind parts s p took, said_turn t (fed_of s p).turn kind parts s p took refl)

-- one thing is true
one_of_two : (kind : ValueKind) (parts : List Part) (p : Part) → BeginsTree kind (parts ++ p ∷ []) → EndsTree kind parts p → ⊥
one_of_two kind parts p begins ends =
    let tree = ends.1.tree in
    let took : Took kind parts (at [] (level_of kind tree)) = ap (after (Some (started kind))) ends.1.parts_are ∙ tree_taken kind tree ends.1.kind_is in
    let more : (fed_of (at [] (level_of kind tree)) p).turn ≡ More = begins_more kind parts (at [] (level_of kind tree)) p took begins in
    let done : (fed_of (at [] (level_of kind tree)) p).turn ≡ Done = ends_done kind parts (at [] (level_of kind tree)) p took ends in
    cc

pub one_saying : (t u : Turn) (kind : ValueKind) (parts : List Part) (p : Part) → Says t kind parts p → Says u kind parts p → t ≡ u
one_saying More More kind parts p h g = refl
one_saying More Done kind parts p h g = absurd (one_of_two kind parts p h g)
one_saying More DoneBack kind parts p h g = absurd (g.0 h)
one_saying Done More kind parts p h g = absurd (one_of_two kind parts p g h)
one_saying Done Done kind parts p h g = refl
one_saying Done DoneBack kind parts p h g = absurd (g.1 h)
one_saying DoneBack More kind parts p h g = absurd (h.0 g)
one_saying DoneBack Done kind parts p h g = absurd (h.1 g)
one_saying DoneBack DoneBack kind parts p h g = refl

pub one_value : (kind : ValueKind) (a b : Expression) → IsExpression kind a → IsExpression kind b → expression_parts a ≡ expression_parts b → expression_value a ≡ expression_value b
one_value kind a b is is' same =
    let s = at [] (level_of kind b) in
    let took : after (Some (started kind)) (expression_parts a) ≡ Some s = ap (after (Some (started kind))) same ∙ tree_taken kind b is' in
    sym (tree_value kind a s is took) ∙ tree_value kind b s is' (tree_taken kind b is')

-- the same of a call's answer
pub fed_says : {E : Type 0} (r : Result Turn E) (s : ExprState) (p : Part) → IfOk r (λ t. t ≡ (fed_of s p).turn) →
    IfOk r (λ t. (kind : ValueKind) (parts : List Part) → Took kind parts s → Says t kind parts p)
fed_says (Ok t) s p e = λ kind parts took. says_turn t kind parts s p took (sym e)
fed_says (Err x) s p e = tt

kept_done : (s : ExprState) (p : Part) → (fed_of s p).turn ≡ Done → (fed_of s p).state ≡ s
unfolding fed_of
kept_done s p e = let d = done_ends s p e in subst (λ (x : Part). (fed_of s x).state ≡ s) (sym d.relax) refl

if_kept : (b : Bool) (s : ExprState) (l : Level) → (if b then on s.outer l else refused s).turn ≡ DoneBack →
    (if b then on s.outer l else refused s).state ≡ s
if_kept true s l e = cc
if_kept false s l e = refl

operand_kept : (o : Option ValueKind) (s : ExprState) (v : Value) → (operand_fed o s v).turn ≡ DoneBack → (operand_fed o s v).state ≡ s
operand_kept None s v e = refl
operand_kept (Some k) s v e = if_kept (is_of k v) s (behind_factor s.level (checked v)) e

open_kept : (o : Option ValueKind) (s : ExprState) → (open_fed o s).turn ≡ DoneBack → (open_fed o s).state ≡ s
open_kept None s e = refl
open_kept (Some k) s e = cc

operator_kept : (b : Bool) (s : ExprState) (l : Level) → (operator_fed b s l).turn ≡ DoneBack → (operator_fed b s l).state ≡ s
operator_kept true s l e = cc
operator_kept false s l e = refl

close_in_kept : (outer : List Level) (s : ExprState) → (close_in outer s).turn ≡ DoneBack → (close_in outer s).state ≡ s
close_in_kept [] s e = refl
close_in_kept (l ∷ ls) s e = cc

close_kept : (b : Bool) (s : ExprState) → (close_fed b s).turn ≡ DoneBack → (close_fed b s).state ≡ s
close_kept true s e = close_in_kept s.outer s e
close_kept false s e = refl

kept_back : (s : ExprState) (p : Part) → (fed_of s p).turn ≡ DoneBack → (fed_of s p).state ≡ s
unfolding fed_of
kept_back s (part.Operand v) e = operand_kept (wanted_of s) s v e
kept_back s part.Plus e = operator_kept _ s _ e
kept_back s part.Minus e = operator_kept _ s _ e
kept_back s part.Times e = operator_kept _ s _ e
kept_back s part.Divide e = operator_kept _ s _ e
kept_back s part.Open e = open_kept (wanted_of s) s e
kept_back s part.Close e = close_kept _ s e
kept_back s part.Relax e = refl
kept_back s part.Other e = refl

comes : (t : Turn) (s s' : ExprState) (p : Part) → t ≡ (fed_of s p).turn → s' ≡ (fed_of s p).state → Comes t s p s'
comes More s s' p e is = λ kind parts took. subst (Took kind (parts ++ p ∷ [])) (sym is) (took_more kind parts s p took (sym e))
comes Done s s' p e is = is ∙ kept_done s p (sym e)
comes DoneBack s s' p e is = is ∙ kept_back s p (sym e)

pub fed_comes : {E : Type 0} (r : Result Turn E) (s s' : ExprState) (p : Part) → IfOk r (λ t. t ≡ (fed_of s p).turn) → OnOk r (s' ≡ (fed_of s p).state) →
    IfOk r (λ t. Comes t s p s')
fed_comes (Ok t) s s' p e is = comes t s s' p e is
fed_comes (Err x) s s' p e is = tt

pub value_tree : {E : Type 0} (r : Result Value E) (kind : ValueKind) (tree : Expression) (s : ExprState) → MatchResult r (λ v. level_value s.level ≡ Some v) (λ _. level_value s.level ≡ None) →
    IsExpression kind tree → Took kind (expression_parts tree) s → MatchResult r (λ v. expression_value tree ≡ Some v) (λ _. expression_value tree ≡ None)
value_tree (Ok v) kind tree s e is took = sym (tree_value kind tree s is took) ∙ e
value_tree (Err x) kind tree s e is took = sym (tree_value kind tree s is took) ∙ e

pub whole_is : (b : Bool) (s : ExprState) → b ≡ is_whole s → b ≡ true → (kind : ValueKind) (parts : List Part) → Took kind parts s → IsTree kind parts
whole_is b s is whole kind parts took = is_tree kind parts s took (sym is ∙ whole)

pub part_is : (b : Bool) (s : ExprState) → b ≡ is_whole s → b ≡ false → (kind : ValueKind) (parts : List Part) → Took kind parts s → IsTree kind parts → ⊥
part_is b s is part kind parts took h = let whole : is_whole s ≡ true = tree_whole kind parts s took h in cc

pub taken : (kind : ValueKind) (tree : Expression) → IsExpression kind tree → is_some (after (Some (started kind)) (expression_parts tree)) ≡ true
taken kind tree is = ap (is_some {T = ExprState}) (tree_taken kind tree is)
