-- A walk over the active list, group by group.
use Rattle.std.proofs.Common.{◌≡◌, ℕ, zero, suc, ◌+◌, ◌<◌, ◌≤◌, ◌⊎◌, inl, inr, Bool, true, false, cond, nat_le, List, [], ◌∷◌, ◌++◌, length, take, drop, slice_get, Option, Some, None, refl, sym, ap, ◌∙◌, subst, append_assoc, length-append, eq-eqb, eqb-true, leb-true, arith}
use Rattle.std.proofs.lemmas.Bool.{le-leb, lt-leb, ne_eqb}
use Rattle.std.proofs.lemmas.Bool.Decides.{leb_tells}
use Rattle.std.proofs.lemmas.List.{append-nil}
use Rattle.std.specs.List.{filter}
use Rattle.etx_linebreak.specs.Passes.{PassState}
use Rattle.etx_linebreak.specs.declared.row.Row.{Row}
use Rattle.etx_linebreak.specs.Rows.{stays, group_of, is_in, made_in, made_before, kept_rows, kept_at, by_class, lesser, least_after, bests_after, no_bests}
use Rattle.etx_linebreak.specs.Runs.{IsInGroups, run, next_before}

abbrev pub is_from : PassState → ℕ → Row → Bool
is_from p g r = nat_le g (group_of p r)

-- the groups before `done` are walked over, and the rows of the others are left
pub record Walked (p : PassState) (j : ℕ) (resort : Option ℕ) (active rows_first next_first rest rows next : List Row) : Type 0 where
  pub done : ℕ
  pub bound : done ≤ p.easy + 1
  pub ordered : IsInGroups p done rest
  pub left : rest ≡ filter (is_from p done) active
  pub made : rows ≡ rows_first ++ made_before p j resort (length rows_first) done active
  pub kept : next ≡ next_first ++ next_before p j resort (length rows_first) done active

-- a test behind a weaker one
pub filter_weaker : (a b : Row → Bool) (rs : List Row) → ((r : Row) → a r ≡ true → b r ≡ true) → filter a (filter b rs) ≡ filter a rs
filter_weaker a b [] h = refl
filter_weaker a b (r ∷ rs) h = by (a r) (b r) refl refl (h r) (filter b rs) (filter a rs) (filter_weaker a b rs h)
  where
    by : (x y : Bool) → a r ≡ x → b r ≡ y → (x ≡ true → y ≡ true) → (some all : List Row) → filter a some ≡ all
        → filter a (cond y (r ∷ some) some) ≡ cond x (r ∷ all) all
    by true true e f k some all same = rw e (ap (λ (xs : List Row). r ∷ xs) same)
    by true false e f k some all same = let no : false ≡ true = k refl in absurd cc
    by false true e f k some all same = rw e same
    by false false e f k some all same = same

weaken : (p : PassState) (g h : ℕ) (rs : List Row) → h ≤ g → IsInGroups p g rs → IsInGroups p h rs
weaken p g h [] le i = tt
weaken p g h (r ∷ rs) le i = (omega (arith, le, i.0), i.1)

is_from_yes : (p : PassState) (g : ℕ) (r : Row) → g ≤ group_of p r → is_from p g r ≡ true
is_from_yes p g r h = le-leb g (group_of p r) h

is_from_no : (p : PassState) (g : ℕ) (r : Row) → group_of p r < g → is_from p g r ≡ false
is_from_no p g r h = lt-leb g (group_of p r) h

pub is_in_yes : (p : PassState) (g : ℕ) (r : Row) → group_of p r ≡ g → is_in p g r ≡ true
unfolding is_in
is_in_yes p g r h = eq-eqb (group_of p r) g h

pub is_in_no : (p : PassState) (g : ℕ) (r : Row) → (group_of p r ≡ g → ⊥) → is_in p g r ≡ false
unfolding is_in
is_in_no p g r h = ne_eqb (group_of p r) g h

in_from : (p : PassState) (g h : ℕ) (r : Row) → g ≤ h → is_in p h r ≡ true → g ≤ group_of p r
unfolding is_in
in_from p g h r le e = let same : group_of p r ≡ h = eqb-true (group_of p r) h e in omega (arith, same, le)

bound_of : (p : PassState) (r : Row) → suc (group_of p r) ≤ p.easy + 1
unfolding group_of
bound_of p r = omega arith

from_all : (p : PassState) (g : ℕ) (rs : List Row) → IsInGroups p g rs → filter (is_from p g) rs ≡ rs
from_all p g [] i = refl
from_all p g (r ∷ rs) i = rw (is_from_yes p g r i.0) (ap (λ (xs : List Row). r ∷ xs) (from_all p g rs (weaken p (group_of p r) g rs i.0 i.1)))

none_before : (p : PassState) (g h : ℕ) (rs : List Row) → h < g → IsInGroups p g rs → filter (is_in p h) rs ≡ []
none_before p g h [] lt i = refl
none_before p g h (r ∷ rs) lt i =
    rw (is_in_no p h r (λ e. omega (arith, e, lt, i.0))) (none_before p g h rs lt (weaken p (group_of p r) g rs i.0 i.1))

-- the first rows of a list in groups
module _ (p : PassState) (g : ℕ) where
  here_or_behind : (n : ℕ) → g ≤ n → (n ≡ g) ⊎ (suc g ≤ n)
  here_or_behind n h = elim (leb_tells n g) [ inl l ↦ inl (omega (arith, l.1, h)) | inr l ↦ inr (omega (arith, l.1)) ]

  run_in : (r : Row) (rs : List Row) → group_of p r ≡ g → run p g (r ∷ rs) ≡ suc (run p g rs)
  unfolding run
  run_in r rs e = rw (is_in_yes p g r e) refl

  run_out : (r : Row) (rs : List Row) → (group_of p r ≡ g → ⊥) → run p g (r ∷ rs) ≡ 0
  unfolding run
  run_out r rs e = rw (is_in_no p g r e) refl

  run_take : (rs : List Row) → IsInGroups p g rs → take (run p g rs) rs ≡ filter (is_in p g) rs
  unfolding run
  run_take [] i = refl
  run_take (r ∷ rs) i = elim (here_or_behind (group_of p r) i.0) [
    | inl e ↦ rw (run_in r rs e, is_in_yes p g r e) (ap (λ (xs : List Row). r ∷ xs) (run_take rs (subst (λ (h : ℕ). IsInGroups p h rs) e i.1)))
    | inr l ↦ rw (run_out r rs (λ e. omega (arith, e, l)), none_before p (suc g) g (r ∷ rs) (omega arith) (l, i.1)) refl
  ]

  run_drop : (rs : List Row) → IsInGroups p g rs → drop (run p g rs) rs ≡ filter (is_from p (suc g)) rs
  unfolding run
  run_drop [] i = refl
  run_drop (r ∷ rs) i = elim (here_or_behind (group_of p r) i.0) [
    | inl e ↦ rw (run_in r rs e, is_from_no p (suc g) r (omega (arith, e))) (run_drop rs (subst (λ (h : ℕ). IsInGroups p h rs) e i.1))
    | inr l ↦ rw (run_out r rs (λ e. omega (arith, e, l))) (sym (from_all p (suc g) (r ∷ rs) (l, i.1)))
  ]

  run_behind : (rs : List Row) → IsInGroups p g rs → IsInGroups p (suc g) (drop (run p g rs) rs)
  unfolding run
  run_behind [] i = tt
  run_behind (r ∷ rs) i = elim (here_or_behind (group_of p r) i.0) [
    | inl e ↦ rw (run_in r rs e) (run_behind rs (subst (λ (h : ℕ). IsInGroups p h rs) e i.1))
    | inr l ↦ rw (run_out r rs (λ e. omega (arith, e, l))) (l, i.1)
  ]

  run_some : (r : Row) (rs : List Row) → group_of p r ≡ g → 0 < run p g (r ∷ rs)
  run_some r rs e = rw (run_in r rs e) (omega arith)

-- a group with no rows makes none
module _ (p : PassState) (j : ℕ) (resort : Option ℕ) where
  pub made_of_none : (n g : ℕ) (rs : List Row) → filter (is_in p g) rs ≡ [] → made_in p j resort n g rs ≡ []
  unfolding made_in kept_rows kept_at by_class lesser least_after bests_after
  made_of_none n g rs e = rw e refl

  module _ (n : ℕ) (rs : List Row) where
    step_back : (done g : ℕ) → done ≤ suc g → (done ≡ suc g) ⊎ (done ≤ g)
    step_back done g h = elim (leb_tells done g) [ inl l ↦ inr l.1 | inr l ↦ inl (omega (arith, l.1, h)) ]

    made_skip : (done g : ℕ) → done ≤ g → ((h : ℕ) → done ≤ h → h < g → filter (is_in p h) rs ≡ []) → made_before p j resort n g rs ≡ made_before p j resort n done rs
    unfolding made_before
    made_skip done zero le none = let e : zero ≡ done = omega (arith, le) in ap (λ (g : ℕ). made_before p j resort n g rs) e
    made_skip done (suc g) le none = elim (step_back done g le) [
      | inl e ↦ ap (λ (g : ℕ). made_before p j resort n g rs) (sym e)
      | inr l ↦ rw (made_of_none (n + length (made_before p j resort n g rs)) g rs (none g l (omega arith)), append-nil (made_before p j resort n g rs)) (made_skip done g l (λ h a b. none h a (omega (arith, b))))
    ]

    next_skip : (done g : ℕ) → done ≤ g → ((h : ℕ) → done ≤ h → h < g → filter (is_in p h) rs ≡ []) → next_before p j resort n g rs ≡ next_before p j resort n done rs
    unfolding next_before
    next_skip done zero le none = let e : zero ≡ done = omega (arith, le) in ap (λ (g : ℕ). next_before p j resort n g rs) e
    next_skip done (suc g) le none = elim (step_back done g le) [
      | inl e ↦ ap (λ (g : ℕ). next_before p j resort n g rs) (sym e)
      | inr l ↦ rw (made_of_none (n + length (made_before p j resort n g rs)) g rs (none g l (omega arith)), none g l (omega arith), append-nil (next_before p j resort n g rs)) (next_skip done g l (λ h a b. none h a (omega (arith, b))))
    ]

-- at the start no group is walked over
pub walked_first : (p : PassState) (j : ℕ) (resort : Option ℕ) (active rows next : List Row) → IsInGroups p 0 active
    → Walked p j resort active rows next active rows next
unfolding made_before next_before
walked_first p j resort active rows next i = record {
  done = 0;
  bound = omega arith;
  ordered = i;
  left = sym (from_all p 0 active i);
  made = sym (append-nil rows);
  kept = sym (append-nil next);
}

-- at the end all groups are
module _ (p : PassState) (j : ℕ) (resort : Option ℕ) (active rows_first next_first rows next : List Row) (w : Walked p j resort active rows_first next_first [] rows next) where
  none_left : (h : ℕ) → w.done ≤ h → filter (is_in p h) active ≡ []
  none_left h le =
      sym (filter_weaker (is_in p h) (is_from p w.done) active (λ r e. is_from_yes p w.done r (in_from p w.done h r le e)))
      ∙ ap (filter (is_in p h)) (sym w.left)

  pub walked_rows : rows ≡ rows_first ++ made_before p j resort (length rows_first) (suc p.easy) active
  walked_rows = w.made ∙ ap (λ (xs : List Row). rows_first ++ xs) (sym (made_skip p j resort (length rows_first) active w.done (suc p.easy) (omega (arith, w.bound)) (λ h a b. none_left h a)))

  pub walked_next : next ≡ next_first ++ next_before p j resort (length rows_first) (suc p.easy) active
  walked_next = w.kept ∙ ap (λ (xs : List Row). next_first ++ xs) (sym (next_skip p j resort (length rows_first) active w.done (suc p.easy) (omega (arith, w.bound)) (λ h a b. none_left h a)))

-- the first group that is left is walked over
module _ (p : PassState) (j : ℕ) (resort : Option ℕ) (active rows_first next_first : List Row) where
  pub walked_on : (r : Row) (rs rows next rows_new next_new group behind : List Row)
      → Walked p j resort active rows_first next_first (r ∷ rs) rows next
      → group ≡ take (run p (group_of p r) (r ∷ rs)) (r ∷ rs)
      → behind ≡ drop (run p (group_of p r) (r ∷ rs)) (r ∷ rs)
      → rows_new ≡ rows ++ kept_rows p j (length rows) (bests_after p j resort no_bests group)
      → next_new ≡ next ++ filter (stays p j) group ++ kept_rows p j (length rows) (bests_after p j resort no_bests group)
      → Walked p j resort active rows_first next_first behind rows_new next_new
  unfolding made_before next_before made_in
  walked_on r rs rows next rows_new next_new group behind w e f a b =
      let g : ℕ = group_of p r in
      let here : IsInGroups p g (r ∷ rs) = (omega arith, w.ordered.1) in
      let in_here : (h : ℕ) → w.done ≤ h → filter (is_in p h) (r ∷ rs) ≡ filter (is_in p h) active =
      λ h le. ap (filter (is_in p h)) w.left ∙ filter_weaker (is_in p h) (is_from p w.done) active (λ r e. is_from_yes p w.done r (in_from p w.done h r le e)) in
      let this : group ≡ filter (is_in p g) active = e ∙ run_take p g (r ∷ rs) here ∙ in_here g w.ordered.0 in
      let none : (h : ℕ) → w.done ≤ h → h < g → filter (is_in p h) active ≡ [] = λ h le lt. sym (in_here h le) ∙ none_before p g h (r ∷ rs) lt here in
      let front : made_before p j resort (length rows_first) g active ≡ made_before p j resort (length rows_first) w.done active =
      made_skip p j resort (length rows_first) active w.done g w.ordered.0 none in
      let front_next : next_before p j resort (length rows_first) g active ≡ next_before p j resort (length rows_first) w.done active =
      next_skip p j resort (length rows_first) active w.done g w.ordered.0 none in
      let rows_are : rows ≡ rows_first ++ made_before p j resort (length rows_first) g active = w.made ∙ ap (λ (xs : List Row). rows_first ++ xs) (sym front) in
      let next_are : next ≡ next_first ++ next_before p j resort (length rows_first) g active = w.kept ∙ ap (λ (xs : List Row). next_first ++ xs) (sym front_next) in
      let count : length rows ≡ length rows_first + length (made_before p j resort (length rows_first) g active) =
      ap length rows_are ∙ length-append rows_first (made_before p j resort (length rows_first) g active) in
      record {
        done = suc g;
        bound = bound_of p r;
        ordered = rw f (run_behind p g (r ∷ rs) here);
        left = f ∙ run_drop p g (r ∷ rs) here ∙ ap (filter (is_from p (suc g))) w.left
            ∙ filter_weaker (is_from p (suc g)) (is_from p w.done) active (λ s e. is_from_yes p w.done s (later s e (w.ordered.0)));
        made = rw (a, count, this, rows_are) (append_assoc rows_first (made_before p j resort (length rows_first) g active) _);
        kept = rw (b, count, this, next_are)
            (append_assoc (next_first ++ next_before p j resort (length rows_first) g active) (filter (stays p j) (filter (is_in p g) active)) _
            ∙ append_assoc next_first (next_before p j resort (length rows_first) g active) _);
      }
    where
      later : (s : Row) → is_from p (suc (group_of p r)) s ≡ true → w.done ≤ group_of p r → w.done ≤ group_of p s
      later s e le = let more : suc (group_of p r) ≤ group_of p s = leb-true (suc (group_of p r)) (group_of p s) e in omega (arith, more, le)

  -- the same of a list of which the first row is known
  pub walked_step : (rest : List Row) (first : Row) (g count : ℕ) (rows next rows_new next_new group behind : List Row)
      → Some first ≡ slice_get rest 0 → g ≡ group_of p first → count ≡ run p g rest
      → Walked p j resort active rows_first next_first rest rows next
      → group ≡ take count rest
      → behind ≡ drop count rest
      → rows_new ≡ rows ++ kept_rows p j (length rows) (bests_after p j resort no_bests group)
      → next_new ≡ next ++ filter (stays p j) group ++ kept_rows p j (length rows) (bests_after p j resort no_bests group)
      → Walked p j resort active rows_first next_first behind rows_new next_new
  walked_step [] first g count rows next rows_new next_new group behind e eg ec w f b a n = absurd cc
  walked_step (r ∷ rs) first g count rows next rows_new next_new group behind e eg ec w f b a n =
      let same : first ≡ r = cc in
      let at : count ≡ run p (group_of p r) (r ∷ rs) = ec ∙ ap (λ (h : ℕ). run p h (r ∷ rs)) (eg ∙ ap (group_of p) same) in
      walked_on r rs rows next rows_new next_new group behind w
      (f ∙ ap (λ (k : ℕ). take k (r ∷ rs)) at) (b ∙ ap (λ (k : ℕ). drop k (r ∷ rs)) at) a n

  pub walked_end : (number : ℕ) (rest rows next : List Row) → None ≡ slice_get rest 0 → number ≡ length rows_first
      → Walked p j resort active rows_first next_first rest rows next
      → (rows ≡ rows_first ++ made_before p j resort number (suc p.easy) active)
      × (next ≡ next_first ++ next_before p j resort number (suc p.easy) active)
  walked_end number [] rows next e k w =
      rw k (walked_rows p j resort active rows_first next_first rows next w, walked_next p j resort active rows_first next_first rows next w)
  walked_end number (r ∷ rs) rows next e k w = absurd cc

pub run_positive : (p : PassState) (rest : List Row) (first : Row) (g count : ℕ)
    → Some first ≡ slice_get rest 0 → g ≡ group_of p first → count ≡ run p g rest → 0 < count
run_positive p [] first g count e eg ec = absurd cc
run_positive p (r ∷ rs) first g count e eg ec =
    let same : first ≡ r = cc in
    rw ec (run_some p g r rs (ap (group_of p) (sym same) ∙ sym eg))
