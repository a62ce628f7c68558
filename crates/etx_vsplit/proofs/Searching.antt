-- One step of the search for the best break.
use Rattle.std.proofs.Common.{◌≡◌, ℕ, zero, suc, ◌+◌, ◌<◌, ◌≤◌, ℤ, pos, Bool, true, false, cond, List, [], ◌∷◌, ◌++◌, length, get_or, take, drop, ap, sym, ◌∙◌, refl, subst, arith}
use Rattle.std.specs.Prelude.{int_lt, slice_get, Option, None, Some}
use Rattle.std.proofs.lemmas.List.{at_drop_more, at_drop_all, length-take-le, take_more, take_all}
use Rattle.etx_matter.specs.declared.node.Node.{Node}
use Rattle.etx_vsplit.specs.declared.trial.Trial.{Trial}
use Rattle.etx_vsplit.specs.declared.column.Column.{Column}
use Rattle.etx_vsplit.specs.Columns.{column_of, column_with}
use Rattle.etx_vsplit.specs.Breaks.{is_before_glue, is_glue_there, penalty_at, trial_of, trial_with, trial_at, with_trial, trials_from, all_trials, forcing}
use Rattle.etx_vsplit.specs.Splits.{until_last, cheaper_of, cheapest, ends_search, last_place, nodes_before, has_infinite_shrink, place_if, infinite_places, split_at, split_of}
use Rattle.etx_vsplit.proofs.Choosing.{cheaper_of-assoc}
use Rattle.etx_vsplit.proofs.Standing.{column_push, places_push}

-- the breaks from a place of a list on
abbrev pub trials_behind : ℤ → ℤ → List Node → ℕ → List Trial
trials_behind goal max_depth nodes i = trials_from goal max_depth (take i nodes) (drop i nodes)

-- a break at which the search goes on
pub best_on : (trial : Option Trial) (trials : List Trial) → ends_search trial ≡ false → cheapest (until_last (with_trial trial trials)) ≡ cheaper_of trial (cheapest (until_last trials))
unfolding cheapest until_last
best_on None trials e = refl
best_on (Some trial) trials e = rw e refl

pub last_on : (trial : Option Trial) (trials : List Trial) → ends_search trial ≡ false → last_place (with_trial trial trials) ≡ last_place trials
unfolding last_place
last_on None trials e = refl
last_on (Some trial) trials e = rw e refl

-- a break at which it ends
pub best_end : (trial : Option Trial) (trials : List Trial) → ends_search trial ≡ true → cheapest (until_last (with_trial trial trials)) ≡ trial
unfolding cheapest until_last
best_end None trials e = cc
best_end (Some trial) trials e = rw e refl

place_end : (goal : ℤ) (place : ℕ) (column : Column) (penalty : Option ℤ) (trials : List Trial) → ends_search (trial_with goal place column penalty) ≡ true → last_place (with_trial (trial_with goal place column penalty) trials) ≡ Some place
unfolding last_place trial_of
place_end goal place column None trials e = cc
place_end goal place column (Some penalty) trials e =
    allowed (int_lt penalty (pos 10000)) e
  where
    allowed : (b : Bool) → ends_search (cond b (Some (trial_of goal (Some place) column penalty)) None) ≡ true → last_place (with_trial (cond b (Some (trial_of goal (Some place) column penalty)) None) trials) ≡ Some place
    allowed true e = rw e refl
    allowed false e = cc

pub last_end : (goal : ℤ) (place : ℕ) (column : Column) (before_glue : Bool) (node : Node) (trials : List Trial) → ends_search (trial_at goal place column before_glue node) ≡ true → last_place (with_trial (trial_at goal place column before_glue node) trials) ≡ Some place
unfolding trial_at
last_end goal place column before_glue node trials e = place_end goal place column (penalty_at column.ends_staying before_glue node) trials e

get_dropped : {X : Type 0} (i : ℕ) (xs : List X) → slice_get (drop i xs) 0 ≡ slice_get xs i
get_dropped zero xs = refl
get_dropped (suc i) [] = refl
get_dropped (suc i) (x ∷ xs) = get_dropped i xs

-- whether glue follows a node
pub glue_behind : (nodes : List Node) (i : ℕ) → is_before_glue (drop (i + 1) nodes) ≡ is_glue_there (slice_get nodes (i + 1))
glue_behind nodes i = ap is_glue_there (get_dropped (i + 1) nodes)

-- the nodes before the next place
pub taken_more : (nodes : List Node) (i : ℕ) (node : Node) → i < length nodes → node ≡ get_or nodes i node → take (i + 1) nodes ≡ take i nodes ++ node ∷ []
taken_more nodes i node h e = take_more nodes i node h ∙ ap (λ (n : Node). take i nodes ++ n ∷ []) (sym e)

-- the breaks from a place on: the one at the node there, and those behind it
pub trials_step : (goal max_depth : ℤ) (nodes : List Node) (i : ℕ) (node : Node) → i < length nodes → node ≡ get_or nodes i node → trials_behind goal max_depth nodes i ≡ with_trial (trial_at goal i (column_of max_depth (take i nodes)) (is_before_glue (drop (i + 1) nodes)) node) (trials_behind goal max_depth nodes (i + 1))
unfolding trials_from
trials_step goal max_depth nodes i node h e =
    let before = take i nodes in
    let rest = drop (i + 1) nodes in
    let here = λ (k : ℕ). trial_at goal k (column_of max_depth before) (is_before_glue rest) node in
    at_drop_more (trials_from goal max_depth before) nodes i node h
    ∙ ap (λ (n : Node). trials_from goal max_depth before (n ∷ rest)) (sym e)
    ∙ ap (λ (k : ℕ). with_trial (here k) (trials_from goal max_depth (before ++ node ∷ []) rest)) (length-take-le i nodes (omega arith))
    ∙ ap (λ (b : List Node). with_trial (here i) (trials_from goal max_depth b rest)) (sym (taken_more nodes i node h e))

-- what the search has come to before a place
pub record Stands (goal max_depth : ℤ) (nodes : List Node) (i : ℕ) (column : Column) (best : Option Trial) (shrinks : List ℕ) : Type 0 where
  pub column_is : column ≡ column_of max_depth (take i nodes)
  pub best_is : cheaper_of best (cheapest (until_last (trials_behind goal max_depth nodes i))) ≡ cheapest (until_last (all_trials goal max_depth nodes))
  pub last_is : last_place (trials_behind goal max_depth nodes i) ≡ last_place (all_trials goal max_depth nodes)
  pub shrinks_is : shrinks ≡ infinite_places 0 (take i nodes)

here_by : (goal max_depth : ℤ) (nodes : List Node) (i : ℕ) (node : Node) (column : Column) (trial : Option Trial) → column ≡ column_of max_depth (take i nodes) → i < length nodes → node ≡ get_or nodes i node → trial ≡ trial_at goal i column (is_glue_there (slice_get nodes (i + 1))) node → trials_behind goal max_depth nodes i ≡ with_trial trial (trials_behind goal max_depth nodes (i + 1))
here_by goal max_depth nodes i node column trial k h e t =
    let glue = is_glue_there (slice_get nodes (i + 1)) in
    let rest = trials_behind goal max_depth nodes (i + 1) in
    trials_step goal max_depth nodes i node h e
    ∙ ap (λ (g : Bool). with_trial (trial_at goal i (column_of max_depth (take i nodes)) g node) rest) (glue_behind nodes i)
    ∙ ap (λ (c : Column). with_trial (trial_at goal i c glue node) rest) (sym k)
    ∙ ap (λ (o : Option Trial). with_trial o rest) (sym t)

-- before the first node
pub begins : (goal max_depth : ℤ) (nodes : List Node) (column : Column) (shrinks : List ℕ) → column ≡ column_of max_depth [] → shrinks ≡ [] → Stands goal max_depth nodes 0 column None shrinks
unfolding infinite_places
begins goal max_depth nodes column shrinks e p = record { column_is = e; best_is = refl; last_is = refl; shrinks_is = p }

-- it goes on behind a node
pub goes_on : (goal max_depth : ℤ) (nodes : List Node) (i : ℕ) (node : Node) (column column' : Column) (best best' trial : Option Trial) (shrinks shrinks' : List ℕ) → Stands goal max_depth nodes i column best shrinks → i < length nodes → node ≡ get_or nodes i node → trial ≡ trial_at goal i column (is_glue_there (slice_get nodes (i + 1))) node → ends_search trial ≡ false → best' ≡ cheaper_of best trial → column' ≡ column_with max_depth column node → shrinks' ≡ shrinks ++ place_if (has_infinite_shrink node) i → Stands goal max_depth nodes (i + 1) column' best' shrinks'
goes_on goal max_depth nodes i node column column' best best' trial shrinks shrinks' s h e t on b c p =
    let rest = trials_behind goal max_depth nodes (i + 1) in
    let here = here_by goal max_depth nodes i node column trial s.column_is h e t in
    let more = taken_more nodes i node h e in
    let places : 0 + length (take i nodes) ≡ i = omega (arith, length-take-le i nodes (omega arith)) in
    record {
      column_is = c ∙ ap (λ (k : Column). column_with max_depth k node) s.column_is ∙ sym (column_push max_depth (take i nodes) node) ∙ ap (column_of max_depth) (sym more);
      best_is =
          ap (λ (o : Option Trial). cheaper_of o (cheapest (until_last rest))) b
          ∙ cheaper_of-assoc best trial (cheapest (until_last rest))
          ∙ ap (cheaper_of best) (sym (best_on trial rest on))
          ∙ ap (λ (ts : List Trial). cheaper_of best (cheapest (until_last ts))) (sym here)
          ∙ s.best_is;
      last_is = sym (last_on trial rest on) ∙ ap last_place (sym here) ∙ s.last_is;
      shrinks_is =
          p
          ∙ ap (λ (ps : List ℕ). ps ++ place_if (has_infinite_shrink node) i) s.shrinks_is
          ∙ ap (λ (k : ℕ). infinite_places 0 (take i nodes) ++ place_if (has_infinite_shrink node) k) (sym places)
          ∙ sym (places_push 0 (take i nodes) node)
          ∙ ap (infinite_places 0) (sym more);
    }

-- it ends at a node
pub ends_here : (goal max_depth : ℤ) (nodes : List Node) (i : ℕ) (node : Node) (column : Column) (best trial : Option Trial) (shrinks : List ℕ) → Stands goal max_depth nodes i column best shrinks → i < length nodes → node ≡ get_or nodes i node → trial ≡ trial_at goal i column (is_glue_there (slice_get nodes (i + 1))) node → ends_search trial ≡ true → split_at (cheaper_of best trial) shrinks ≡ split_of goal max_depth nodes
unfolding split_of
ends_here goal max_depth nodes i node column best trial shrinks s h e t end =
    let rest = trials_behind goal max_depth nodes (i + 1) in
    let here = here_by goal max_depth nodes i node column trial s.column_is h e t in
    let all = all_trials goal max_depth nodes in
    let best_of_all : cheapest (until_last all) ≡ cheaper_of best trial =
    sym s.best_is ∙ ap (λ (ts : List Trial). cheaper_of best (cheapest (until_last ts))) here ∙ ap (cheaper_of best) (best_end trial rest end) in
    let last : last_place all ≡ Some i =
    sym s.last_is
    ∙ ap last_place here
    ∙ ap (λ (o : Option Trial). last_place (with_trial o rest)) t
    ∙ last_end goal i column (is_glue_there (slice_get nodes (i + 1))) node rest (subst (λ (o : Option Trial). ends_search o ≡ true) t end) in
    ap (λ (o : Option Trial). split_at o shrinks) (sym best_of_all)
    ∙ ap (split_at (cheapest (until_last all))) (s.shrinks_is ∙ ap (λ (o : Option ℕ). infinite_places 0 (nodes_before o nodes)) (sym last))

same_either_way : {A : Type 0} (b : Bool) (x : A) → cond b x x ≡ x
same_either_way true x = refl
same_either_way false x = refl

only_one : (trial : Trial) → cheapest (until_last (trial ∷ [])) ≡ Some trial
unfolding cheapest until_last
only_one trial = ap (λ (ts : List Trial). cheaper_of (Some trial) (cheapest ts)) (same_either_way trial.is_last [])

at_the_end : (goal : ℤ) (column : Column) (penalty : ℤ) → last_place (trial_of goal None column penalty ∷ []) ≡ None
unfolding last_place trial_of
at_the_end goal column penalty = same_either_way (trial_of goal None column penalty).is_last None

-- it ends at the end of the list
pub ends_behind : (goal max_depth : ℤ) (nodes : List Node) (i : ℕ) (column : Column) (best : Option Trial) (shrinks : List ℕ) → Stands goal max_depth nodes i column best shrinks → length nodes ≤ i → split_at (cheaper_of best (Some (trial_of goal None column forcing))) shrinks ≡ split_of goal max_depth nodes
unfolding split_of trials_from
ends_behind goal max_depth nodes i column best shrinks s h =
    let all = all_trials goal max_depth nodes in
    let end = trial_of goal None column forcing in
    let here : trials_behind goal max_depth nodes i ≡ end ∷ [] =
    at_drop_all (trials_from goal max_depth (take i nodes)) nodes i h ∙ ap (λ (c : Column). trial_of goal None c forcing ∷ []) (sym s.column_is) in
    let best_of_all : cheapest (until_last all) ≡ cheaper_of best (Some end) =
    sym s.best_is ∙ ap (λ (ts : List Trial). cheaper_of best (cheapest (until_last ts))) here ∙ ap (cheaper_of best) (only_one end) in
    let last : last_place all ≡ None = sym s.last_is ∙ ap last_place here ∙ at_the_end goal column forcing in
    ap (λ (o : Option Trial). split_at o shrinks) (sym best_of_all)
    ∙ ap (split_at (cheapest (until_last all)))
    (s.shrinks_is ∙ ap (infinite_places 0) (take_all i nodes h) ∙ ap (λ (o : Option ℕ). infinite_places 0 (nodes_before o nodes)) (sym last))
