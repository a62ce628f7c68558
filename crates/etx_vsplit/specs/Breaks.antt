-- Where a vertical list may be broken, and what each break costs ("TeX: The Program", sections 972 to 975).
use Rattle.std.specs.Prelude.{ℕ, Bool, false, ◌||◌, not, if◌then◌else◌, ℤ, pos, negsuc, ◌+ℤ◌, int_lt, List, [], ◌∷◌, ◌++◌, length, slice_get, Option, Some, None}
use Rattle.std.specs.Option.{is_some}
use Rattle.etx_matter.specs.declared.node.Node.{Node, Node-F, out-Node}
use Rattle.etx_matter.specs.Layers.{NodeLayer}
use Rattle.etx_matter.specs.Sizes.{glue_of}
use Rattle.etx_vsplit.specs.declared.column.Column.{Column}
use Rattle.etx_vsplit.specs.declared.trial.Trial.{Trial}
use Rattle.etx_vsplit.specs.Columns.{column_of, is_too_high, column_badness}

abbrev pub is_glue_there : Option Node → Bool
is_glue_there None = false
is_glue_there (Some node) = is_some (glue_of node)

abbrev pub is_before_glue : List Node → Bool
is_before_glue nodes = is_glue_there (slice_get nodes 0)

-- the penalty of a break at a node, where one is legal: at glue behind a node that stays, at a kern before glue, and at a
-- penalty
abbrev pub layer_penalty : Bool → Bool → NodeLayer → Option ℤ
layer_penalty behind_staying before_glue (Node-F.Glue glue) = if behind_staying then Some (pos 0) else None
layer_penalty behind_staying before_glue (Node-F.Leaders glue leader) = if behind_staying then Some (pos 0) else None
layer_penalty behind_staying before_glue (Node-F.Kern width kind) = if before_glue then Some (pos 0) else None
layer_penalty behind_staying before_glue (Node-F.Penalty penalty) = Some penalty
layer_penalty behind_staying before_glue _ = None

unfoldable pub penalty_at : Bool → Bool → Node → Option ℤ
penalty_at behind_staying before_glue node = layer_penalty behind_staying before_glue (out-Node node)

-- the penalty that forces a break, as the end of the list does; 10000 and more forbid one
abbrev pub forcing : ℤ
forcing = negsuc 9_999

abbrev pub is_forced : ℤ → Bool
is_forced penalty = not (int_lt forcing penalty)

-- what a break costs behind which a column stands so: its penalty if it is forced, and else its penalty and the badness of
-- the column, but 100000 if that is infinite, and `awful_bad` if the column is too high
unfoldable pub cost_of : ℤ → Column → ℤ → ℤ
cost_of goal column penalty =
    if is_too_high goal column then pos 1_073_741_823
    else (if is_forced penalty then penalty
    else (if int_lt (column_badness goal column) (pos 10_000) then column_badness goal column +ℤ penalty else pos 100_000))

-- a break at a place, or at the end where that is `None`, behind this column
unfoldable pub trial_of : ℤ → Option ℕ → Column → ℤ → Trial
trial_of goal at column penalty = record {
  at = at;
  height = column.length;
  cost = cost_of goal column penalty;
  is_last = is_too_high goal column || is_forced penalty;
}

-- the break with this penalty, if there is one and it isn't forbidden
abbrev pub trial_with : ℤ → ℕ → Column → Option ℤ → Option Trial
trial_with goal place column None = None
trial_with goal place column (Some penalty) =
    if int_lt penalty (pos 10_000) then Some (trial_of goal (Some place) column penalty) else None

-- the break at a node of this place, behind this column
unfoldable pub trial_at : ℤ → ℕ → Column → Bool → Node → Option Trial
trial_at goal place column before_glue node = trial_with goal place column (penalty_at column.ends_staying before_glue node)

abbrev pub with_trial : Option Trial → List Trial → List Trial
with_trial None trials = trials
with_trial (Some trial) trials = trial ∷ trials

-- all breaks of a list, of which some nodes stand before this place and the others from here on
unfoldable pub trials_from : ℤ → ℤ → List Node → List Node → List Trial
trials_from goal max_depth before [] = trial_of goal None (column_of max_depth before) forcing ∷ []
trials_from goal max_depth before (node ∷ nodes) =
    with_trial (trial_at goal (length before) (column_of max_depth before) (is_before_glue nodes) node) (trials_from goal max_depth (before ++ node ∷ []) nodes)

abbrev pub all_trials : ℤ → ℤ → List Node → List Trial
all_trials goal max_depth nodes = trials_from goal max_depth [] nodes
