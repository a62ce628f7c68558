-- What is known of the pairs of neighbours while it is worked out whether ligatures come round. A pair is a place in a
-- table of 257 rows of 257: the row is that of the left one, and each row has the characters and then the boundary.
use Rattle.std.specs.Prelude.{ℕ, zero, suc, ◌≡◌, ◌<◌, ◌≤◌, ◌+◌, ◌/◌, ◌%◌, ◌==◌, if◌then◌else◌, Bool, true, false, List, length, replicate, Option, None, Some, slice_get}
use Rattle.etx_matter.specs.declared.font.PairAction.{PairAction}
use Rattle.etx_matter.specs.declared.font.PairAction.TheVariants.{Kern, Ligature}
use Rattle.etx_matter.specs.declared.font.LigItem.{LigItem}
use Rattle.etx_matter.specs.declared.font.LigItem.TheVariants.{Boundary, Glyph}
use Rattle.etx_matter.specs.declared.font.FontInfo.{FontInfo}
use Rattle.etx_matter.specs.Ligatures.{action_between, last}
use Rattle.etx_tfm.specs.declared.pairs.End.{End}
use Rattle.etx_tfm.specs.declared.pairs.Task.{Task}
use Rattle.etx_tfm.specs.declared.pairs.Task.TheVariants.{Here, Pair, Twice}
use Rattle.etx_tfm.specs.declared.pairs.Look.{Look}
use Rattle.etx_tfm.specs.declared.pairs.Look.TheVariants.{Ends, Waits}

unfoldable pub item_at : ℕ → LigItem
item_at code = if code == 256 then Boundary else Glyph code

-- the two of the pair at a place
unfoldable pub left_of : ℕ → LigItem
left_of place = item_at (place / 257)

unfoldable pub right_of : ℕ → LigItem
right_of place = item_at (place % 257)

-- how it is found what two neighbours come to, if a ligature is made: one case for each of what it keeps and of where the
-- cursor goes
abbrev pub task_by : LigItem → LigItem → LigItem → Bool → Bool → ℕ → Task
task_by x y made false false passes = Here made
task_by x y made true false zero = Pair x made
task_by x y made true false (suc passes) = Here made
task_by x y made false true zero = Pair made y
task_by x y made false true (suc passes) = Here y
task_by x y made true true zero = Twice made
task_by x y made true true (suc zero) = Pair made y
task_by x y made true true (suc (suc passes)) = Here y

abbrev pub task_of : LigItem → LigItem → Option PairAction → Task
task_of x y None = Here y
task_of x y (Some (Kern place)) = Here y
task_of x y (Some (Ligature code keeps_current keeps_next passes)) = task_by x y (Glyph code) keeps_current keeps_next passes

unfoldable pub task_between : FontInfo → LigItem → LigItem → Task
task_between font x y = task_of x y (action_between font x y)

-- a table of so many pairs in which nothing is known
unfoldable pub nothing_known : ℕ → List (Option End)
nothing_known count = replicate count None

-- two neighbours come to this, and the depth is the least at which that is found
pub record IsEnd (font : FontInfo) (x y : LigItem) (end : End) : Type 0 where
  pub found : (depth : ℕ) → end.depth ≤ depth → last font depth x y ≡ Some end.item
  pub hidden : (depth : ℕ) → depth < end.depth → last font depth x y ≡ None

-- the pair at a place comes to this, and no more pairs than there are stand one within the other
pub record IsKnown (font : FontInfo) (place : ℕ) (end : End) : Type 0 where
  pub small : end.depth ≤ 66_049
  pub ends : IsEnd font (left_of place) (right_of place) end

-- a table has a place for each pair, and what it says is so
pub record IsTable (font : FontInfo) (known : List (Option End)) : Type 0 where
  pub size : length known ≡ 66_049
  pub ends : (place : ℕ) (end : End) → slice_get known place ≡ Some (Some end) → IsKnown font place end

-- where what the pair at `inner` comes to isn't found, that of the pair at `place` isn't found with one more
abbrev pub Leads : FontInfo → ℕ → ℕ → Type 0
Leads font place inner =
    (depth : ℕ) → last font depth (left_of inner) (right_of inner) ≡ None → last font (depth + 1) (left_of place) (right_of place) ≡ None

-- the pair at `inner` isn't known yet, and the one at `place` waits for it
pub record IsWaiting (font : FontInfo) (known : List (Option End)) (place inner : ℕ) : Type 0 where
  pub within : inner < 66_049
  pub unknown : slice_get known inner ≡ Some None
  pub leads : Leads font place inner

-- what is seen of the pair at a place is so
pub record IsFound (font : FontInfo) (place : ℕ) (end : End) : Type 0 where
  pub small : end.depth ≤ 66_050
  pub ends : IsEnd font (left_of place) (right_of place) end

abbrev pub IsLook : FontInfo → List (Option End) → ℕ → Look → Type 0
IsLook font known place (Ends end) = IsFound font place end
IsLook font known place (Waits inner) = IsWaiting font known place inner
