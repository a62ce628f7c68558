-- The best break of a vertical list ("TeX: The Program", sections 970 to 977).
use Rattle.std.specs.Prelude.{ℕ, ◌+◌, Bool, true, false, ◌&&◌, not, if◌then◌else◌, ℤ, pos, int_lt, List, [], ◌∷◌, ◌++◌, take, Option, Some, None}
use Rattle.etx_matter.specs.declared.glue.Glue.{Glue}
use Rattle.etx_matter.specs.declared.glue.GlueOrder.{GlueOrder}
use Rattle.etx_matter.specs.declared.glue.GlueOrder.TheVariants.{Normal, Fil, Fill, Filll}
use Rattle.etx_matter.specs.declared.node.Node.{Node}
use Rattle.etx_matter.specs.Sizes.{glue_of}
use Rattle.etx_pack.specs.Fits.{within_32_bits, is_zero}
use Rattle.etx_vsplit.specs.declared.trial.Trial.{Trial}
use Rattle.etx_vsplit.specs.declared.split.Split.{Split}
use Rattle.etx_vsplit.specs.Breaks.{all_trials}

-- A break that is forced, or before which the column is too high already, is the last that is looked at.
unfoldable pub until_last : List Trial → List Trial
until_last [] = []
until_last (trial ∷ trials) = trial ∷ (if trial.is_last then [] else until_last trials)

-- the cheaper of two breaks, and the later one if they cost the same
abbrev pub cheaper : Trial → Trial → Trial
cheaper earlier later = if int_lt earlier.cost later.cost then earlier else later

abbrev pub cheaper_of : Option Trial → Option Trial → Option Trial
cheaper_of None later = later
cheaper_of (Some earlier) None = Some earlier
cheaper_of (Some earlier) (Some later) = Some (cheaper earlier later)

-- the break that costs least of all, and the last of those that cost the same
unfoldable pub cheapest : List Trial → Option Trial
cheapest [] = None
cheapest (trial ∷ trials) = cheaper_of (Some trial) (cheapest trials)

-- whether no break behind this one is looked at, if there is one
abbrev pub ends_search : Option Trial → Bool
ends_search None = false
ends_search (Some trial) = trial.is_last

-- the place of the last break that is looked at
unfoldable pub last_place : List Trial → Option ℕ
last_place [] = None
last_place (trial ∷ trials) = if trial.is_last then trial.at else last_place trials

-- the nodes before a place, or all of them
abbrev pub nodes_before : Option ℕ → List Node → List Node
nodes_before None nodes = nodes
nodes_before (Some place) nodes = take place nodes

abbrev pub is_infinite : GlueOrder → Bool
is_infinite Normal = false
is_infinite Fil = true
is_infinite Fill = true
is_infinite Filll = true

abbrev pub shrinks_infinitely : Option Glue → Bool
shrinks_infinitely None = false
shrinks_infinitely (Some glue) = is_infinite glue.shrink_order && not (is_zero glue.shrink)

-- glue that has no place in a list that is broken (section 976)
unfoldable pub has_infinite_shrink : Node → Bool
has_infinite_shrink node = shrinks_infinitely (glue_of node)

-- a place, if it is wanted
abbrev pub place_if : Bool → ℕ → List ℕ
place_if true place = place ∷ []
place_if false place = []

-- the places of such glue, where the first node has this place
unfoldable pub infinite_places : ℕ → List Node → List ℕ
infinite_places place [] = []
infinite_places place (node ∷ nodes) = place_if (has_infinite_shrink node) place ++ infinite_places (place + 1) nodes

-- the split at a break; there always is one
abbrev pub split_at : Option Trial → List ℕ → Split
split_at None shrinks = record { at = None; height = pos 0; shrinks = shrinks }
split_at (Some trial) shrinks = record { at = trial.at; height = within_32_bits trial.height; shrinks = shrinks }

-- the split at the best of all breaks that are looked at, with the glue before the last of these that is reported
unfoldable pub split_of : ℤ → ℤ → List Node → Split
split_of goal max_depth nodes =
    let trials = all_trials goal max_depth nodes in
    split_at (cheapest (until_last trials)) (infinite_places 0 (nodes_before (last_place trials) nodes))
