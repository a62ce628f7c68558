-- The things that a box puts on a page, with their places ("TeX: The Program", sections 619 to 637, 1366 and 1367).
use Rattle.std.specs.Prelude.{ℕ, zero, suc, ◌&&◌, if◌then◌else◌, Bool, true, false, Option, None, Some, ℤ, ◌+ℤ◌, ◌-ℤ◌, List, [], ◌∷◌, ◌++◌}
use Rattle.std.specs.Int.{is_positive}
use Rattle.etx_matter.specs.declared.node.Node.{Node, Node-F, fold-Node}
use Rattle.etx_matter.specs.declared.node.Leader.{Leader, Leader-F, fold-Leader}
use Rattle.etx_matter.specs.declared.node.Noad.{Noad-F}
use Rattle.etx_matter.specs.declared.node.Field.{Field-F}
use Rattle.etx_matter.specs.declared.node.BoxNode.{BoxNode, BoxNode-F, fold-BoxNode}
use Rattle.etx_matter.specs.declared.node.Discretionary.{Discretionary-F}
use Rattle.etx_matter.specs.declared.node.InnerList.{InnerList-F}
use Rattle.etx_matter.specs.declared.node.Insertion.{Insertion-F}
use Rattle.etx_matter.specs.declared.node.UnsetBox.{UnsetBox-F}
use Rattle.etx_matter.specs.declared.node.LeaderKind.{LeaderKind}
use Rattle.etx_matter.specs.declared.sizes.CharSize.{CharSize}
use Rattle.etx_matter.specs.declared.sizes.RuleSize.{RuleSize}
use Rattle.etx_matter.specs.declared.whats.What.{What}
use Rattle.etx_matter.specs.declared.whats.What.TheVariants.{OpenFile, Write, CloseFile, Special, Language}
use Rattle.etx_ship.specs.Copies.{copies_of}
use Rattle.etx_ship.specs.Items.{Item, Letter, Bar, Block, Note, Across, Down, Open, Close}
use Rattle.etx_ship.specs.Spots.{place, moved, glued, frame_of, start_of}
use Rattle.etx_ship.specs.declared.place.Frame.{Frame}
use Rattle.etx_ship.specs.declared.place.Point.{Point}
use Rattle.etx_ship.specs.declared.place.Spot.{Spot}

-- what an item puts on the page, and where the next one begins
pub record Step : Type 0 where
  pub items : List Item
  pub next : Spot

-- an item of a list, in the box around it and at its place there
abbrev pub Moves : Type 0
Moves = Frame → Spot → Step

-- leaders, in the box around them, from the beginning to the end of their glue
abbrev pub Leads : Type 0
Leads = Frame → Spot → Spot → List Item

-- a box: its sizes, whether it has no item, and what it puts on the page where its reference point stands here
pub record Shown : Type 0 where
  pub width : ℤ
  pub height : ℤ
  pub depth : ℤ
  pub shift : ℤ
  pub empty : Bool
  pub at : Point → List Item

-- no item, and the next one begins here
abbrev pub no_item : Spot → Step
no_item next = record { items = []; next = next }

abbrev pub is_empty : {A : Type 0} → List A → Bool
is_empty [] = true
is_empty (x ∷ xs) = false

-- where an item of a list stands
abbrev pub here : Frame → Spot → Point
here f s = record { h = if f.vertical then f.side else place s; v = if f.vertical then place s else f.side }

-- no character stands in a vertical list
unfoldable pub letter_step : ℕ → ℕ → CharSize → Moves
letter_step font code size f s =
    if f.vertical then no_item s
    else record { items = Letter font code size.width (here f s) ∷ []; next = moved size.width s }

-- a size that runs is that of the box around the rule
abbrev pub size_or : ℤ → Option ℤ → ℤ
size_or around None = around
size_or around (Some size) = size

-- a rule is there if it has a size
abbrev pub solid : ℤ → ℤ → List Item → List Item
solid thick width items = if is_positive thick && is_positive width then items else []

-- a rule whose lower left corner is here, in a horizontal list and in a vertical one
abbrev pub bar_at : ℤ → ℤ → Point → List Item
bar_at thick width at = solid thick width (Bar thick width at ∷ [])

abbrev pub block_at : ℤ → ℤ → Point → List Item
block_at thick width at = solid thick width (Block thick width at ∷ [])

-- a rule of a horizontal list, from its left edge
abbrev pub bar : Frame → ℤ → ℤ → ℤ → ℤ → List Item
bar f height depth width from = bar_at (height +ℤ depth) width (record { h = from; v = f.side +ℤ depth })

-- a rule of a vertical list, from its upper edge
abbrev pub block : Frame → ℤ → ℤ → ℤ → List Item
block f thick width from = block_at thick width (record { h = f.side; v = from +ℤ thick })

abbrev pub down_rule : ℤ → ℤ → ℤ → Moves
down_rule height depth width f s = record { items = block f (height +ℤ depth) width (place s); next = moved (height +ℤ depth) s }

abbrev pub across_rule : ℤ → ℤ → ℤ → Moves
across_rule height depth width f s = record { items = bar f height depth width (place s); next = moved width s }

unfoldable pub rule_step : RuleSize → Moves
rule_step size f s =
    if f.vertical then down_rule (size_or f.height size.height) (size_or f.depth size.depth) (size_or f.width size.width) f s
    else across_rule (size_or f.height size.height) (size_or f.depth size.depth) (size_or f.width size.width) f s

-- what stands between the beginning and the end of a box
abbrev pub boxed : Shown → Point → List Item
boxed it at = Open ∷ (it.at at ++ (Close ∷ []))

-- unless it has no item; in a vertical list its place down is gone to before it begins
abbrev pub any_boxed : Shown → Point → List Item
any_boxed it at = if it.empty then [] else boxed it at

abbrev pub lower_boxed : Shown → Point → List Item
lower_boxed it at = if it.empty then [] else Down at.v ∷ boxed it at

-- a box in a vertical list, and in a horizontal one
abbrev pub below_step : Shown → Moves
below_step it f s = record {
  items = lower_boxed it (record { h = f.side +ℤ it.shift; v = place s +ℤ it.height });
  next = moved (it.height +ℤ it.depth) s;
}

abbrev pub beside_step : Shown → Moves
beside_step it f s = record { items = any_boxed it (record { h = place s; v = f.side +ℤ it.shift }); next = moved it.width s }

unfoldable pub box_step : Shown → Moves
box_step it f s = if f.vertical then below_step it f s else beside_step it f s

-- a box of leaders that begins here: its place is gone to before it begins
unfoldable pub copy_at : Shown → Frame → ℤ → List Item
copy_at it f from =
    if f.vertical then (
    let at : Point = record { h = f.side +ℤ it.shift; v = from +ℤ it.height } in
    Across at.h ∷ Down at.v ∷ boxed it at)
    else (
    let at : Point = record { h = from; v = f.side +ℤ it.shift } in
    Down at.v ∷ Across at.h ∷ boxed it at)

-- so many, one behind the other
unfoldable pub repeated : (ℤ → List Item) → ℤ → ℕ → ℤ → List Item
repeated show step zero from = []
repeated show step (suc n) from = show from ++ repeated show step n (from +ℤ step)

-- the gap that leaders fill
abbrev pub gap : Spot → Spot → ℤ
gap s t = place t -ℤ place s

-- a rule that fills the gap, whose other sizes are these
abbrev pub ruled_down : ℤ → Leads
ruled_down width f s t = block f (gap s t) width (place s)

abbrev pub ruled_across : ℤ → ℤ → Leads
ruled_across height depth f s t = bar f height depth (gap s t) (place s)

unfoldable pub ruled : RuleSize → Leads
ruled size f s t =
    if f.vertical then ruled_down (size_or f.width size.width) f s t
    else ruled_across (size_or f.height size.height) (size_or f.depth size.depth) f s t

abbrev pub length_along : Bool → Shown → ℤ
length_along vertical it = if vertical then it.height +ℤ it.depth else it.width

unfoldable pub filled : LeaderKind → Shown → Leads
filled kind it f s t =
    let copies = copies_of kind f.edge (place s) (gap s t) (length_along f.vertical it) in
    repeated (copy_at it f) copies.step copies.count copies.first

unfoldable pub what_step : What → Moves
what_step (Special text) f s = record { items = Note text (here f s) ∷ []; next = s }
what_step (OpenFile stream name) f s = no_item s
what_step (Write stream tokens) f s = no_item s
what_step (CloseFile stream) f s = no_item s
what_step (Language language left right) f s = no_item s

-- the items of a list, one behind the other
abbrev pub along : List Moves → Frame → Spot → List Item
along [] f s = []
along (m ∷ ms) f s = (m f s).items ++ along ms f (m f s).next

-- one layer of each kind, with what its parts do in their places
abbrev pub field_layer : Field-F (Unit {0}) Leads (Unit {0}) Moves Shown (Unit {0}) (List Moves) (Unit {0}) (Unit {0}) → Unit {0}
field_layer _ = tt

abbrev pub leader_layer : Leader-F (Unit {0}) Leads (Unit {0}) Moves Shown (Unit {0}) (List Moves) (Unit {0}) (Unit {0}) → Leads
leader_layer (Leader-F.Ruled size) = ruled size
leader_layer (Leader-F.Boxes kind item) = filled kind item

abbrev pub noad_layer : Noad-F (Unit {0}) Leads (Unit {0}) Moves Shown (Unit {0}) (List Moves) (Unit {0}) (Unit {0}) → Unit {0}
noad_layer _ = tt

-- Kerns move in both directions, the edges of a formula across alone. What isn't listed does nothing.
abbrev pub node_layer : Node-F (Unit {0}) Leads (Unit {0}) Moves Shown (Unit {0}) (List Moves) (Unit {0}) (Unit {0}) → Moves
node_layer (Node-F.Char font code size) f s = letter_step font code size f s
node_layer (Node-F.Lig font code size parts) f s = letter_step font code size f s
node_layer (Node-F.Kern width kind) f s = no_item (moved width s)
node_layer (Node-F.Glue glue) f s = no_item (glued f.set glue s)
node_layer (Node-F.Leaders glue leader) f s = record { items = leader f s (glued f.set glue s); next = glued f.set glue s }
node_layer (Node-F.Rule size) f s = rule_step size f s
node_layer (Node-F.Box it) f s = box_step it f s
node_layer (Node-F.What what) f s = what_step what f s
node_layer (Node-F.Math on width) f s = no_item (if f.vertical then s else moved width s)
node_layer _ f s = no_item s

abbrev pub box_layer : BoxNode-F (Unit {0}) Leads (Unit {0}) Moves Shown (Unit {0}) (List Moves) (Unit {0}) (Unit {0}) → Shown
box_layer it = record {
  width = it.width;
  height = it.height;
  depth = it.depth;
  shift = it.shift;
  empty = is_empty it.list;
  at = λ at. let f = frame_of it.vertical it.width it.height it.depth it.set at in along it.list f (start_of f);
}

abbrev pub discretionary_layer : Discretionary-F (Unit {0}) Leads (Unit {0}) Moves Shown (Unit {0}) (List Moves) (Unit {0}) (Unit {0}) → Unit {0}
discretionary_layer it = tt

abbrev pub inner_layer : InnerList-F (Unit {0}) Leads (Unit {0}) Moves Shown (Unit {0}) (List Moves) (Unit {0}) (Unit {0}) → List Moves
inner_layer it = it.nodes

abbrev pub insertion_layer : Insertion-F (Unit {0}) Leads (Unit {0}) Moves Shown (Unit {0}) (List Moves) (Unit {0}) (Unit {0}) → Unit {0}
insertion_layer it = tt

abbrev pub unset_layer : UnsetBox-F (Unit {0}) Leads (Unit {0}) Moves Shown (Unit {0}) (List Moves) (Unit {0}) (Unit {0}) → Unit {0}
unset_layer it = tt

unfoldable pub node_moves : Node → Moves
node_moves = fold-Node (Unit {0}) Leads (Unit {0}) Moves Shown (Unit {0}) (List Moves) (Unit {0}) (Unit {0}) field_layer leader_layer noad_layer node_layer box_layer discretionary_layer inner_layer insertion_layer unset_layer

unfoldable pub leader_leads : Leader → Leads
leader_leads = fold-Leader (Unit {0}) Leads (Unit {0}) Moves Shown (Unit {0}) (List Moves) (Unit {0}) (Unit {0}) field_layer leader_layer noad_layer node_layer box_layer discretionary_layer inner_layer insertion_layer unset_layer

unfoldable pub box_shown : BoxNode → Shown
box_shown = fold-BoxNode (Unit {0}) Leads (Unit {0}) Moves Shown (Unit {0}) (List Moves) (Unit {0}) (Unit {0}) field_layer leader_layer noad_layer node_layer box_layer discretionary_layer inner_layer insertion_layer unset_layer

-- all that a box puts on a page where its reference point stands here
unfoldable pub places_of : BoxNode → Point → List Item
places_of it at = (box_shown it).at at
