-- How deep lists stand in nodes: a box, and every other list that a node holds, counts one more than what stands in it.
-- And whether the lists in a node carry the right nesting.
use Rattle.std.specs.Prelude.{◌≡◌, ℕ, suc, ◌+◌, ◌-◌, max, min, List, [], ◌∷◌, map}
use Rattle.etx_matter.specs.declared.node.Node.{Node, Node-F, fold-Node}
use Rattle.etx_matter.specs.declared.node.Leader.{Leader, Leader-F, fold-Leader}
use Rattle.etx_matter.specs.declared.node.Noad.{Noad, Noad-F, fold-Noad}
use Rattle.etx_matter.specs.declared.node.Field.{Field, Field-F, fold-Field}
use Rattle.etx_matter.specs.declared.node.BoxNode.{BoxNode, BoxNode-F, fold-BoxNode}
use Rattle.etx_matter.specs.declared.node.Discretionary.{Discretionary-F}
use Rattle.etx_matter.specs.declared.node.InnerList.{InnerList, InnerList-F, fold-InnerList}
use Rattle.etx_matter.specs.declared.node.Insertion.{Insertion-F}
use Rattle.etx_matter.specs.declared.node.UnsetBox.{UnsetBox-F}

-- the levels of lists in a part of a node, and by how much the nestings that these lists carry are wrong, all together
pub record Depth : Type 0 where
  pub levels : ℕ
  pub wrong : ℕ

-- of a part that holds no list
abbrev pub flat : Depth
flat = record { levels = 0; wrong = 0 }

-- of two parts beside each other
abbrev pub beside : Depth → Depth → Depth
beside a b = record { levels = max a.levels b.levels; wrong = a.wrong + b.wrong }

-- of parts beside each other
abbrev pub all_beside : List Depth → Depth
all_beside [] = flat
all_beside (d ∷ ds) = beside d (all_beside ds)

-- how far two numbers lie apart
abbrev pub distance : ℕ → ℕ → ℕ
distance m n = (m - n) + (n - m)

-- of a list of parts, which carries the nesting `told`; from 2^30 on nestings aren't told apart
abbrev pub around : ℕ → Depth → Depth
around told d = record { levels = suc d.levels; wrong = d.wrong + distance told (min d.levels 1073741824) }

-- one layer of each kind, with the depths of its parts in their places
abbrev pub field_step : Field-F Depth Depth Depth Depth Depth Depth Depth Depth Depth → Depth
field_step (Field-F.SubBox it) = it
field_step (Field-F.SubFormula list) = list
field_step _ = flat

abbrev pub leader_step : Leader-F Depth Depth Depth Depth Depth Depth Depth Depth Depth → Depth
leader_step (Leader-F.Ruled size) = flat
leader_step (Leader-F.Boxes kind item) = item

abbrev pub noad_step : Noad-F Depth Depth Depth Depth Depth Depth Depth Depth Depth → Depth
noad_step (Noad-F.Atom kind nucleus superscript subscript) = beside (beside nucleus superscript) subscript
noad_step (Noad-F.Fraction thickness numerator denominator left right) = beside numerator denominator
noad_step (Noad-F.Choice display text script script_script) = beside (beside (beside display text) script) script_script
noad_step _ = flat

abbrev pub node_step : Node-F Depth Depth Depth Depth Depth Depth Depth Depth Depth → Depth
node_step (Node-F.Leaders glue leader) = leader
node_step (Node-F.Box it) = it
node_step (Node-F.Ins it) = it
node_step (Node-F.Adjust list) = list
node_step (Node-F.Disc it) = it
node_step (Node-F.Unset it) = it
node_step (Node-F.Noad noad) = noad
node_step _ = flat

abbrev pub box_step : BoxNode-F Depth Depth Depth Depth Depth Depth Depth Depth Depth → Depth
box_step it = it.list

abbrev pub discretionary_step : Discretionary-F Depth Depth Depth Depth Depth Depth Depth Depth Depth → Depth
discretionary_step it = beside it.pre it.post

abbrev pub inner_step : InnerList-F Depth Depth Depth Depth Depth Depth Depth Depth Depth → Depth
inner_step it = around it.nesting (all_beside it.nodes)

abbrev pub insertion_step : Insertion-F Depth Depth Depth Depth Depth Depth Depth Depth Depth → Depth
insertion_step it = it.list

abbrev pub unset_step : UnsetBox-F Depth Depth Depth Depth Depth Depth Depth Depth Depth → Depth
unset_step it = it.list

unfoldable pub node_depth : Node → Depth
node_depth = fold-Node Depth Depth Depth Depth Depth Depth Depth Depth Depth field_step leader_step noad_step node_step box_step discretionary_step inner_step insertion_step unset_step

unfoldable pub leader_depth : Leader → Depth
leader_depth = fold-Leader Depth Depth Depth Depth Depth Depth Depth Depth Depth field_step leader_step noad_step node_step box_step discretionary_step inner_step insertion_step unset_step

unfoldable pub noad_depth : Noad → Depth
noad_depth = fold-Noad Depth Depth Depth Depth Depth Depth Depth Depth Depth field_step leader_step noad_step node_step box_step discretionary_step inner_step insertion_step unset_step

unfoldable pub field_depth : Field → Depth
field_depth = fold-Field Depth Depth Depth Depth Depth Depth Depth Depth Depth field_step leader_step noad_step node_step box_step discretionary_step inner_step insertion_step unset_step

unfoldable pub inner_depth : InnerList → Depth
inner_depth = fold-InnerList Depth Depth Depth Depth Depth Depth Depth Depth Depth field_step leader_step noad_step node_step box_step discretionary_step inner_step insertion_step unset_step

unfoldable pub box_depth : BoxNode → Depth
box_depth = fold-BoxNode Depth Depth Depth Depth Depth Depth Depth Depth Depth field_step leader_step noad_step node_step box_step discretionary_step inner_step insertion_step unset_step

-- of the items of a list beside each other
unfoldable pub list_depth : List Node → Depth
list_depth ns = all_beside (map node_depth ns)

unfoldable pub node_nesting : Node → ℕ
node_nesting node = (node_depth node).levels

-- the greatest depth of a list's items
unfoldable pub list_nesting : List Node → ℕ
list_nesting ns = (list_depth ns).levels

unfoldable pub box_nesting : BoxNode → ℕ
box_nesting it = (box_depth it).levels

-- each list in the node carries its right nesting
unfoldable pub IsNested : Node → Type 0
IsNested node = (node_depth node).wrong ≡ 0

-- so do all lists in the items of this one
unfoldable pub AreNested : List Node → Type 0
AreNested ns = (list_depth ns).wrong ≡ 0

unfoldable pub IsNestedBox : BoxNode → Type 0
IsNestedBox it = (box_depth it).wrong ≡ 0

unfoldable pub IsNestedInner : InnerList → Type 0
IsNestedInner it = (inner_depth it).wrong ≡ 0
