-- How much a node takes along the list in which it stands, and how far it reaches across it. In a horizontal list that is
-- its width, its height and its depth, for a box as it is shifted ("TeX: The Program", sections 651 to 656); in a vertical
-- one its height and depth together, and its width (sections 669 to 671).
use Rattle.std.specs.Prelude.{ℤ, pos, ◌+ℤ◌, ◌-ℤ◌}
use Rattle.etx_matter.specs.declared.node.BoxNode.{BoxNode}
use Rattle.etx_matter.specs.declared.node.Discretionary.{Discretionary}
use Rattle.etx_matter.specs.declared.node.Field.{Field}
use Rattle.etx_matter.specs.declared.node.InnerList.{InnerList}
use Rattle.etx_matter.specs.declared.node.Insertion.{Insertion}
use Rattle.etx_matter.specs.declared.node.Leader.{Leader, Leader-F, out-Leader}
use Rattle.etx_matter.specs.declared.node.Noad.{Noad}
use Rattle.etx_matter.specs.declared.node.Node.{Node, Node-F, out-Node}
use Rattle.etx_matter.specs.declared.node.UnsetBox.{UnsetBox}
use Rattle.etx_matter.specs.Layers.{NodeLayer}
use Rattle.etx_matter.specs.Sizes.{size_or_zero}

abbrev pub LeaderLayer : Type 0
LeaderLayer = Leader-F Field Leader Noad Node BoxNode Discretionary InnerList Insertion UnsetBox

-- the sizes of what fills a glue
abbrev pub filler_layer_width : LeaderLayer → ℤ
filler_layer_width (Leader-F.Ruled size) = size_or_zero size.width
filler_layer_width (Leader-F.Boxes kind item) = item.width

abbrev pub filler_layer_height : LeaderLayer → ℤ
filler_layer_height (Leader-F.Ruled size) = size_or_zero size.height
filler_layer_height (Leader-F.Boxes kind item) = item.height

abbrev pub filler_layer_depth : LeaderLayer → ℤ
filler_layer_depth (Leader-F.Ruled size) = size_or_zero size.depth
filler_layer_depth (Leader-F.Boxes kind item) = item.depth

unfoldable pub filler_width : Leader → ℤ
filler_width leader = filler_layer_width (out-Leader leader)

unfoldable pub filler_height : Leader → ℤ
filler_height leader = filler_layer_height (out-Leader leader)

unfoldable pub filler_depth : Leader → ℤ
filler_depth leader = filler_layer_depth (out-Leader leader)

abbrev pub layer_rise : NodeLayer → ℤ
layer_rise (Node-F.Char font code size) = size.height
layer_rise (Node-F.Lig font code size parts) = size.height
layer_rise (Node-F.Leaders glue leader) = filler_height leader
layer_rise (Node-F.Rule size) = size_or_zero size.height
layer_rise (Node-F.Box it) = it.height -ℤ it.shift
layer_rise (Node-F.Unset it) = it.height
layer_rise _ = pos 0

abbrev pub layer_fall : NodeLayer → ℤ
layer_fall (Node-F.Char font code size) = size.depth
layer_fall (Node-F.Lig font code size parts) = size.depth
layer_fall (Node-F.Leaders glue leader) = filler_depth leader
layer_fall (Node-F.Rule size) = size_or_zero size.depth
layer_fall (Node-F.Box it) = it.depth +ℤ it.shift
layer_fall (Node-F.Unset it) = it.depth
layer_fall _ = pos 0

abbrev pub layer_breadth : NodeLayer → ℤ
layer_breadth (Node-F.Leaders glue leader) = filler_width leader
layer_breadth (Node-F.Rule size) = size_or_zero size.width
layer_breadth (Node-F.Box it) = it.width +ℤ it.shift
layer_breadth (Node-F.Unset it) = it.width
layer_breadth _ = pos 0

abbrev pub layer_length : NodeLayer → ℤ
layer_length (Node-F.Kern width kind) = width
layer_length (Node-F.Glue glue) = glue.width
layer_length (Node-F.Leaders glue leader) = glue.width
layer_length (Node-F.Rule size) = size_or_zero size.height +ℤ size_or_zero size.depth
layer_length (Node-F.Box it) = it.height +ℤ it.depth
layer_length (Node-F.Unset it) = it.height +ℤ it.depth
layer_length _ = pos 0

abbrev pub layer_hang : ℤ → NodeLayer → ℤ
layer_hang above (Node-F.Kern width kind) = pos 0
layer_hang above (Node-F.Glue glue) = pos 0
layer_hang above (Node-F.Leaders glue leader) = pos 0
layer_hang above (Node-F.Rule size) = size_or_zero size.depth
layer_hang above (Node-F.Box it) = it.depth
layer_hang above (Node-F.Unset it) = it.depth
layer_hang above _ = above

-- how far a node of a horizontal list reaches above the baseline of the list
unfoldable pub rise_of : Node → ℤ
rise_of node = layer_rise (out-Node node)

-- how far a node of a horizontal list reaches below the baseline of the list
unfoldable pub fall_of : Node → ℤ
fall_of node = layer_fall (out-Node node)

-- how far a node of a vertical list reaches to the right of the list's left edge
unfoldable pub breadth_of : Node → ℤ
breadth_of node = layer_breadth (out-Node node)

-- what a node of a vertical list takes from top to bottom, glue at its natural width
unfoldable pub length_of : Node → ℤ
length_of node = layer_length (out-Node node)

-- how much of a vertical list hangs below its last baseline once this node stands under what hangs there: the depth of a
-- box or a rule, and nothing under glue or a kern. Other nodes have no place of their own.
unfoldable pub hang_under : ℤ → Node → ℤ
hang_under above node = layer_hang above (out-Node node)
