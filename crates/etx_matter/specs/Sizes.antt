-- What one node is, without what stands in it: its sizes, whether it goes at the start of a line or page, and its type.
use Rattle.std.specs.Prelude.{ℤ, pos, ℕ, Bool, true, false, Option, Some, None}
use Rattle.etx_matter.specs.declared.glue.Glue.{Glue}
use Rattle.etx_matter.specs.declared.node.Node.{Node, Node-F, out-Node}
use Rattle.etx_matter.specs.declared.node.Noad.{Noad-F, out-Noad}
use Rattle.etx_matter.specs.Layers.{NodeLayer, NoadLayer}

-- a size of a rule that runs as far as the box around it counts nothing
abbrev pub size_or_zero : Option ℤ → ℤ
size_or_zero None = pos 0
size_or_zero (Some size) = size

abbrev pub layer_width : NodeLayer → ℤ
layer_width (Node-F.Char font code size) = size.width
layer_width (Node-F.Lig font code size parts) = size.width
layer_width (Node-F.Kern width kind) = width
layer_width (Node-F.Glue glue) = glue.width
layer_width (Node-F.Leaders glue leader) = glue.width
layer_width (Node-F.Rule size) = size_or_zero size.width
layer_width (Node-F.Box it) = it.width
layer_width (Node-F.Math on width) = width
layer_width (Node-F.Unset it) = it.width
layer_width _ = pos 0

abbrev pub layer_height : NodeLayer → ℤ
layer_height (Node-F.Char font code size) = size.height
layer_height (Node-F.Lig font code size parts) = size.height
layer_height (Node-F.Rule size) = size_or_zero size.height
layer_height (Node-F.Box it) = it.height
layer_height (Node-F.Unset it) = it.height
layer_height _ = pos 0

abbrev pub layer_depth : NodeLayer → ℤ
layer_depth (Node-F.Char font code size) = size.depth
layer_depth (Node-F.Lig font code size parts) = size.depth
layer_depth (Node-F.Rule size) = size_or_zero size.depth
layer_depth (Node-F.Box it) = it.depth
layer_depth (Node-F.Unset it) = it.depth
layer_depth _ = pos 0

abbrev pub layer_glue : NodeLayer → Option Glue
layer_glue (Node-F.Glue glue) = Some glue
layer_glue (Node-F.Leaders glue leader) = Some glue
layer_glue _ = None

abbrev pub layer_is_discardable : NodeLayer → Bool
layer_is_discardable (Node-F.Glue glue) = true
layer_is_discardable (Node-F.Leaders glue leader) = true
layer_is_discardable (Node-F.Kern width kind) = true
layer_is_discardable (Node-F.Penalty penalty) = true
layer_is_discardable (Node-F.Math on width) = true
layer_is_discardable _ = false

-- a noad's type is 15, but glue and kerns in mu are glue and kerns
abbrev pub noad_type : NoadLayer → ℕ
noad_type (Noad-F.MuGlue glue) = 11
noad_type Noad-F.NonScript = 11
noad_type (Noad-F.MuKern width) = 12
noad_type _ = 15

abbrev pub box_type : Bool → ℕ
box_type false = 1
box_type true = 2

abbrev pub layer_type : NodeLayer → ℕ
layer_type (Node-F.Char font code size) = 0
layer_type (Node-F.Box it) = box_type it.vertical
layer_type (Node-F.Rule size) = 3
layer_type (Node-F.Ins it) = 4
layer_type (Node-F.Mark it) = 5
layer_type (Node-F.Adjust list) = 6
layer_type (Node-F.Lig font code size parts) = 7
layer_type (Node-F.Disc it) = 8
layer_type (Node-F.What what) = 9
layer_type (Node-F.Math on width) = 10
layer_type (Node-F.Glue glue) = 11
layer_type (Node-F.Leaders glue leader) = 11
layer_type (Node-F.Kern width kind) = 12
layer_type (Node-F.Penalty penalty) = 13
layer_type (Node-F.Unset it) = 14
layer_type (Node-F.Noad noad) = noad_type (out-Noad noad)

-- the width of a node in a horizontal list, glue at its natural width
unfoldable pub width_of : Node → ℤ
width_of node = layer_width (out-Node node)

-- how far a node reaches above its baseline
unfoldable pub height_of : Node → ℤ
height_of node = layer_height (out-Node node)

-- how far a node reaches below its baseline
unfoldable pub depth_of : Node → ℤ
depth_of node = layer_depth (out-Node node)

-- the glue that a node is, filled or blank
unfoldable pub glue_of : Node → Option Glue
glue_of node = layer_glue (out-Node node)

-- whether a node goes where it comes first after a break
unfoldable pub is_discardable : Node → Bool
is_discardable node = layer_is_discardable (out-Node node)

-- the number by which e-TeX tells the type of a list's last node
unfoldable pub type_number : Node → ℕ
type_number node = layer_type (out-Node node)
