-- What moves out of a line to the vertical list around it ("TeX: The Program", section 655).
use Rattle.std.specs.Prelude.{List, [], ◌∷◌, ◌++◌}
use Rattle.etx_matter.specs.declared.node.Node.{Node, Node-F, out-Node}
use Rattle.etx_matter.specs.Layers.{NodeLayer}

abbrev layer_stays : Node → NodeLayer → List Node
layer_stays node (Node-F.Ins it) = []
layer_stays node (Node-F.Mark it) = []
layer_stays node (Node-F.Adjust list) = []
layer_stays node _ = node ∷ []

abbrev layer_moves : Node → NodeLayer → List Node
layer_moves node (Node-F.Ins it) = node ∷ []
layer_moves node (Node-F.Mark it) = node ∷ []
layer_moves node (Node-F.Adjust list) = list.nodes
layer_moves node _ = []

-- what stays in the line of an item
unfoldable pub staying_of : Node → List Node
staying_of node = layer_stays node (out-Node node)

-- what moves out of it: an insertion, a mark, and the material of an adjustment
unfoldable pub moving_of : Node → List Node
moving_of node = layer_moves node (out-Node node)

unfoldable pub staying : List Node → List Node
staying [] = []
staying (node ∷ nodes) = staying_of node ++ staying nodes

unfoldable pub moving : List Node → List Node
moving [] = []
moving (node ∷ nodes) = moving_of node ++ moving nodes
