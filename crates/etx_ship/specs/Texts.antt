-- The texts of `\write` and the commands on files in a box, in the order in which it is shipped; those in leaders do
-- nothing ("TeX: The Program", sections 1366, 1367, 1373 and 1374).
use Rattle.std.specs.Prelude.{List, [], ◌∷◌, ◌++◌}
use Rattle.etx_matter.specs.declared.node.Node.{Node, Node-F, fold-Node}
use Rattle.etx_matter.specs.declared.node.Leader.{Leader-F}
use Rattle.etx_matter.specs.declared.node.Noad.{Noad-F}
use Rattle.etx_matter.specs.declared.node.Field.{Field-F}
use Rattle.etx_matter.specs.declared.node.BoxNode.{BoxNode, BoxNode-F, fold-BoxNode}
use Rattle.etx_matter.specs.declared.node.Discretionary.{Discretionary-F}
use Rattle.etx_matter.specs.declared.node.InnerList.{InnerList-F}
use Rattle.etx_matter.specs.declared.node.Insertion.{Insertion-F}
use Rattle.etx_matter.specs.declared.node.UnsetBox.{UnsetBox-F}
use Rattle.etx_matter.specs.declared.whats.What.{What}
use Rattle.etx_matter.specs.declared.whats.What.TheVariants.{OpenFile, Write, CloseFile, Special, Language}

abbrev pub what_texts : What → List What
what_texts (OpenFile stream name) = OpenFile stream name ∷ []
what_texts (Write stream tokens) = Write stream tokens ∷ []
what_texts (CloseFile stream) = CloseFile stream ∷ []
what_texts (Special text) = []
what_texts (Language language left right) = []

abbrev pub joined : List (List What) → List What
joined [] = []
joined (ws ∷ wss) = ws ++ joined wss

abbrev pub field_texts : Field-F (Unit {0}) (Unit {0}) (Unit {0}) (List What) (List What) (Unit {0}) (List What) (Unit {0}) (Unit {0}) → Unit {0}
field_texts _ = tt

abbrev pub leader_texts : Leader-F (Unit {0}) (Unit {0}) (Unit {0}) (List What) (List What) (Unit {0}) (List What) (Unit {0}) (Unit {0}) → Unit {0}
leader_texts _ = tt

abbrev pub noad_texts : Noad-F (Unit {0}) (Unit {0}) (Unit {0}) (List What) (List What) (Unit {0}) (List What) (Unit {0}) (Unit {0}) → Unit {0}
noad_texts _ = tt

abbrev pub node_layer_texts : Node-F (Unit {0}) (Unit {0}) (Unit {0}) (List What) (List What) (Unit {0}) (List What) (Unit {0}) (Unit {0}) → List What
node_layer_texts (Node-F.Box it) = it
node_layer_texts (Node-F.What what) = what_texts what
node_layer_texts _ = []

abbrev pub box_layer_texts : BoxNode-F (Unit {0}) (Unit {0}) (Unit {0}) (List What) (List What) (Unit {0}) (List What) (Unit {0}) (Unit {0}) → List What
box_layer_texts it = it.list

abbrev pub discretionary_texts : Discretionary-F (Unit {0}) (Unit {0}) (Unit {0}) (List What) (List What) (Unit {0}) (List What) (Unit {0}) (Unit {0}) → Unit {0}
discretionary_texts it = tt

abbrev pub inner_texts : InnerList-F (Unit {0}) (Unit {0}) (Unit {0}) (List What) (List What) (Unit {0}) (List What) (Unit {0}) (Unit {0}) → List What
inner_texts it = joined it.nodes

abbrev pub insertion_texts : Insertion-F (Unit {0}) (Unit {0}) (Unit {0}) (List What) (List What) (Unit {0}) (List What) (Unit {0}) (Unit {0}) → Unit {0}
insertion_texts it = tt

abbrev pub unset_texts : UnsetBox-F (Unit {0}) (Unit {0}) (Unit {0}) (List What) (List What) (Unit {0}) (List What) (Unit {0}) (Unit {0}) → Unit {0}
unset_texts it = tt

unfoldable pub node_texts : Node → List What
node_texts = fold-Node (Unit {0}) (Unit {0}) (Unit {0}) (List What) (List What) (Unit {0}) (List What) (Unit {0}) (Unit {0}) field_texts leader_texts noad_texts node_layer_texts box_layer_texts discretionary_texts inner_texts insertion_texts unset_texts

unfoldable pub texts_of : BoxNode → List What
texts_of = fold-BoxNode (Unit {0}) (Unit {0}) (Unit {0}) (List What) (List What) (Unit {0}) (List What) (Unit {0}) (Unit {0}) field_texts leader_texts noad_texts node_layer_texts box_layer_texts discretionary_texts inner_texts insertion_texts unset_texts
