-- One layer of a node: a node of which the parts that lead back to nodes stand whole in their places.
use Rattle.etx_matter.specs.declared.node.Field.{Field}
use Rattle.etx_matter.specs.declared.node.Leader.{Leader}
use Rattle.etx_matter.specs.declared.node.Noad.{Noad, Noad-F}
use Rattle.etx_matter.specs.declared.node.Node.{Node, Node-F}
use Rattle.etx_matter.specs.declared.node.BoxNode.{BoxNode}
use Rattle.etx_matter.specs.declared.node.Discretionary.{Discretionary}
use Rattle.etx_matter.specs.declared.node.InnerList.{InnerList}
use Rattle.etx_matter.specs.declared.node.Insertion.{Insertion}
use Rattle.etx_matter.specs.declared.node.UnsetBox.{UnsetBox}

abbrev pub NodeLayer : Type 0
NodeLayer = Node-F Field Leader Noad Node BoxNode Discretionary InnerList Insertion UnsetBox

abbrev pub NoadLayer : Type 0
NoadLayer = Noad-F Field Leader Noad Node BoxNode Discretionary InnerList Insertion UnsetBox
