-- Sealed paragraphs as contracts see them, and how a list is sealed.
use Rattle.std.specs.Prelude.{Bool, true, false, not, ◌||◌, ◌&&◌, if◌then◌else◌, ℤ, pos, zero, suc, negsuc, List, [], ◌∷◌, ◌++◌, map, is_some}
use Rattle.std.specs.List.{list_any}
use Rattle.etx_matter.specs.declared.glue.Glue.{Glue}
use Rattle.etx_matter.specs.declared.glue.GlueOrder.{GlueOrder}
use Rattle.etx_matter.specs.declared.glue.GlueOrder.TheVariants.{Normal, Fil, Fill, Filll}
use Rattle.etx_matter.specs.declared.node.Node.{Node, Node-F, out-Node, roll-Node}
use Rattle.etx_matter.specs.Layers.{NodeLayer}
use Rattle.etx_matter.specs.Sizes.{glue_of}
use Rattle.etx_sealed.specs.declared.params.LineSkips.{LineSkips}
use Rattle.etx_sealed.specs.declared.params.ParParams.{ParParams}

-- `infinite` says whether glue that shrinks infinitely was made finite
pub record Paragraph : Type 0 where
  pub list : List Node
  pub params : ParParams
  pub infinite : Bool

abbrev pub is_glue : Node → Bool
is_glue node = is_some (glue_of node)

-- a penalty at which no line may end
unfoldable pub no_break : Node
no_break = roll-Node (Node-F.Penalty (pos 10_000))

unfoldable pub glue_node : Glue → Node
glue_node glue = roll-Node (Node-F.Glue glue)

unfoldable pub without_last_glue : List Node → List Node
without_last_glue [] = []
without_last_glue (node ∷ []) = if is_glue node then [] else node ∷ []
without_last_glue (node ∷ (next ∷ more)) = node ∷ without_last_glue (next ∷ more)

-- a paragraph ends in a penalty, which takes the place of a last glue, and the glue that fills the last line ("TeX: The
-- Program", section 816)
unfoldable pub finished : List Node → Glue → List Node
finished nodes fill = without_last_glue nodes ++ (no_break ∷ (glue_node fill ∷ []))

abbrev pub is_zero : ℤ → Bool
is_zero (pos zero) = true
is_zero (pos (suc n)) = false
is_zero (negsuc n) = false

abbrev pub is_infinite : GlueOrder → Bool
is_infinite Normal = false
is_infinite Fil = true
is_infinite Fill = true
is_infinite Filll = true

-- there is some shrink, and of an infinite order
unfoldable pub shrinks_infinitely : Glue → Bool
shrinks_infinitely glue = is_infinite glue.shrink_order && not (is_zero glue.shrink)

-- as much of the finite order is in the place of infinite shrink ("TeX: The Program", section 826)
unfoldable pub finite : Glue → Glue
finite glue = if shrinks_infinitely glue then record glue { shrink_order = Normal } else glue

abbrev finite_layer : Node → NodeLayer → Node
finite_layer node (Node-F.Glue glue) = roll-Node (Node-F.Glue (finite glue))
finite_layer node (Node-F.Leaders glue leader) = roll-Node (Node-F.Leaders (finite glue) leader)
finite_layer node _ = node

unfoldable pub finite_node : Node → Node
finite_node node = finite_layer node (out-Node node)

abbrev layer_is_infinite : NodeLayer → Bool
layer_is_infinite (Node-F.Glue glue) = shrinks_infinitely glue
layer_is_infinite (Node-F.Leaders glue leader) = shrinks_infinitely glue
layer_is_infinite _ = false

unfoldable pub is_infinite_node : Node → Bool
is_infinite_node node = layer_is_infinite (out-Node node)

abbrev pub finite_skips : LineSkips → LineSkips
finite_skips skips = record skips { left = finite skips.left; right = finite skips.right }

-- a paragraph of this list, with all that line breaking reads
unfoldable pub sealed : List Node → ParParams → Paragraph
sealed nodes params =
    let list = finished nodes params.skips.par_fill in
    record {
      list = map finite_node list;
      params = record params { skips = finite_skips params.skips };
      infinite = list_any is_infinite_node list || shrinks_infinitely params.skips.left || shrinks_infinitely params.skips.right;
    }
