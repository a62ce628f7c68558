-- The boxes that lists are packed into ("TeX: The Program", sections 649 and 668).
use Rattle.std.specs.Prelude.{Bool, true, false, min, ℤ, pos, ◌+ℤ◌, ◌-ℤ◌, List, [], ◌∷◌, ◌++◌, Option, Some, None}
use Rattle.std.specs.Int.{int_min}
use Rattle.etx_matter.specs.declared.node.BoxNode.{BoxNode}
use Rattle.etx_matter.specs.declared.node.InnerList.{InnerList}
use Rattle.etx_matter.specs.declared.node.Node.{Node, Node-F, roll-Node}
use Rattle.etx_matter.specs.declared.sizes.Goal.{Goal}
use Rattle.etx_matter.specs.declared.sizes.Goal.TheVariants.{Natural, Exactly, Spread}
use Rattle.etx_matter.specs.declared.sizes.Limits.{Limits}
use Rattle.etx_matter.specs.GlueSets.{GlueSetting}
use Rattle.etx_matter.specs.Nests.{list_nesting}
use Rattle.etx_pack.specs.declared.boxes.BoxSizes.{BoxSizes}
use Rattle.etx_pack.specs.declared.boxes.Packed.{Packed}
use Rattle.etx_pack.specs.declared.fitting.Fit.{Fit}
use Rattle.etx_pack.specs.declared.fitting.Packing.{Packing}
use Rattle.etx_pack.specs.declared.totals.Totals.{Totals}
use Rattle.etx_pack.specs.declared.walks.HorizontalSizes.{HorizontalSizes}
use Rattle.etx_pack.specs.declared.walks.VerticalSizes.{VerticalSizes}
use Rattle.etx_pack.specs.Walks.{horizontal_sizes, vertical_sizes}
use Rattle.etx_pack.specs.Fits.{within_32_bits, fitted}

-- the size that a list of this natural size is packed to
unfoldable pub goal_size : Goal → ℤ → ℤ
goal_size Natural natural = natural
goal_size (Exactly size) natural = size
goal_size (Spread more) natural = natural +ℤ more

unfoldable pub is_empty : List Node → Bool
is_empty [] = true
is_empty (node ∷ nodes) = false

-- a rule of this width that is as high and as deep as the box around it
unfoldable pub rule_of : ℤ → Node
rule_of width = roll-Node (Node-F.Rule (record { width = Some width; height = None; depth = None }))

-- the list with the rule that marks it, if it is marked
unfoldable pub marked : List Node → Option ℤ → List Node
marked nodes None = nodes
marked nodes (Some width) = nodes ++ rule_of width ∷ []

abbrev pub inner : List Node → InnerList
inner nodes = record { nesting = min (list_nesting nodes) 1073741824; nodes = nodes }

-- a box of these sizes around a list whose glue is set
unfoldable pub box_around : Bool → BoxSizes → GlueSetting → List Node → BoxNode
box_around vertical sizes set nodes = record {
  vertical = vertical;
  width = sizes.width;
  height = sizes.height;
  depth = sizes.depth;
  shift = pos 0;
  set = set;
  list = inner nodes;
}

-- a box, and what is to be told of its glue
unfoldable pub packed_so : Fit → BoxNode → Packed
packed_so fit node = record { node = node; badness = fit.badness; report = fit.report }

-- how a list of this natural size is set
unfoldable pub fit_to : Packing → Goal → Totals → ℤ → Fit
fit_to packing goal sums natural = fitted packing (goal_size goal natural -ℤ natural) sums.stretch sums.shrink

-- the sizes of the box of a horizontal list
unfoldable pub horizontal_box_sizes : Goal → HorizontalSizes → BoxSizes
horizontal_box_sizes goal natural = record {
  width = within_32_bits (goal_size goal natural.along.size);
  height = within_32_bits natural.height;
  depth = within_32_bits natural.depth;
}

unfoldable pub horizontal_fit : Bool → Goal → Limits → HorizontalSizes → Fit
horizontal_fit empty goal limits natural =
    fit_to (record { vertical = false; is_empty = empty; limits = limits }) goal natural.along natural.along.size

unfoldable pub hpacked : List Node → Goal → Limits → Packed
hpacked nodes goal limits =
    let natural = horizontal_sizes nodes in
    let fit = horizontal_fit (is_empty nodes) goal limits natural in
    packed_so fit (box_around false (horizontal_box_sizes goal natural) fit.set (marked nodes fit.rule))

-- what hangs below the last baseline belongs to the depth, up to the greatest depth that is allowed (section 668)
unfoldable pub vertical_depth : ℤ → VerticalSizes → ℤ
vertical_depth max_depth natural = int_min natural.depth max_depth

-- all the rest of a vertical list, what hangs deeper among it, belongs to the height
unfoldable pub vertical_height : ℤ → VerticalSizes → ℤ
vertical_height max_depth natural = natural.along.size -ℤ vertical_depth max_depth natural

unfoldable pub vertical_box_sizes : Goal → ℤ → VerticalSizes → BoxSizes
vertical_box_sizes goal max_depth natural = record {
  width = within_32_bits natural.width;
  height = within_32_bits (goal_size goal (vertical_height max_depth natural));
  depth = vertical_depth max_depth natural;
}

unfoldable pub vertical_fit : Bool → Goal → ℤ → Limits → VerticalSizes → Fit
vertical_fit empty goal max_depth limits natural =
    fit_to (record { vertical = true; is_empty = empty; limits = limits }) goal natural.along (vertical_height max_depth natural)

unfoldable pub vpacked : List Node → Goal → ℤ → Limits → Packed
vpacked nodes goal max_depth limits =
    let natural = vertical_sizes nodes in
    let fit = vertical_fit (is_empty nodes) goal max_depth limits natural in
    packed_so fit (box_around true (vertical_box_sizes goal max_depth natural) fit.set nodes)
