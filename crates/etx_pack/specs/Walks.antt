-- All sums of a list together, as one walk over it gives them.
use Rattle.std.specs.Prelude.{pos, List}
use Rattle.std.specs.Int.{int_max}
use Rattle.etx_matter.specs.declared.node.Node.{Node}
use Rattle.etx_matter.specs.Sizes.{width_of}
use Rattle.etx_pack.specs.declared.totals.Totals.{Totals}
use Rattle.etx_pack.specs.declared.walks.HorizontalSizes.{HorizontalSizes}
use Rattle.etx_pack.specs.declared.walks.VerticalSizes.{VerticalSizes}
use Rattle.etx_pack.specs.Reaches.{rise_of, fall_of, breadth_of, length_of, hang_under}
use Rattle.etx_pack.specs.Sums.{nothing, with_node, totals_of, most_over, hang_below}

abbrev pub no_totals : Totals
no_totals = record { size = pos 0; stretch = nothing; shrink = nothing }

abbrev pub horizontal_start : HorizontalSizes
horizontal_start = record { along = no_totals; height = pos 0; depth = pos 0 }

-- with a node more
abbrev pub horizontal_with : HorizontalSizes → Node → HorizontalSizes
horizontal_with sizes node = record {
  along = with_node sizes.along (width_of node) node;
  height = int_max sizes.height (rise_of node);
  depth = int_max sizes.depth (fall_of node);
}

abbrev pub horizontal_sizes : List Node → HorizontalSizes
horizontal_sizes nodes = record {
  along = totals_of width_of nodes;
  height = most_over rise_of nodes;
  depth = most_over fall_of nodes;
}

abbrev pub vertical_start : VerticalSizes
vertical_start = record { along = no_totals; width = pos 0; depth = pos 0 }

-- with a node more
abbrev pub vertical_with : VerticalSizes → Node → VerticalSizes
vertical_with sizes node = record {
  along = with_node sizes.along (length_of node) node;
  width = int_max sizes.width (breadth_of node);
  depth = hang_under sizes.depth node;
}

abbrev pub vertical_sizes : List Node → VerticalSizes
vertical_sizes nodes = record {
  along = totals_of length_of nodes;
  width = most_over breadth_of nodes;
  depth = hang_below (pos 0) nodes;
}
