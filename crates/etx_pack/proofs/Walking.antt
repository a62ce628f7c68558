-- Sums on the way along a list.
use Rattle.std.proofs.Common.{◌≡◌, ℕ, ℤ, ◌+◌, ◌<◌, List, length, get_or, drop, map, ◌+ℤ◌, ap, sym, ◌∙◌}
use Rattle.std.proofs.lemmas.List.{at_drop_more}
use Rattle.std.specs.Int.{int_max}
use Rattle.std.specs.List.{fold}
use Rattle.etx_matter.specs.declared.node.Node.{Node}
use Rattle.etx_matter.specs.Sizes.{width_of}
use Rattle.etx_pack.specs.declared.totals.Totals.{Totals}
use Rattle.etx_pack.specs.declared.walks.HorizontalSizes.{HorizontalSizes}
use Rattle.etx_pack.specs.declared.walks.VerticalSizes.{VerticalSizes}
use Rattle.etx_pack.specs.Reaches.{rise_of, fall_of, breadth_of, length_of}
use Rattle.etx_pack.specs.Sums.{together, stretch_of, shrink_of, hang_below}
use Rattle.etx_pack.specs.Walks.{horizontal_with, vertical_with}

-- sums of which there are some already, with those of a list of which each node takes so much
abbrev pub sums_from : Totals → (Node → ℤ) → List Node → Totals
sums_from before size nodes = record {
  size = fold ◌+ℤ◌ before.size (map size nodes);
  stretch = fold together before.stretch (map stretch_of nodes);
  shrink = fold together before.shrink (map shrink_of nodes);
}

abbrev pub horizontal_from : HorizontalSizes → List Node → HorizontalSizes
horizontal_from before nodes = record {
  along = sums_from before.along width_of nodes;
  height = fold int_max before.height (map rise_of nodes);
  depth = fold int_max before.depth (map fall_of nodes);
}

abbrev pub vertical_from : VerticalSizes → List Node → VerticalSizes
vertical_from before nodes = record {
  along = sums_from before.along length_of nodes;
  width = fold int_max before.width (map breadth_of nodes);
  depth = hang_below before.depth nodes;
}

pub horizontal_step : (before : HorizontalSizes) (nodes : List Node) (i : ℕ) (node : Node) → i < length nodes → node ≡ get_or nodes i node → horizontal_from before (drop i nodes) ≡ horizontal_from (horizontal_with before node) (drop (i + 1) nodes)
horizontal_step before nodes i node h e =
    at_drop_more (horizontal_from before) nodes i node h ∙ ap (λ n. horizontal_from (horizontal_with before n) (drop (i + 1) nodes)) (sym e)

pub vertical_step : (before : VerticalSizes) (nodes : List Node) (i : ℕ) (node : Node) → i < length nodes → node ≡ get_or nodes i node → vertical_from before (drop i nodes) ≡ vertical_from (vertical_with before node) (drop (i + 1) nodes)
vertical_step before nodes i node h e =
    at_drop_more (vertical_from before) nodes i node h ∙ ap (λ n. vertical_from (vertical_with before n) (drop (i + 1) nodes)) (sym e)
