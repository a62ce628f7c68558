-- The sums over a list from which its box is made: its natural size, and its stretch and shrink in each order of infinity
-- ("TeX: The Program", sections 646, 650 and 656).
use Rattle.std.specs.Prelude.{◌≤◌, ◌*◌, ℕ, ℤ, pos, ◌+ℤ◌, unsigned_abs, List, map, Option, Some, None}
use Rattle.std.specs.Int.{int_max}
use Rattle.std.specs.List.{fold}
use Rattle.etx_matter.specs.declared.glue.Glue.{Glue}
use Rattle.etx_matter.specs.declared.glue.GlueOrder.{GlueOrder}
use Rattle.etx_matter.specs.declared.glue.GlueOrder.TheVariants.{Normal, Fil, Fill, Filll}
use Rattle.etx_matter.specs.declared.node.Node.{Node}
use Rattle.etx_matter.specs.Sizes.{glue_of}
use Rattle.etx_pack.specs.declared.orders.OrderTotals.{OrderTotals}
use Rattle.etx_pack.specs.declared.totals.Totals.{Totals}
use Rattle.etx_pack.specs.Reaches.{hang_under}

-- the sum of a quantity over a list
abbrev pub sum_over : (Node → ℤ) → List Node → ℤ
sum_over quantity nodes = fold ◌+ℤ◌ (pos 0) (map quantity nodes)

-- the greatest of a quantity over a list, and at least 0
abbrev pub most_over : (Node → ℤ) → List Node → ℤ
most_over quantity nodes = fold int_max (pos 0) (map quantity nodes)

-- nothing of any order
abbrev pub nothing : OrderTotals
nothing = record { normal = pos 0; fil = pos 0; fill = pos 0; filll = pos 0 }

-- so much of one order, and nothing of the others
abbrev pub share : GlueOrder → ℤ → OrderTotals
share Normal amount = record nothing { normal = amount }
share Fil amount = record nothing { fil = amount }
share Fill amount = record nothing { fill = amount }
share Filll amount = record nothing { filll = amount }

-- the two together, order by order
abbrev pub together : OrderTotals → OrderTotals → OrderTotals
together a b = record {
  normal = a.normal +ℤ b.normal;
  fil = a.fil +ℤ b.fil;
  fill = a.fill +ℤ b.fill;
  filll = a.filll +ℤ b.filll;
}

abbrev pub glue_stretch : Option Glue → OrderTotals
glue_stretch None = nothing
glue_stretch (Some glue) = share glue.stretch_order glue.stretch

abbrev pub glue_shrink : Option Glue → OrderTotals
glue_shrink None = nothing
glue_shrink (Some glue) = share glue.shrink_order glue.shrink

-- the stretch of a node, which only glue has
unfoldable pub stretch_of : Node → OrderTotals
stretch_of node = glue_stretch (glue_of node)

-- the shrink of a node, which only glue has
unfoldable pub shrink_of : Node → OrderTotals
shrink_of node = glue_shrink (glue_of node)

-- the sum in each order over a list
abbrev pub total_over : (Node → OrderTotals) → List Node → OrderTotals
total_over quantity nodes = fold together nothing (map quantity nodes)

-- the sums of a list of which each node takes so much
abbrev pub totals_of : (Node → ℤ) → List Node → Totals
totals_of size nodes = record {
  size = sum_over size nodes;
  stretch = total_over stretch_of nodes;
  shrink = total_over shrink_of nodes;
}

-- those sums with a node more, which takes so much
abbrev pub with_node : Totals → ℤ → Node → Totals
with_node t size node = record {
  size = t.size +ℤ size;
  stretch = together t.stretch (stretch_of node);
  shrink = together t.shrink (shrink_of node);
}

-- how much of a vertical list hangs below its last baseline, where so much hangs above it
abbrev pub hang_below : ℤ → List Node → ℤ
hang_below above nodes = fold hang_under above nodes

-- sums of at most so many numbers of 32 bits
pub record Small4 (count : ℕ) (t : OrderTotals) : Type 0 where
  pub normal : unsigned_abs t.normal ≤ count * 2147483648
  pub fil : unsigned_abs t.fil ≤ count * 2147483648
  pub fill : unsigned_abs t.fill ≤ count * 2147483648
  pub filll : unsigned_abs t.filll ≤ count * 2147483648

-- sums over at most so many nodes; a node of a vertical list takes its height and its depth
pub record AreSmall (count : ℕ) (t : Totals) : Type 0 where
  pub size : unsigned_abs t.size ≤ count * 4294967296
  pub stretch : Small4 count t.stretch
  pub shrink : Small4 count t.shrink
