-- What a line measures: sums over the nodes that stand in it.
use Rattle.std.specs.Prelude.{ℕ, ◌*◌, ◌≤◌, ℤ, pos, ◌+ℤ◌, ◌-ℤ◌, unsigned_abs, List, [], ◌∷◌, Option, Some, None}
use Rattle.etx_matter.specs.declared.glue.Glue.{Glue}
use Rattle.etx_matter.specs.declared.node.Node.{Node}
use Rattle.etx_matter.specs.Sizes.{width_of, glue_of}
use Rattle.etx_pack.specs.declared.orders.OrderTotals.{OrderTotals}
use Rattle.etx_pack.specs.Sums.{nothing, share, together, stretch_of, Small4}
use Rattle.etx_sealed.specs.declared.measure.Measure.{Measure}

abbrev pub none : Measure
none = record { natural = pos 0; stretch = nothing; shrink = pos 0 }

abbrev pub plus : Measure → Measure → Measure
plus a b = record {
  natural = a.natural +ℤ b.natural;
  stretch = together a.stretch b.stretch;
  shrink = a.shrink +ℤ b.shrink;
}

abbrev pub less_stretch : OrderTotals → OrderTotals → OrderTotals
less_stretch a b = record {
  normal = a.normal -ℤ b.normal;
  fil = a.fil -ℤ b.fil;
  fill = a.fill -ℤ b.fill;
  filll = a.filll -ℤ b.filll;
}

-- the first without the second
abbrev pub less : Measure → Measure → Measure
less a b = record {
  natural = a.natural -ℤ b.natural;
  stretch = less_stretch a.stretch b.stretch;
  shrink = a.shrink -ℤ b.shrink;
}

abbrev pub glue_shrink : Option Glue → ℤ
glue_shrink None = pos 0
glue_shrink (Some glue) = glue.shrink

-- of a node: glue has its natural width
abbrev pub measure_of : Node → Measure
measure_of node = record { natural = width_of node; stretch = stretch_of node; shrink = glue_shrink (glue_of node) }

-- of glue at the side of a line
abbrev pub glue_measure : Glue → Measure
glue_measure glue = record { natural = glue.width; stretch = share glue.stretch_order glue.stretch; shrink = glue.shrink }

-- of all these nodes
unfoldable pub measure_all : List Node → Measure
measure_all [] = none
measure_all (node ∷ nodes) = plus (measure_of node) (measure_all nodes)

-- each sum is one of so many numbers of 32 bits
pub record IsSmall (count : ℕ) (m : Measure) : Type 0 where
  pub natural : unsigned_abs m.natural ≤ count * 2147483648
  pub stretch : Small4 count m.stretch
  pub shrink : unsigned_abs m.shrink ≤ count * 2147483648
