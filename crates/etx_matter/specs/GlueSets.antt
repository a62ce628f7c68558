-- How the glue of a box is set, as contracts see it.
use Rattle.std.specs.Prelude.{Bool, ℤ}
use Rattle.etx_matter.specs.declared.glue.GlueOrder.{GlueOrder}

pub record GlueSetting : Type 0 where
  pub stretching : Bool
  pub order : GlueOrder
  pub num : ℤ
  pub den : ℤ
