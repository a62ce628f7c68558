-- Values and their arithmetic, in whole numbers without bound; `None` where what is formed is out of its range.
use Rattle.std.specs.Prelude.{ℕ, suc, zero, nat_lt, ◌==◌, Bool, true, false, not, ◌&&◌, if◌then◌else◌, ℤ, pos, negsuc, ◌+ℤ◌, ◌-ℤ◌, ◌*ℤ◌, neg_ℤ, unsigned_abs, Option, Some, None}
use Rattle.std.specs.Option.{option_map}
use Rattle.etx_scaled.specs.Rounding.{nearest}
use Rattle.etx_matter.specs.declared.glue.GlueOrder.{GlueOrder}
use Rattle.etx_matter.specs.declared.glue.GlueOrder.TheVariants.{Normal, Fil, Fill, Filll}
use Rattle.etx_matter.specs.declared.glue.Glue.{Glue}
use Rattle.etx_exprs.specs.declared.value.Value.{Value}
use Rattle.etx_exprs.specs.declared.value.Value.TheVariants as value
use Rattle.etx_exprs.specs.declared.value.ValueKind.{ValueKind}
use Rattle.etx_exprs.specs.declared.value.ValueKind.TheVariants as kind
use Rattle.etx_exprs.specs.declared.step.Step.{Step}
use Rattle.etx_exprs.specs.declared.step.Step.TheVariants.{Times, Over, Scale}
use Rattle.etx_exprs.specs.declared.sum.Amount.{Amount}
use Rattle.etx_exprs.specs.declared.sum.Sign.{Sign}
use Rattle.etx_exprs.specs.declared.sum.Sign.TheVariants as sign

abbrev pub kind_of : Value → ValueKind
kind_of (value.Int n) = kind.Int
kind_of (value.Dim d) = kind.Dim
kind_of (value.Glue g) = kind.Glue
kind_of (value.MuGlue g) = kind.MuGlue

abbrev pub is_of : ValueKind → Value → Bool
is_of kind.Int (value.Int n) = true
is_of kind.Dim (value.Dim d) = true
is_of kind.Glue (value.Glue g) = true
is_of kind.MuGlue (value.MuGlue g) = true
is_of _ _ = false

-- the ranges: sizes of integers are below 2^31, those of dimensions and of each size of glue below 2^30
abbrev pub integer : ℤ → Option ℤ
integer z = if nat_lt (unsigned_abs z) 2_147_483_648 then Some z else None

abbrev pub dimension : ℤ → Option ℤ
dimension z = if nat_lt (unsigned_abs z) 1_073_741_824 then Some z else None

abbrev pub glue_from : Option ℤ → Option Amount → Option Amount → Option Glue
glue_from (Some width) (Some stretch) (Some shrink) =
    Some (record { width = width; stretch = stretch.size; shrink = shrink.size; stretch_order = stretch.order; shrink_order = shrink.order })
glue_from _ _ _ = None

abbrev pub stretch_of : Glue → Amount
stretch_of g = record { size = g.stretch; order = g.stretch_order }

abbrev pub shrink_of : Glue → Amount
shrink_of g = record { size = g.shrink; order = g.shrink_order }

abbrev pub amount_from : Option ℤ → GlueOrder → Option Amount
amount_from None order = None
amount_from (Some size) order = Some (record { size = size; order = order })

-- An integer factor changes each size of a value alike: it multiplies, it divides, or it does both at once. A quotient is the
-- nearest whole number, and of two that are equally near the one further from zero.
abbrev pub divided : ℤ → ℤ → ℤ
divided z (pos d) = nearest z (pos d)
divided z (negsuc d) = nearest (neg_ℤ z) (pos (suc d))

abbrev pub sized : Step → ℤ → ℤ
sized (Times n) z = z *ℤ n
sized (Over d) z = divided z d
sized (Scale n d) z = divided (z *ℤ n) d

abbrev pub is_zero : ℤ → Bool
is_zero (pos zero) = true
is_zero (pos (suc n)) = false
is_zero (negsuc n) = false

abbrev pub divides_by_zero : Step → Bool
divides_by_zero (Times n) = false
divides_by_zero (Over d) = is_zero d
divides_by_zero (Scale n d) = is_zero d

abbrev pub glue_formed : (ℤ → ℤ) → Glue → Option Glue
glue_formed f g = glue_from (dimension (f g.width)) (amount_from (dimension (f g.stretch)) g.stretch_order) (amount_from (dimension (f g.shrink)) g.shrink_order)

abbrev pub formed : (ℤ → ℤ) → Value → Option Value
formed f (value.Int n) = option_map value.Int (integer (f n))
formed f (value.Dim d) = option_map value.Dim (dimension (f d))
formed f (value.Glue g) = option_map value.Glue (glue_formed f g)
formed f (value.MuGlue g) = option_map value.MuGlue (glue_formed f g)

-- an operand is of a range too
unfoldable pub checked : Value → Option Value
checked v = formed (λ z. z) v

abbrev pub stepped : Step → Value → Option Value
stepped step v = if divides_by_zero step then None else formed (sized step) v

-- behind an integer factor; other factors are of no tree
unfoldable pub product : Option Value → Option Value → Option Value
product (Some v) (Some (value.Int n)) = stepped (Times n) v
product _ _ = None

unfoldable pub quotient : Option Value → Option Value → Option Value
quotient (Some v) (Some (value.Int d)) = stepped (Over d) v
quotient _ _ = None

unfoldable pub scaled : Option Value → Option Value → Option Value → Option Value
scaled (Some v) (Some (value.Int n)) (Some (value.Int d)) = stepped (Scale n d) v
scaled _ _ _ = None

-- a stretch or shrink of nothing is finite
abbrev pub normal : Amount → Amount
normal a = if is_zero a.size then record { size = pos 0; order = Normal } else a

abbrev pub normal_glue : Glue → Glue
normal_glue g =
    record {
      width = g.width;
      stretch = (normal (stretch_of g)).size;
      shrink = (normal (shrink_of g)).size;
      stretch_order = (normal (stretch_of g)).order;
      shrink_order = (normal (shrink_of g)).order;
    }

abbrev pub normal_value : Value → Value
normal_value (value.Int n) = value.Int n
normal_value (value.Dim d) = value.Dim d
normal_value (value.Glue g) = value.Glue (normal_glue g)
normal_value (value.MuGlue g) = value.MuGlue (normal_glue g)

unfoldable pub normalized : Option Value → Option Value
normalized v = option_map normal_value v

-- sums and differences
abbrev pub joined : Sign → ℤ → ℤ → ℤ
joined sign.Plus x y = x +ℤ y
joined sign.Minus x y = x -ℤ y

abbrev pub rank : GlueOrder → ℕ
rank Normal = 0
rank Fil = 1
rank Fill = 2
rank Filll = 3

-- Two stretches: of one order they are joined; else the right one counts where it is of a higher order and not nothing,
-- and the left one otherwise. e-TeX takes a right one that counts as it is, in a difference too.
abbrev pub amount_joined : Sign → Amount → Amount → Option Amount
amount_joined s x y =
    if rank x.order == rank y.order
    then option_map normal (amount_from (dimension (joined s x.size y.size)) x.order)
    else (if nat_lt (rank x.order) (rank y.order) && not (is_zero y.size) then Some y else Some (normal x))

abbrev pub glue_joined : Sign → Glue → Glue → Option Glue
glue_joined s g h =
    glue_from (dimension (joined s g.width h.width)) (amount_joined s (stretch_of g) (stretch_of h)) (amount_joined s (shrink_of g) (shrink_of h))

-- values of different kinds are joined in no tree
abbrev pub value_joined : Sign → Value → Value → Option Value
value_joined s (value.Int x) (value.Int y) = option_map value.Int (integer (joined s x y))
value_joined s (value.Dim x) (value.Dim y) = option_map value.Dim (dimension (joined s x y))
value_joined s (value.Glue x) (value.Glue y) = option_map value.Glue (glue_joined s x y)
value_joined s (value.MuGlue x) (value.MuGlue y) = option_map value.MuGlue (glue_joined s x y)
value_joined _ _ _ = None

unfoldable pub sum_of : Sign → Option Value → Option Value → Option Value
sum_of s (Some x) (Some y) = value_joined s x y
sum_of _ _ _ = None
