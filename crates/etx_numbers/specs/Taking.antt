-- What becomes of an amount that is known, where an integer, a dimension or glue is wanted ("TeX: The Program", sections 413 to 431,
-- 440, 449 to 451, 455, 460 and 461).
use Rattle.std.specs.Prelude.{ℕ, ◌+◌, ℤ, pos, neg_ℤ, ◌+ℤ◌, ◌*ℤ◌, int_div, int_lt, unsigned_abs, Bool, true, false, not, nat_lt, Option, Some, None, List, codes, if◌then◌else◌}
use Rattle.std.specs.Int.{int_min}
use Rattle.etx_exprs.specs.declared.value.Value.{Value as Amount}
use Rattle.etx_exprs.specs.declared.value.Value.TheVariants as amount
use Rattle.etx_matter.specs.declared.glue.Glue.{Glue}
use Rattle.etx_matter.specs.declared.glue.GlueOrder.TheVariants.{Normal}
use Rattle.etx_state.specs.declared.taker.Length.{Length}
use Rattle.etx_state.specs.declared.taker.Factor.{Factor}
use Rattle.etx_state.specs.declared.taker.Want.{Want}
use Rattle.etx_state.specs.declared.taker.Want.TheVariants as want
use Rattle.etx_state.specs.declared.taker.NumberScan.{NumberScan}
use Rattle.etx_state.specs.declared.taker.NumberScan.TheVariants as number
use Rattle.etx_state.specs.declared.taker.Outer.TheVariants as outer
use Rattle.etx_answers.specs.declared.read.Read.{Read}
use Rattle.etx_answers.specs.Reads.{goes_on, gives, failing, behind}

-- the number with the other sign, which is at most 2^31-1
abbrev pub negated : ℤ → ℤ
negated n = int_min (neg_ℤ n) (pos 2147483647)

abbrev pub signed : Bool → ℤ → ℤ
signed true n = negated n
signed false n = n

-- an amount as one number: glue counts as its width
abbrev pub amount_in : Amount → ℤ
amount_in (amount.Int n) = n
amount_in (amount.Dim n) = n
amount_in (amount.Glue g) = g.width
amount_in (amount.MuGlue g) = g.width

abbrev pub width_glue : ℤ → Glue
width_glue w = record { width = w; stretch = pos 0; shrink = pos 0; stretch_order = Normal; shrink_order = Normal }

-- an amount as glue
abbrev pub glue_in : Amount → Glue
glue_in (amount.Int n) = width_glue n
glue_in (amount.Dim n) = width_glue n
glue_in (amount.Glue g) = g
glue_in (amount.MuGlue g) = g

abbrev pub glue_amount : Bool → Glue → Amount
glue_amount is_mu g = if is_mu then amount.MuGlue g else amount.Glue g

abbrev pub negated_glue : Bool → Glue → Glue
negated_glue true g = record g { width = negated g.width; stretch = negated g.stretch; shrink = negated g.shrink }
negated_glue false g = g

abbrev pub incompatible : Read → Read
incompatible r = failing (codes "Incompatible glue units") r

-- units that don't fit are an error, behind which the amount is taken as another kind
abbrev pub again : Want → Amount → Read
again w a = incompatible (behind (outer.Again w) (gives a))

-- ---- dimensions

abbrev pub too_large : Bool → Read
too_large is_negative = failing (codes "Dimension too large") (gives (amount.Dim (signed is_negative (pos 1073741823))))

-- the end of a dimension: its size is below 2^30; none is too large
unfoldable pub attached : Bool → Option ℤ → Read
attached is_negative None = too_large is_negative
attached is_negative (Some size) = if nat_lt (unsigned_abs size) 1073741824 then gives (amount.Dim (signed is_negative size)) else too_large is_negative

abbrev pub differ : Bool → Bool → Bool
differ true b = not b
differ false b = b

-- behind a number its unit comes; its sign is that of the dimension
abbrev pub begin_units : Length → ℤ → NumberScan
begin_units l n = number.Unit (record l { is_negative = differ l.is_negative (int_lt n (pos 0)) }) (record { whole = signed (int_lt n (pos 0)) n; fraction = pos 0 }) false

-- so many of a unit of this size: the part of the fraction is cut off
abbrev pub dimension : ℤ → Option ℤ
dimension z = if nat_lt (unsigned_abs z) 1073741824 then Some z else None

abbrev pub unit_total : Factor → ℤ → Option ℤ
unit_total f u = dimension (u *ℤ f.whole +ℤ int_div (u *ℤ f.fraction) (pos 65536))

-- ---- by what is wanted

abbrev pub is_mu_glue : Amount → Bool
is_mu_glue (amount.Int n) = false
is_mu_glue (amount.Dim n) = false
is_mu_glue (amount.Glue g) = false
is_mu_glue (amount.MuGlue g) = true

unfoldable pub integer_taken : Bool → Amount → Read
integer_taken is_negative a =
    let read = gives (amount.Int (signed is_negative (amount_in a))) in
    if is_mu_glue a then incompatible read else read

-- a dimension in mu: an amount of another kind counts as a number of mu
abbrev pub mu_dimension_taken : Length → Amount → Read
mu_dimension_taken l (amount.Int n) = goes_on (begin_units l n)
mu_dimension_taken l (amount.Dim n) = incompatible (goes_on (begin_units l n))
mu_dimension_taken l (amount.Glue g) = incompatible (goes_on (begin_units l g.width))
mu_dimension_taken l (amount.MuGlue g) = attached l.is_negative (Some g.width)

abbrev pub plain_dimension_taken : Length → Amount → Read
plain_dimension_taken l (amount.Int n) = goes_on (begin_units l n)
plain_dimension_taken l (amount.Dim n) = attached l.is_negative (Some n)
plain_dimension_taken l (amount.Glue g) = attached l.is_negative (Some g.width)
plain_dimension_taken l (amount.MuGlue g) = again (want.Dimension l) (amount.Dim g.width)

unfoldable pub dimension_taken : Length → Amount → Read
dimension_taken l a = if l.is_mu then mu_dimension_taken l a else plain_dimension_taken l a

-- an internal quantity as a unit: in mu only math glue, else all but that
abbrev pub as_unit : Bool → ℤ → Amount
as_unit is_mu n = if is_mu then amount.MuGlue (width_glue n) else amount.Dim n

unfoldable pub unit_taken : Length → Factor → Amount → Read
unit_taken l f a =
    if differ l.is_mu (is_mu_glue a)
    then again (want.Unit l f) (as_unit l.is_mu (amount_in a))
    else attached l.is_negative (unit_total f (amount_in a))

abbrev pub incompatible_if : Bool → Read → Read
incompatible_if true r = incompatible r
incompatible_if false r = r

abbrev pub behind_width : Bool → ℤ → Read
behind_width is_mu w = goes_on (number.Plus (width_glue w) is_mu)

abbrev pub width_units : Bool → Bool → ℤ → Read
width_units is_negative is_mu n = behind (outer.Width is_mu) (goes_on (begin_units (record { is_negative = is_negative; is_mu = is_mu; is_infinite = false }) n))

-- an integer is the number of the width's unit; a dimension is the width; glue is all of it
unfoldable pub glue_taken : Bool → Bool → Amount → Read
glue_taken is_negative is_mu (amount.Int n) = width_units is_negative is_mu n
glue_taken is_negative is_mu (amount.Dim n) = incompatible_if is_mu (behind_width is_mu (signed is_negative n))
glue_taken is_negative is_mu (amount.Glue g) = incompatible_if is_mu (gives (glue_amount is_mu (negated_glue is_negative g)))
glue_taken is_negative is_mu (amount.MuGlue g) = incompatible_if (not is_mu) (gives (glue_amount is_mu (negated_glue is_negative g)))

unfoldable pub taken : Want → Amount → Read
taken (want.Integer is_negative) a = integer_taken is_negative a
taken (want.Dimension l) a = dimension_taken l a
taken (want.Unit l f) a = unit_taken l f a
taken (want.Glue is_negative is_mu) a = glue_taken is_negative is_mu a
taken want.Whole a = gives a
