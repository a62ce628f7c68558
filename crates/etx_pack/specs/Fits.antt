-- How the glue of a list is set so that it comes to a size, and what is reported of that ("TeX: The Program", sections 657
-- to 667 and 672 to 678, with exact fractions).
use Rattle.std.specs.Prelude.{zero, suc, Bool, true, false, ◌&&◌, ◌||◌, not, if◌then◌else◌, ℤ, pos, negsuc, ◌-ℤ◌, neg_ℤ, unsigned_abs, int_lt, Option, Some, None}
use Rattle.std.specs.Int.{int_max, int_min}
use Rattle.etx_scaled.specs.Badness.{badness_of}
use Rattle.etx_matter.specs.declared.glue.GlueOrder.{GlueOrder}
use Rattle.etx_matter.specs.declared.glue.GlueOrder.TheVariants.{Normal, Fil, Fill, Filll}
use Rattle.etx_matter.specs.declared.sizes.Report.{Report}
use Rattle.etx_matter.specs.declared.sizes.ReportKind.TheVariants.{Overfull, Underfull, Loose, Tight}
use Rattle.etx_matter.specs.GlueSets.{GlueSetting}
use Rattle.etx_pack.specs.declared.orders.OrderTotals.{OrderTotals}
use Rattle.etx_pack.specs.declared.fitting.Packing.{Packing}
use Rattle.etx_pack.specs.declared.fitting.Fit.{Fit}

-- A sum is exact, and stored as a size of -(2^31 - 1) to 2^31 - 1 sp: one beyond that as the nearest of these. So the
-- negative of what is stored is a size, too.
unfoldable pub within_32_bits : ℤ → ℤ
within_32_bits z = int_min (int_max z (negsuc 2_147_483_646)) (pos 2_147_483_647)

abbrev pub is_zero : ℤ → Bool
is_zero (pos zero) = true
is_zero (pos (suc n)) = false
is_zero (negsuc n) = false

-- the highest order of which there is some; the finite one where there is none of any
unfoldable pub highest : OrderTotals → GlueOrder
highest t =
    if is_zero t.filll then (if is_zero t.fill then (if is_zero t.fil then Normal else Fil) else Fill) else Filll

-- how much there is of one order
abbrev pub amount_of : GlueOrder → OrderTotals → ℤ
amount_of Normal t = t.normal
amount_of Fil t = t.fil
amount_of Fill t = t.fill
amount_of Filll t = t.filll

-- all glue keeps its natural width
abbrev pub unset : GlueSetting
unset = record { stretching = false; order = Normal; num = pos 0; den = pos 1 }

-- the fraction by which `need` is spread over glue of which there is `total`; its denominator is positive. Where there is
-- no such glue, none is set.
unfoldable pub fraction : Bool → GlueOrder → ℤ → ℤ → GlueSetting
fraction stretching order need (pos zero) = unset
fraction stretching order need (pos (suc n)) = record { stretching = stretching; order = order; num = need; den = pos (suc n) }
fraction stretching order need (negsuc n) =
    record { stretching = stretching; order = order; num = neg_ℤ need; den = pos (suc n) }

-- finite glue in a list that isn't empty is judged; infinite glue is never bad
unfoldable pub is_judged : Packing → GlueOrder → Bool
is_judged p Normal = not p.is_empty
is_judged p Fil = false
is_judged p Fill = false
is_judged p Filll = false

-- glue that is set so, of which nothing is to be said
abbrev pub quiet : GlueSetting → Fit
quiet set = record { set = set; badness = pos 0; report = None; rule = None }

-- how bad it is to set glue of which there is `total` so that it comes to `need` more or less, both as they would be stored
unfoldable pub badness_between : ℤ → ℤ → ℤ
badness_between need total = pos (badness_of (unsigned_abs (within_32_bits need)) (within_32_bits total))

-- A list that stretches is told of where its badness is above the limit: as underfull where it is above 100, and else as
-- loose (sections 660 and 674).
unfoldable pub stretch_report : Packing → ℤ → Option Report
stretch_report p badness =
    if int_lt p.limits.badness badness then Some (record {
      kind = if int_lt (pos 100) badness then Underfull else Loose;
      vertical = p.vertical;
      number = badness;
    }) else None

-- a list that shrinks is told of as tight where its badness is above the limit (sections 667 and 678)
unfoldable pub shrink_report : Packing → ℤ → Option Report
shrink_report p badness =
    if int_lt p.limits.badness badness then Some (record { kind = Tight; vertical = p.vertical; number = badness }) else None

-- a box that is too full by `over` is told of where that is more than the fuzz, or where the limit on badness is below 100
-- (sections 666 and 677)
unfoldable pub overfull_report : Packing → ℤ → Option Report
overfull_report p over =
    if int_lt p.limits.fuzz over || int_lt p.limits.badness (pos 100) then Some (record {
      kind = Overfull;
      vertical = p.vertical;
      number = within_32_bits over;
    }) else None

-- the width of the rule that marks a horizontal box that is too full by more than the fuzz (section 666)
unfoldable pub overfull_rule : Packing → ℤ → Option ℤ
overfull_rule p over =
    if not p.vertical && int_lt p.limits.fuzz over && int_lt (pos 0) p.limits.rule then Some p.limits.rule else None

-- the glue shrinks by all that it can, and that isn't enough
unfoldable pub overfull : Packing → ℤ → Fit
overfull p over = record {
  set = record { stretching = false; order = Normal; num = pos 1; den = pos 1 };
  badness = pos 1_000_000;
  report = overfull_report p over;
  rule = overfull_rule p over;
}

abbrev pub loosened : Packing → GlueSetting → ℤ → Fit
loosened p set badness = record { set = set; badness = badness; report = stretch_report p badness; rule = None }

abbrev pub tightened : Packing → GlueSetting → ℤ → Fit
tightened p set badness = record { set = set; badness = badness; report = shrink_report p badness; rule = None }

-- the list is too short by `need`, and there is `total` of the governing order
abbrev pub stretched_by : Packing → GlueOrder → ℤ → ℤ → Fit
stretched_by p order need total =
    if is_judged p order
    then loosened p (fraction true order need total) (badness_between need total)
    else quiet (fraction true order need total)

-- finite glue of which there is `total` shrinks by `need`, or by all that it can
unfoldable pub shrunk_finitely : Packing → GlueOrder → ℤ → ℤ → Fit
shrunk_finitely p order need total =
    if int_lt total need
    then overfull p (need -ℤ total)
    else tightened p (fraction false order need total) (badness_between need total)

-- the list is too long by `need`, and there is `total` of the governing order
abbrev pub shrunk_by : Packing → GlueOrder → ℤ → ℤ → Fit
shrunk_by p order need total =
    if is_judged p order then shrunk_finitely p order need total else quiet (fraction false order need total)

unfoldable pub stretched : Packing → ℤ → OrderTotals → Fit
stretched p need totals = stretched_by p (highest totals) need (amount_of (highest totals) totals)

unfoldable pub shrunk : Packing → ℤ → OrderTotals → Fit
shrunk p need totals = shrunk_by p (highest totals) need (amount_of (highest totals) totals)

-- the list has to grow by `excess`, or to fall where that is negative
unfoldable pub fitted : Packing → ℤ → OrderTotals → OrderTotals → Fit
fitted p excess stretch shrink =
    if int_lt (pos 0) excess then stretched p excess stretch
    else (if int_lt excess (pos 0) then shrunk p (neg_ℤ excess) shrink else quiet unset)
