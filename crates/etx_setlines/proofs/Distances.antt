-- Glue between two lines, by what their sizes leave of the distance.
use Rattle.std.proofs.Common.{◌≡◌, ℤ, ap, ◌∙◌}
use Rattle.std.specs.Prelude.{◌-ℤ◌}
use Rattle.etx_matter.specs.declared.glue.Glue.{Glue}
use Rattle.etx_sealed.specs.declared.params.LineSkips.{LineSkips}
use Rattle.etx_setlines.specs.Penalties.{glue_by, glue_under}

pub under_by : (skips : LineSkips) (depth height given width base above below : ℤ) (result : Glue)
    → result ≡ glue_by skips given → given ≡ width → width ≡ base -ℤ above -ℤ below → base ≡ skips.baseline.width → above ≡ depth → below ≡ height
    → result ≡ glue_under skips depth height
unfolding glue_under
under_by skips depth height given width base above below result e g w b a h =
    e
    ∙ ap (glue_by skips) (g ∙ w)
    ∙ ap (λ (it : ℤ). glue_by skips (it -ℤ above -ℤ below)) b
    ∙ ap (λ (it : ℤ). glue_by skips (skips.baseline.width -ℤ it -ℤ below)) a
    ∙ ap (λ (it : ℤ). glue_by skips (skips.baseline.width -ℤ depth -ℤ it)) h
