-- What is told of a line, put behind what was told.
use Rattle.std.proofs.Common.{◌≡◌, ℕ, List, [], ◌∷◌, ◌++◌, ap, ◌∙◌, append_assoc}
use Rattle.etx_matter.specs.declared.deed.Audience.{Audience}
use Rattle.etx_matter.specs.declared.deed.Deed.{Deed}
use Rattle.etx_matter.specs.declared.deed.Deed.TheVariants as deed
use Rattle.etx_matter.specs.declared.sizes.Report.{Report}
use Rattle.etx_sealed.specs.declared.params.ParParams.{ParParams}
use Rattle.etx_linebreak.specs.Told.{audience_in, report_text, told_of}

pub told_two : (p : ParParams) (it : Report) (told one two : List Deed) (text : List ℕ) (audience : Audience)
    → audience ≡ audience_in p.mode → text ≡ report_text p it → one ≡ told ++ deed.Fresh audience ∷ [] → two ≡ one ++ deed.Text text audience ∷ []
    → two ≡ told ++ told_of p it
unfolding told_of
told_two p it told one two text audience a t e f =
    f
    ∙ ap (λ (xs : List Deed). xs ++ deed.Text text audience ∷ []) e
    ∙ append_assoc told (deed.Fresh audience ∷ []) (deed.Text text audience ∷ [])
    ∙ ap (λ (who : Audience). told ++ (deed.Fresh who ∷ (deed.Text text who ∷ []))) a
    ∙ ap (λ (it : List ℕ). told ++ (deed.Fresh (audience_in p.mode) ∷ (deed.Text it (audience_in p.mode) ∷ []))) t
