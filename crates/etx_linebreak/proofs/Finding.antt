-- One of the later passes finds breaks.
use Rattle.std.proofs.Common.{◌≡◌, ℕ, inl, inr, ◌⊎◌, true, List, Option, Some, None, refl, ap}
use Rattle.std.specs.Prelude.{is_some}
use Rattle.etx_sealed.specs.Paragraphs.{Paragraph}
use Rattle.etx_linebreak.specs.Choices.{threshold, second_breaks, third_breaks, or_else, later_breaks, AreFound}
use Rattle.etx_linebreak.specs.Passes.{pass_over}
use Rattle.etx_linebreak.proofs.Finishing.{final_finds}

third_finds : (p : Paragraph) → is_some (third_breaks p) ≡ true
unfolding third_breaks pass_over
third_finds p = final_finds (pass_over p (threshold p.params.breaks.tolerance) p.params.breaks.emergency_stretch true) refl

by_either : (second third : Option (List ℕ)) (breaks : List ℕ) → is_some third ≡ true → breaks ≡ or_else second third
    → (Some breaks ≡ second) ⊎ (Some breaks ≡ third)
by_either None None breaks some e = absurd cc
by_either None (Some found) breaks some e = inr (ap Some e)
by_either (Some found) third breaks some e = inl (ap Some e)

pub later_found : (p : Paragraph) (breaks : List ℕ) → breaks ≡ later_breaks p → AreFound p breaks
unfolding later_breaks
later_found p breaks e = by_either (second_breaks p) (third_breaks p) breaks (third_finds p) e
