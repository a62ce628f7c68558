-- A program, one step further.
use Rattle.std.proofs.Common.{◌≡◌, ℕ, suc, ◌+◌, ◌-◌, ◌<◌, List, [], ◌∷◌, length, drop, refl, ap, ◌∙◌, arith}
use Rattle.std.proofs.lemmas.List.{drop_more}
use Rattle.etx_matter.specs.declared.font.FontInfo.{FontInfo}
use Rattle.etx_matter.specs.declared.font.LigItem.{LigItem}
use Rattle.etx_matter.specs.declared.font.LigStep.{LigStep}
use Rattle.etx_matter.specs.Ligatures.{found_in}

found_in-suc : (font : FontInfo) (right : LigItem) (skipped : ℕ) (steps : List LigStep) (i : ℕ) → i < length steps
    → found_in font right (suc skipped) (drop i steps) ≡ found_in font right skipped (drop (i + 1) steps)
unfolding found_in
found_in-suc font right skipped [] i k = absurd (omega (arith, k))
found_in-suc font right skipped (step ∷ steps) i k = rw (drop_more (step ∷ steps) i step k) refl

pub found_in-skip : (font : FontInfo) (right : LigItem) (skipped : ℕ) (steps : List LigStep) (i : ℕ) → 0 < skipped → i < length steps
    → found_in font right skipped (drop i steps) ≡ found_in font right (skipped - 1) (drop (i + 1) steps)
found_in-skip font right skipped steps i h k =
    let e : skipped ≡ suc (skipped - 1) = omega arith in
    ap (λ n. found_in font right n (drop i steps)) e ∙ found_in-suc font right (skipped - 1) steps i k
