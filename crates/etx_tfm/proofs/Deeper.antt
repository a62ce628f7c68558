-- To look deeper than the bound changes nothing.
use Rattle.std.proofs.Common.{◌≡◌, ℕ, zero, suc, ◌+◌, ◌-◌, ◌≤◌, Some, sym, ◌∙◌, subst, arith}
use Rattle.etx_matter.specs.declared.font.FontInfo.{FontInfo}
use Rattle.etx_matter.specs.declared.font.LigItem.{LigItem}
use Rattle.etx_matter.specs.Soundness.{IsSound}
use Rattle.etx_matter.specs.Ligatures.{last, deepest}
use Rattle.etx_tfm.proofs.Ending.{stable, each_found, end_from}

still : (font : FontInfo) (depth more : ℕ) (x y z : LigItem) → last font depth x y ≡ Some z → last font (more + depth) x y ≡ Some z
still font depth zero x y z h = subst (λ (n : ℕ). last font n x y ≡ Some z) (omega arith) h
still font depth (suc more) x y z h =
    let e : suc (more + depth) ≡ suc more + depth = omega arith in
    subst (λ (n : ℕ). last font n x y ≡ Some z) e (stable font (more + depth) x y z (still font depth more x y z h))

pub deeper : (font : FontInfo) (depth : ℕ) (x y : LigItem) → IsSound font → deepest font ≤ depth → last font depth x y ≡ last font (deepest font) x y
deeper font depth x y sound more =
    let found : last font (deepest font) x y ≡ Some (end_from font (deepest font) x y) = each_found font x y sound in
    let e : (depth - deepest font) + deepest font ≡ depth = omega (arith, more) in
    subst (λ (n : ℕ). last font n x y ≡ Some (end_from font (deepest font) x y)) e (still font (deepest font) (depth - deepest font) x y (end_from font (deepest font) x y) found)
    ∙ sym found
