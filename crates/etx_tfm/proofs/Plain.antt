-- A font none of whose ligatures leads on doesn't come round.
use Rattle.std.proofs.Common.{◌≡◌, ℕ, zero, suc, ◌-◌, Bool, true, false, ◌||◌, List, [], ◌∷◌, drop, Option, None, Some, refl, sym, subst}
use Rattle.std.specs.Prelude.{if◌then◌else◌}
use Rattle.std.specs.Option.{is_none, option_and_then}
use Rattle.etx_matter.specs.declared.font.PairAction.{PairAction}
use Rattle.etx_matter.specs.declared.font.PairAction.TheVariants.{Kern, Ligature}
use Rattle.etx_matter.specs.declared.font.FontInfo.{FontInfo}
use Rattle.etx_matter.specs.declared.font.LigItem.{LigItem}
use Rattle.etx_matter.specs.declared.font.LigItem.TheVariants.{Boundary, Glyph}
use Rattle.etx_matter.specs.declared.font.LigStep.{LigStep}
use Rattle.etx_matter.specs.declared.font.LigStep.TheVariants.{Pair, Elsewhere}
use Rattle.etx_matter.specs.Ligatures.{action_between, found_in, names, program_of, by_pair, last, some_item, deepest, comes_round}
use Rattle.etx_tfm.specs.Leading.{leads_on, some_lead}
use Rattle.etx_tfm.proofs.Ending.{all_off, deepest-suc}

or_left : (a b : Bool) → (a || b) ≡ false → a ≡ false
or_left false b h = refl
or_left true b h = absurd (cc)

or_right : (a b : Bool) → (a || b) ≡ false → b ≡ false
or_right false b h = h
or_right true b h = absurd (cc)

drop_plain : (n : ℕ) (steps : List LigStep) → some_lead steps ≡ false → some_lead (drop n steps) ≡ false
unfolding some_lead
drop_plain zero steps h = h
drop_plain (suc n) [] h = h
drop_plain (suc n) (Elsewhere place ∷ steps) h = drop_plain n steps h
drop_plain (suc n) (Pair next action skip ∷ steps) h = drop_plain n steps (or_right (leads_on action) (some_lead steps) h)

-- what may be done, if anything, doesn't lead on
abbrev pub IsPlain : Option PairAction → Type 0
IsPlain None = Unit {0}
IsPlain (Some action) = leads_on action ≡ false

plain_if : (b : Bool) (action : PairAction) (o : Option PairAction) → leads_on action ≡ false → IsPlain o → IsPlain (if b then (Some action) else o)
plain_if true action o h k = h
plain_if false action o h k = k

found_plain : (font : FontInfo) (right : LigItem) (skipped : ℕ) (steps : List LigStep) → some_lead steps ≡ false → IsPlain (found_in font right skipped steps)
unfolding found_in some_lead
found_plain font right zero [] h = tt
found_plain font right (suc skipped) [] h = tt
found_plain font right (suc skipped) (Elsewhere place ∷ steps) h = found_plain font right skipped steps h
found_plain font right (suc skipped) (Pair next action skip ∷ steps) h = found_plain font right skipped steps (or_right (leads_on action) (some_lead steps) h)
found_plain font right zero (Elsewhere place ∷ steps) h = tt
found_plain font right zero (Pair next action None ∷ steps) h = plain_if (names font next right) action None (or_left (leads_on action) (some_lead steps) h) tt
found_plain font right zero (Pair next action (Some skip) ∷ steps) h =
    plain_if (names font next right) action (found_in font right skip steps) (or_left (leads_on action) (some_lead steps) h)
    (found_plain font right skip steps (or_right (leads_on action) (some_lead steps) h))

plain_program : (font : FontInfo) (right : LigItem) (program : Option ℕ) → some_lead font.steps ≡ false → IsPlain (option_and_then (λ place. found_in font right 0 (drop place font.steps)) program)
plain_program font right None h = tt
plain_program font right (Some place) h = found_plain font right 0 (drop place font.steps) (drop_plain place font.steps h)

plain_between : (font : FontInfo) (x y : LigItem) → some_lead font.steps ≡ false → IsPlain (action_between font x y)
unfolding action_between
plain_between font x y h = plain_program font y (program_of font x) h

-- two neighbours with such an action come to something at once
at_once : (find : LigItem → LigItem → Option LigItem) (x y : LigItem) (o : Option PairAction) → IsPlain o → is_none (by_pair find x y o) ≡ false
at_once find x y None h = refl
at_once find x y (Some (Kern kern)) h = refl
at_once find x y (Some (Ligature code false false passes)) h = refl
at_once find x y (Some (Ligature code true false zero)) h = absurd (cc)
at_once find x y (Some (Ligature code true false (suc passes))) h = refl
at_once find x y (Some (Ligature code false true zero)) h = absurd (cc)
at_once find x y (Some (Ligature code false true (suc passes))) h = refl
at_once find x y (Some (Ligature code true true zero)) h = absurd (cc)
at_once find x y (Some (Ligature code true true (suc zero))) h = absurd (cc)
at_once find x y (Some (Ligature code true true (suc (suc passes)))) h = refl

plain_found : (font : FontInfo) (depth : ℕ) (x y : LigItem) → some_lead font.steps ≡ false → is_none (last font (suc depth) x y) ≡ false
unfolding last
plain_found font depth x y h = at_once (last font depth) x y (action_between font x y) (plain_between font x y h)

plain_deepest : (font : FontInfo) (x y : LigItem) → some_lead font.steps ≡ false → is_none (last font (deepest font) x y) ≡ false
plain_deepest font x y h =
    subst (λ (n : ℕ). is_none (last font n x y) ≡ false) (sym (deepest-suc font)) (plain_found font (deepest font - 1) x y h)

none_passes : (test : LigItem → Bool) → ((item : LigItem) → test item ≡ false) → some_item test ≡ false
none_passes test h = rw (h Boundary, all_off (λ code. test (Glyph code)) 256 (λ code. h (Glyph code))) refl

pub plain_fonts : (font : FontInfo) → some_lead font.steps ≡ false → comes_round font ≡ false
unfolding comes_round
plain_fonts font h =
    none_passes (λ x. some_item (λ y. is_none (last font (deepest font) x y)))
    (λ x. none_passes (λ y. is_none (last font (deepest font) x y)) (λ y. plain_deepest font x y h))
