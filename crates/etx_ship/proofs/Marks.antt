-- A page leaves as many marks of used fonts as there were before it.
use Rattle.std.proofs.Common.{◌≡◌, refl, ◌∙◌, ℕ, ℤ, Bool, true, false, if◌then◌else◌, Option, None, Some, List, [], ◌∷◌, length, length-set, slice_get, slice_set}
use Rattle.etx_ship.specs.Items as to
use Rattle.etx_ship.specs.Items.{Item}
use Rattle.etx_ship.specs.Pens.{Pen, is_chosen, after_letter, after, after_all}
use Rattle.etx_ship.specs.declared.place.Point.{Point}
use Rattle.etx_ship.specs.declared.state.DviFont.{DviFont}

one_set : (b : Bool) (used : List Bool) (number : ℕ) → length (if b then used else slice_set used number true) ≡ length used
one_set true used number = refl
one_set false used number = length-set used number true

behind_letter : (o : Option DviFont) (number : ℕ) (width : ℤ) (at : Point) (pen : Pen) → length (after_letter o number width at pen).used ≡ length pen.used
behind_letter None number width at pen = refl
behind_letter (Some f) number width at pen = one_set (is_chosen pen.font number) pen.used number

behind_item : (fonts : List DviFont) (i : Item) (pen : Pen) → length (after fonts i pen).used ≡ length pen.used
unfolding after
behind_item fonts (to.Letter number code width at) pen = behind_letter (slice_get fonts number) number width at pen
behind_item fonts (to.Bar height width at) pen = refl
behind_item fonts (to.Block height width at) pen = refl
behind_item fonts (to.Note text at) pen = refl
behind_item fonts (to.Across h) pen = refl
behind_item fonts (to.Down v) pen = refl
behind_item fonts to.Open pen = refl
behind_item fonts to.Close pen = refl

pub marks_kept : (fonts : List DviFont) (is : List Item) (pen : Pen) → length (after_all fonts is pen).used ≡ length pen.used
marks_kept fonts [] pen = refl
marks_kept fonts (i ∷ is) pen = marks_kept fonts is (after fonts i pen) ∙ behind_item fonts i pen
