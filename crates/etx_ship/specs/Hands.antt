-- The hand that writes a page while its box is walked. A push waits until something is written behind it. For proofs.
use Rattle.std.specs.Prelude.{◌≡◌, ℕ, zero, suc, ◌+◌, max, if◌then◌else◌, Option, None, Some, ℤ, ◌-ℤ◌, List, [], ◌∷◌, ◌++◌, length, replicate, slice_get}
use Rattle.etx_dvi.specs.Commands.{bytes_of}
use Rattle.etx_dvi.specs.declared.command.Dvi.{Dvi}
use Rattle.etx_dvi.specs.declared.command.Dvi.TheVariants.{SetChar, SetRule, PutRule, Special}
use Rattle.etx_pack.specs.Fits.{within_32_bits}
use Rattle.etx_ship.specs.Items as to
use Rattle.etx_ship.specs.Items.{Item}
use Rattle.etx_ship.specs.Kept.{is_push, is_pop}
use Rattle.etx_ship.specs.Pens.{Pen, right, down, chosen, used_with, right_of, first_or, behind_first}
use Rattle.etx_ship.specs.Places.{Step}
use Rattle.etx_ship.specs.declared.place.Point.{Point}
use Rattle.etx_ship.specs.declared.place.Spot.{Spot}
use Rattle.etx_ship.specs.declared.state.DviFont.{DviFont}

-- the bytes that are written, and how many pushes wait
pub record Ink : Type 0 where
  pub out : List ℕ
  pub waiting : ℕ

-- with the fonts that are loaded
pub record Hand : Type 0 where
  pub fonts : List DviFont
  pub ink : Ink
  pub pen : Pen

unfoldable pub wrote : Dvi → Ink → Ink
wrote c ink = record { out = (ink.out ++ replicate ink.waiting 141) ++ bytes_of c; waiting = 0 }

unfoldable pub pushed : Ink → Ink
pushed ink = record { out = ink.out; waiting = ink.waiting + 1 }

abbrev pub popped_of : List ℕ → ℕ → Ink
popped_of out zero = record { out = out ++ 142 ∷ []; waiting = 0 }
popped_of out (suc n) = record { out = out; waiting = n }

unfoldable pub popped : Ink → Ink
popped ink = popped_of ink.out ink.waiting

unfoldable pub inked : Dvi → Ink → Ink
inked c ink = if is_push c then pushed ink else (if is_pop c then popped ink else wrote c ink)

abbrev pub all_inked : List Dvi → Ink → Ink
all_inked [] ink = ink
all_inked (c ∷ cs) ink = all_inked cs (inked c ink)

-- a command other than push and pop
unfoldable pub wrote_command : Dvi → Hand → Hand
wrote_command c x = record x { ink = wrote c x.ink }

abbrev pub put_at : Point → Hand → Hand
put_at at x = record x { pen = record x.pen { at = at } }

unfoldable pub gone_right : ℤ → Hand → Hand
gone_right h x = record x { ink = all_inked (right (h -ℤ x.pen.at.h)) x.ink; pen = record x.pen { at = record { h = h; v = x.pen.at.v } } }

unfoldable pub gone_down : ℤ → Hand → Hand
gone_down v x = record x { ink = all_inked (down (v -ℤ x.pen.at.v)) x.ink; pen = record x.pen { at = record { h = x.pen.at.h; v = v } } }

unfoldable pub reached : Point → Hand → Hand
reached at x = gone_down at.v (gone_right at.h x)

unfoldable pub with_font : ℕ → DviFont → Hand → Hand
with_font number f x = record x {
  ink = all_inked (chosen number f x.pen) x.ink;
  pen = record x.pen { font = Some number; used = used_with number x.pen };
}

abbrev pub with_letter_of : Option DviFont → ℕ → ℕ → ℤ → Point → Hand → Hand
with_letter_of None number code width at x = x
with_letter_of (Some f) number code width at x = put_at (right_of at width) (wrote_command (SetChar code) (with_font number f (reached at x)))

unfoldable pub with_letter : ℕ → ℕ → ℤ → Point → Hand → Hand
with_letter number code width at x = with_letter_of (slice_get x.fonts number) number code width at x

unfoldable pub with_bar : ℤ → ℤ → Point → Hand → Hand
with_bar height width at x = put_at (right_of at width) (wrote_command (SetRule (within_32_bits height) (within_32_bits width)) (reached at x))

unfoldable pub with_block : ℤ → ℤ → Point → Hand → Hand
with_block height width at x = wrote_command (PutRule (within_32_bits height) (within_32_bits width)) (reached at x)

unfoldable pub with_note : List ℕ → Point → Hand → Hand
with_note text at x = wrote_command (Special text) (reached at x)

unfoldable pub opened : Hand → Hand
opened x = record x { ink = pushed x.ink; pen = record x.pen { saved = x.pen.at ∷ x.pen.saved; most = max x.pen.most (length x.pen.saved + 1) } }

unfoldable pub closed : Hand → Hand
closed x = record x { ink = popped x.ink; pen = record x.pen { at = first_or x.pen.at x.pen.saved; saved = behind_first x.pen.saved } }

abbrev pub drawn_one : Item → Hand → Hand
drawn_one (to.Letter number code width at) x = with_letter number code width at x
drawn_one (to.Bar height width at) x = with_bar height width at x
drawn_one (to.Block height width at) x = with_block height width at x
drawn_one (to.Note text at) x = with_note text at x
drawn_one (to.Across h) x = gone_right h x
drawn_one (to.Down v) x = gone_down v x
drawn_one to.Open x = opened x
drawn_one to.Close x = closed x

abbrev pub drawn : List Item → Hand → Hand
drawn [] x = x
drawn (i ∷ is) x = drawn is (drawn_one i x)

-- before a page
abbrev pub first_hand : List DviFont → Pen → Hand
first_hand fonts pen = record { fonts = fonts; ink = record { out = []; waiting = 0 }; pen = pen }

-- a step of a list is drawn, and the next one begins here
abbrev pub Draws : Step → Hand → Hand → Spot → Type 0
Draws step old new next = (next ≡ step.next) × (new ≡ drawn step.items old)
