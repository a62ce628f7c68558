-- What is drawn is the commands of the definition.
use Rattle.std.proofs.Common.{◌≡◌, refl, ap, sym, ◌∙◌, ℕ, ℤ, ◌-ℤ◌, ◌+ℤ◌, Bool, Option, None, Some, List, [], ◌∷◌, ◌++◌, length, slice_get, replicate, append-nil}
use Rattle.std.specs.List.{flat_map}
use Rattle.etx_dvi.specs.Commands.{bytes_of}
use Rattle.etx_dvi.specs.declared.command.Dvi.{Dvi}
use Rattle.etx_dvi.specs.declared.command.Dvi.TheVariants.{SetChar, Bop, Eop, Pre}
use Rattle.etx_ship.specs.Files.{FileState, file_of}
use Rattle.etx_ship.specs.Hands.{Ink, Hand, wrote, inked, all_inked, wrote_command, gone_right, gone_down, reached, with_font, with_letter, with_letter_of, with_bar, with_block, with_note, opened, closed, drawn, drawn_one, first_hand}
use Rattle.etx_ship.specs.Items as to
use Rattle.etx_ship.specs.Items.{Item}
use Rattle.etx_ship.specs.Pages.{Page, page_items, page_commands, page_bytes, opening, begun, fresh}
use Rattle.etx_ship.specs.Pens.{Pen, right, down, reach, chosen, letter, after_letter, commands, after, all_commands, after_all}
use Rattle.etx_ship.specs.Places.{places_of}
use Rattle.etx_ship.specs.declared.place.Point.{Point}
use Rattle.etx_ship.specs.declared.state.DviFont.{DviFont}
use Rattle.etx_ship.specs.declared.state.Numbers.{Numbers}
use Rattle.etx_ship.proofs.Keeping.{settled}

pub preamble_length : (m : ℤ) → length (flat_map bytes_of (Pre m ∷ [])) ≡ 42
preamble_length m = refl

inked_append : (cs ds : List Dvi) (ink : Ink) → all_inked (cs ++ ds) ink ≡ all_inked ds (all_inked cs ink)
inked_append [] ds ink = refl
inked_append (c ∷ cs) ds ink = inked_append cs ds (inked c ink)

-- the same hand, with other ink and another pen
abbrev pub with : Hand → Ink → Pen → Hand
with x ink pen = record { fonts = x.fonts; ink = ink; pen = pen }

-- a hand behind one thing
abbrev behind : Item → Hand → Hand
behind i x = with x (all_inked (commands x.fonts i x.pen) x.ink) (after x.fonts i x.pen)

reached_ink : (at : Point) (pen : Pen) (c : Dvi) (ink : Ink) → all_inked (reach at pen ++ (c ∷ [])) ink ≡ inked c (all_inked (down (at.v -ℤ pen.at.v)) (all_inked (right (at.h -ℤ pen.at.h)) ink))
reached_ink at pen c ink =
    inked_append (reach at pen) (c ∷ []) ink ∙ ap (inked c) (inked_append (right (at.h -ℤ pen.at.h)) (down (at.v -ℤ pen.at.v)) ink)

letter_ink : (f : DviFont) (number code : ℕ) (at : Point) (pen : Pen) (ink : Ink) → all_inked ((reach at pen ++ chosen number f pen) ++ (SetChar code ∷ [])) ink ≡ inked (SetChar code) (all_inked (chosen number f pen) (all_inked (down (at.v -ℤ pen.at.v)) (all_inked (right (at.h -ℤ pen.at.h)) ink)))
letter_ink f number code at pen ink =
    inked_append (reach at pen ++ chosen number f pen) (SetChar code ∷ []) ink
    ∙ ap (inked (SetChar code)) (inked_append (reach at pen) (chosen number f pen) ink
    ∙ ap (all_inked (chosen number f pen)) (inked_append (right (at.h -ℤ pen.at.h)) (down (at.v -ℤ pen.at.v)) ink))

drawn_letter : (o : Option DviFont) (number code : ℕ) (width : ℤ) (at : Point) (x : Hand) → with_letter_of o number code width at x ≡ with x (all_inked (letter o number code at x.pen) x.ink) (after_letter o number width at x.pen)
unfolding wrote_command inked reached gone_right gone_down with_font
drawn_letter None number code width at x = refl
drawn_letter (Some f) number code width at x =
    ap (λ ink. with x ink (after_letter (Some f) number width at x.pen)) (sym (letter_ink f number code at x.pen x.ink))

drawn_thing : (i : Item) (x : Hand) → drawn_one i x ≡ behind i x
unfolding wrote_command inked reached gone_right gone_down with_letter with_bar with_block with_note opened closed commands after
drawn_thing (to.Letter number code width at) x = drawn_letter (slice_get x.fonts number) number code width at x
drawn_thing (to.Bar height width at) x = ap (λ ink. with x ink (after x.fonts (to.Bar height width at) x.pen)) (sym (reached_ink at x.pen _ x.ink))
drawn_thing (to.Block height width at) x = ap (λ ink. with x ink (after x.fonts (to.Block height width at) x.pen)) (sym (reached_ink at x.pen _ x.ink))
drawn_thing (to.Note text at) x = ap (λ ink. with x ink (after x.fonts (to.Note text at) x.pen)) (sym (reached_ink at x.pen _ x.ink))
drawn_thing (to.Across h) x = refl
drawn_thing (to.Down v) x = refl
drawn_thing to.Open x = refl
drawn_thing to.Close x = refl

drawn_all : (is : List Item) (x : Hand) → drawn is x ≡ with x (all_inked (all_commands x.fonts is x.pen) x.ink) (after_all x.fonts is x.pen)
drawn_all [] x = refl
drawn_all (i ∷ is) x =
    ap (drawn is) (drawn_thing i x) ∙ drawn_all is (behind i x)
    ∙ ap (λ ink. with x ink (after_all x.fonts is (after x.fonts i x.pen))) (sym (inked_append (commands x.fonts i x.pen) (all_commands x.fonts is (after x.fonts i x.pen)) x.ink))

-- the hand before the box of a page
abbrev at_box : FileState → Page → Hand
at_box file page =
    wrote_command (Bop page.counts file.last) (with (first_hand file.fonts (fresh file.used)) (all_inked (opening file) (record { out = []; waiting = 0 })) (fresh file.used))

page_ink : (file : FileState) (page : Page) → (wrote_command Eop (drawn (page_items page) (at_box file page))).ink ≡ all_inked (page_commands file page) (record { out = []; waiting = 0 })
unfolding wrote_command inked page_commands
page_ink file page =
    ap (λ x. wrote Eop x.ink) (drawn_all (page_items page) (at_box file page))
    ∙ sym (inked_append (all_commands file.fonts (page_items page) (fresh file.used)) (Eop ∷ []) (at_box file page).ink)
    ∙ sym (inked_append (opening file) (Bop page.counts file.last ∷ (all_commands file.fonts (page_items page) (fresh file.used) ++ (Eop ∷ []))) (record { out = []; waiting = 0 }))

paged : (file : FileState) (page : Page) → (wrote_command Eop (drawn (page_items page) (at_box file page))).ink.out ≡ page_bytes file page
unfolding wrote_command wrote page_bytes
paged file page =
    sym (append-nil _) ∙ ap (λ ink. ink.out ++ replicate ink.waiting 141) (page_ink file page)
    ∙ settled (page_commands file page) (record { out = []; waiting = 0 })

paged_pen : (file : FileState) (page : Page) → (wrote_command Eop (drawn (page_items page) (at_box file page))).pen ≡ after_all file.fonts (page_items page) (fresh file.used)
unfolding wrote_command
paged_pen file page = ap (λ x. x.pen) (drawn_all (page_items page) (at_box file page))

-- a page is written by a hand that knows the file's numbers
abbrev of_page : Page → Point → Hand → FileState → Hand
of_page page at x file = wrote_command Eop (drawn (places_of page.it at) (wrote_command (Bop page.counts file.last) (begun file x)))

pub record IsWritten (file : FileState) (page : Page) (n : Numbers) (fonts : List DviFont) (used : List Bool) (at : Point) (x new : Hand) : Type 0 where
  pub numbers : file_of n file.fonts file.used ≡ file
  pub loaded : fonts ≡ file.fonts
  pub marked : used ≡ file.used
  pub first : x ≡ first_hand fonts (fresh used)
  pub origin : at ≡ record { h = page.right; v = page.it.height +ℤ page.down }
  pub written : new ≡ wrote_command Eop (drawn (places_of page.it at) (wrote_command (Bop page.counts n.last) (begun (file_of n [] []) x)))

last_hand : (file : FileState) (page : Page) (n : Numbers) (fonts : List DviFont) (used : List Bool) (at : Point) (x new : Hand) → IsWritten file page n fonts used at x new → new ≡ wrote_command Eop (drawn (page_items page) (at_box file page))
unfolding page_items
last_hand file page n fonts used at x new w =
    w.written ∙ ap (of_page page at x) w.numbers ∙ rw (w.first, w.origin, w.loaded, w.marked) refl

pub paged_bytes : (file : FileState) (page : Page) (n : Numbers) (fonts : List DviFont) (used : List Bool) (at : Point) (x new : Hand) → IsWritten file page n fonts used at x new → new.ink.out ≡ page_bytes file page
paged_bytes file page n fonts used at x new w = ap (λ y. y.ink.out) (last_hand file page n fonts used at x new w) ∙ paged file page

pub paged_behind : (file : FileState) (page : Page) (n : Numbers) (fonts : List DviFont) (used : List Bool) (at : Point) (x new : Hand) → IsWritten file page n fonts used at x new → new.pen ≡ after_all file.fonts (page_items page) (fresh file.used)
paged_behind file page n fonts used at x new w = ap (λ y. y.pen) (last_hand file page n fonts used at x new w) ∙ paged_pen file page
