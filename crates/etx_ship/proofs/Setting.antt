-- A character at the place where the pen stands, in the font that is chosen, while no push waits: its bytes alone are written.
use Rattle.std.proofs.Common.{◌≡◌, ℕ, ℤ, pos, ◌-ℤ◌, zero, true, ◌==◌, Some, refl, sym, ◌∙◌, ap, ◌++◌, eq-eqb, arith}
use Rattle.std.proofs.lemmas.Int.{ints}
use Rattle.std.proofs.lemmas.List.{append-nil}
use Rattle.etx_dvi.specs.Commands.{bytes_of}
use Rattle.etx_dvi.specs.declared.command.Dvi.TheVariants.{SetChar}
use Rattle.etx_ship.specs.Hands.{Hand, with_letter_of, put_at, reached, gone_right, gone_down, with_font, wrote_command, wrote}
use Rattle.etx_ship.specs.Pens.{right_of}
use Rattle.etx_ship.specs.declared.place.Point.{Point}
use Rattle.etx_ship.specs.declared.state.DviFont.{DviFont}

stays-right : (h : ℤ) (x : Hand) → h ≡ x.pen.at.h → gone_right h x ≡ x
unfolding gone_right
stays-right h x e =
    let z : x.pen.at.h -ℤ x.pen.at.h ≡ pos zero = omega (arith, ints) in
    rw (e, z) refl

stays-down : (v : ℤ) (x : Hand) → v ≡ x.pen.at.v → gone_down v x ≡ x
unfolding gone_down
stays-down v x e =
    let z : x.pen.at.v -ℤ x.pen.at.v ≡ pos zero = omega (arith, ints) in
    rw (e, z) refl

stays-chosen : (number : ℕ) (f : DviFont) (x : Hand) → x.pen.font ≡ Some number → with_font number f x ≡ x
unfolding with_font
stays-chosen number f x e =
    let z : (number == number) ≡ true = eq-eqb number number refl in
    rw (e, z) (rw (← e) refl)

pub set_at_once : (f : DviFont) (number code : ℕ) (width : ℤ) (at : Point) (x : Hand) → x.pen.at ≡ at → x.pen.font ≡ Some number → x.ink.waiting ≡ 0
    → put_at (right_of x.pen.at width) (record x { ink = record { out = x.ink.out ++ bytes_of (SetChar code); waiting = 0 } }) ≡ with_letter_of (Some f) number code width at x
unfolding reached wrote_command wrote
set_at_once f number code width at x e k w =
    let there : reached at x ≡ x = ap (λ y. gone_down at.v y) (stays-right at.h x (ap (λ (p : Point). p.h) (sym e))) ∙ stays-down at.v x (ap (λ (p : Point). p.v) (sym e)) in
    rw (there, stays-chosen number f x k, w, e, append-nil x.ink.out) refl
