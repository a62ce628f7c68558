-- The definitions of fonts, from the last to the first.
use Rattle.std.proofs.Common.{◌≡◌, refl, sym, ◌∙◌, ap, ℕ, zero, suc, ◌+◌, ◌<◌, Bool, true, false, if◌then◌else◌, List, [], ◌∷◌, ◌++◌, length, get_or, drop, append_assoc, append-nil, arith}
use Rattle.std.specs.List.{flat_map}
use Rattle.etx_dvi.specs.Commands.{bytes_of}
use Rattle.etx_dvi.specs.declared.command.Dvi.{Dvi}
use Rattle.etx_ship.specs.Files.{definitions}
use Rattle.etx_ship.specs.Pens.{definition_of, is_used}
use Rattle.etx_ship.specs.declared.state.DviFont.{DviFont}

no_use : (m : ℕ) (fonts : List DviFont) → definitions m fonts [] ≡ []
no_use m [] = refl
no_use m (f ∷ fs) = refl

-- the definition of a font, where it is used
abbrev pub one : ℕ → DviFont → Bool → List Dvi
one m f used = if used then definition_of m f ∷ [] else []

from_place : (m n : ℕ) (fonts : List DviFont) (used : List Bool) (d : DviFont) → n < length fonts → definitions m (drop n fonts) (drop n used) ≡ definitions (m + 1) (drop (n + 1) fonts) (drop (n + 1) used) ++ one m (get_or fonts n d) (is_used used n)
from_place m n [] used d h = absurd (omega (arith, h))
from_place m zero (f ∷ fs) [] d h = sym (ap (λ cs. cs ++ []) (no_use (m + 1) fs))
from_place m zero (f ∷ fs) (u ∷ us) d h = refl
from_place m (suc n) (f ∷ fs) [] d h =
    let e : suc n + 1 ≡ suc (n + 1) = omega arith in
    rw e (no_use m (drop n fs) ∙ sym (ap (λ cs. cs ++ []) (no_use (m + 1) (drop (n + 1) fs))))
from_place m (suc n) (f ∷ fs) (u ∷ us) d h =
    let e : suc n + 1 ≡ suc (n + 1) = omega arith in
    rw e (from_place m n fs us d (omega (arith, h)))

flat_append : (cs ds : List Dvi) → flat_map bytes_of (cs ++ ds) ≡ flat_map bytes_of cs ++ flat_map bytes_of ds
flat_append [] ds = refl
flat_append (c ∷ cs) ds = ap (λ bs. bytes_of c ++ bs) (flat_append cs ds) ∙ sym (append_assoc (bytes_of c) (flat_map bytes_of cs) (flat_map bytes_of ds))

abbrev bytes_from : ℕ → List DviFont → List Bool → List ℕ
bytes_from n fonts used = flat_map bytes_of (definitions n (drop n fonts) (drop n used))

step : (n k : ℕ) (fonts : List DviFont) (used : List Bool) (d : DviFont) (b : Bool) → k ≡ n + 1 → n < length fonts → is_used used n ≡ b → bytes_from n fonts used ≡ bytes_from k fonts used ++ flat_map bytes_of (one n (get_or fonts n d) b)
step n k fonts used d b e h u =
    rw (e, ← u) (ap (flat_map bytes_of) (from_place n n fonts used d h)
    ∙ flat_append (definitions (n + 1) (drop (n + 1) fonts) (drop (n + 1) used)) (one n (get_or fonts n d) (is_used used n)))

-- a font is defined
pub defined_one : (start out new : List ℕ) (n k : ℕ) (fonts : List DviFont) (used : List Bool) (f : DviFont) (command : Dvi) → k ≡ n + 1 → n < length fonts → is_used used n ≡ true → f ≡ get_or fonts n f → command ≡ definition_of n f → out ≡ start ++ bytes_from k fonts used → new ≡ out ++ bytes_of command → new ≡ start ++ bytes_from n fonts used
defined_one start out new n k fonts used f command e h u g d o w =
    let all : List ℕ = bytes_of (definition_of n (get_or fonts n f)) in
    let written : new ≡ (start ++ bytes_from k fonts used) ++ all = w ∙ ap (λ bs. bs ++ bytes_of command) o ∙ ap (λ c. (start ++ bytes_from k fonts used) ++ bytes_of c) d ∙ ap (λ x. (start ++ bytes_from k fonts used) ++ bytes_of (definition_of n x)) g in
    written ∙ append_assoc start (bytes_from k fonts used) all
    ∙ ap (λ bs. start ++ (bytes_from k fonts used ++ bs)) (sym (append-nil all))
    ∙ ap (λ bs. start ++ bs) (sym (step n k fonts used f true e h u))

at_least_one : (fonts : List DviFont) (n : ℕ) → n < length fonts → DviFont
at_least_one [] n h = absurd (omega (arith, h))
at_least_one (f ∷ fs) n h = f

-- or it isn't
pub defined_none : (start out : List ℕ) (n k : ℕ) (fonts : List DviFont) (used : List Bool) → k ≡ n + 1 → n < length fonts → is_used used n ≡ false → out ≡ start ++ bytes_from k fonts used → out ≡ start ++ bytes_from n fonts used
defined_none start out n k fonts used e h u o =
    o ∙ ap (λ bs. start ++ bs) (sym (step n k fonts used (at_least_one fonts n h) false e h u ∙ append-nil (bytes_from k fonts used)))
