-- The commands that put things at their places ("TeX: The Program", sections 607, 616, 620 to 633 and 1368; movements
-- are never told by a register). A movement, or a size of a rule, is written as it would be stored.
use Rattle.std.specs.Prelude.{ℕ, zero, suc, ◌+◌, max, ◌==◌, if◌then◌else◌, Bool, true, false, Option, None, Some, ℤ, pos, negsuc, ◌+ℤ◌, ◌-ℤ◌, List, [], ◌∷◌, ◌++◌, length, slice_get, slice_index_or, slice_set}
use Rattle.etx_dvi.specs.declared.command.Dvi.{Dvi}
use Rattle.etx_dvi.specs.declared.command.Dvi.TheVariants.{SetChar, SetRule, PutRule, Push, Pop, Right, Down, FontNumber, Special, FontDefinition}
use Rattle.etx_pack.specs.Fits.{within_32_bits}
use Rattle.etx_ship.specs.Items as to
use Rattle.etx_ship.specs.Items.{Item}
use Rattle.etx_ship.specs.declared.place.Point.{Point}
use Rattle.etx_ship.specs.declared.state.DviFont.{DviFont}

-- what a reader of the file knows behind a command: where it is, the font that is chosen, which fonts are defined, and the
-- places that its open boxes bring back, the innermost first; and the most that were open
pub record Pen : Type 0 where
  pub at : Point
  pub font : Option ℕ
  pub used : List Bool
  pub saved : List Point
  pub most : ℕ

abbrev pub right : ℤ → List Dvi
right (pos zero) = []
right (pos (suc n)) = Right (within_32_bits (pos (suc n))) ∷ []
right (negsuc n) = Right (within_32_bits (negsuc n)) ∷ []

abbrev pub down : ℤ → List Dvi
down (pos zero) = []
down (pos (suc n)) = Down (within_32_bits (pos (suc n))) ∷ []
down (negsuc n) = Down (within_32_bits (negsuc n)) ∷ []

-- first across, then down
abbrev pub reach : Point → Pen → List Dvi
reach at pen = right (at.h -ℤ pen.at.h) ++ down (at.v -ℤ pen.at.v)

abbrev pub is_chosen : Option ℕ → ℕ → Bool
is_chosen None number = false
is_chosen (Some chosen) number = chosen == number

abbrev pub is_used : List Bool → ℕ → Bool
is_used used number = slice_index_or used number false

abbrev pub definition_of : ℕ → DviFont → Dvi
definition_of number f = FontDefinition number f.checksum f.size f.design_size f.name

-- a font is defined where it is used first, and chosen where another one was
abbrev pub defined : ℕ → DviFont → List Bool → List Dvi
defined number f used = if is_used used number then [] else definition_of number f ∷ []

abbrev pub chosen : ℕ → DviFont → Pen → List Dvi
chosen number f pen = if is_chosen pen.font number then [] else defined number f pen.used ++ (FontNumber number ∷ [])

abbrev pub used_with : ℕ → Pen → List Bool
used_with number pen = if is_chosen pen.font number then pen.used else slice_set pen.used number true

-- behind something of this width
abbrev pub right_of : Point → ℤ → Point
right_of at width = record { h = at.h +ℤ width; v = at.v }

-- a character whose font isn't loaded writes nothing
abbrev pub letter : Option DviFont → ℕ → ℕ → Point → Pen → List Dvi
letter None number code at pen = []
letter (Some f) number code at pen = (reach at pen ++ chosen number f pen) ++ (SetChar code ∷ [])

abbrev pub after_letter : Option DviFont → ℕ → ℤ → Point → Pen → Pen
after_letter None number width at pen = pen
after_letter (Some f) number width at pen =
    record { at = right_of at width; font = Some number; used = used_with number pen; saved = pen.saved; most = pen.most }

abbrev pub first_or : Point → List Point → Point
first_or at [] = at
first_or at (p ∷ ps) = p

abbrev pub behind_first : List Point → List Point
behind_first [] = []
behind_first (p ∷ ps) = ps

-- the commands of one thing
unfoldable pub commands : List DviFont → Item → Pen → List Dvi
commands fonts (to.Letter number code width at) pen = letter (slice_get fonts number) number code at pen
commands fonts (to.Bar height width at) pen = reach at pen ++ (SetRule (within_32_bits height) (within_32_bits width) ∷ [])
commands fonts (to.Block height width at) pen = reach at pen ++ (PutRule (within_32_bits height) (within_32_bits width) ∷ [])
commands fonts (to.Note text at) pen = reach at pen ++ (Special text ∷ [])
commands fonts (to.Across h) pen = right (h -ℤ pen.at.h)
commands fonts (to.Down v) pen = down (v -ℤ pen.at.v)
commands fonts to.Open pen = Push ∷ []
commands fonts to.Close pen = Pop ∷ []

-- The wanted place counts as reached, also where a movement was brought into range. A pop brings back the place that the
-- push saved.
unfoldable pub after : List DviFont → Item → Pen → Pen
after fonts (to.Letter number code width at) pen = after_letter (slice_get fonts number) number width at pen
after fonts (to.Bar height width at) pen = record pen { at = right_of at width }
after fonts (to.Block height width at) pen = record pen { at = at }
after fonts (to.Note text at) pen = record pen { at = at }
after fonts (to.Across h) pen = record pen { at = record { h = h; v = pen.at.v } }
after fonts (to.Down v) pen = record pen { at = record { h = pen.at.h; v = v } }
after fonts to.Open pen = record pen { saved = pen.at ∷ pen.saved; most = max pen.most (length pen.saved + 1) }
after fonts to.Close pen = record pen { at = first_or pen.at pen.saved; saved = behind_first pen.saved }

abbrev pub all_commands : List DviFont → List Item → Pen → List Dvi
all_commands fonts [] pen = []
all_commands fonts (i ∷ is) pen = commands fonts i pen ++ all_commands fonts is (after fonts i pen)

abbrev pub after_all : List DviFont → List Item → Pen → Pen
after_all fonts [] pen = pen
after_all fonts (i ∷ is) pen = after_all fonts is (after fonts i pen)
