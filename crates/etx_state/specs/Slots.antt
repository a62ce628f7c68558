-- Where the cell of a key stands in the store: under the number that the key has in tables. No two keys have the same slot.
use Rattle.std.specs.Prelude.{ℕ, ◌+◌, nat_lt, Bool, if◌then◌else◌}
use Rattle.etx_keys.specs.declared.key.Key.{Key}
use Rattle.etx_keys.specs.declared.key.Key.TheVariants as key
use Rattle.etx_keys.specs.declared.number.KeyNumber.{KeyNumber}
use Rattle.etx_keys.specs.Keys.{number_of}
use Rattle.etx_undo.specs.declared.slot.Slot.{Slot}
use Rattle.etx_undo.specs.Slots as slots

abbrev pub slot_at : KeyNumber → Slot
slot_at n = record { kind = n.kind; at = n.at }

-- the font and the number of a parameter of a font, and 0 for other keys
abbrev pub font_of : Key → ℕ
font_of (key.FontDimen font parameter) = font
font_of _ = 0

abbrev pub parameter_of : Key → ℕ
parameter_of (key.FontDimen font parameter) = parameter
parameter_of _ = 0

-- The meanings of control sequences have the row of kind 0. Fonts have numbers below 256: there is no parameter of a font beyond them, but
-- if there were, its slot would stand behind those of the 41 kinds.
unfoldable pub slot_of : Key → Slot
slot_of k = if nat_lt (font_of k) 256 then slot_at (number_of k) else record { kind = 41 + font_of k; at = parameter_of k }

-- whether two keys are the same
abbrev pub same : Key → Key → Bool
same k q = slots.same (slot_of k) (slot_of q)
