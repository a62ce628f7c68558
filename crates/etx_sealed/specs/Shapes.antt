-- Where the lines of a paragraph stand, and how wide they are ("TeX: The Program", sections 847 to 850).
use Rattle.std.specs.Prelude.{ℕ, zero, suc, ◌+◌, ◌-◌, nat_lt, nat_le, Bool, if◌then◌else◌, ℤ, pos, negsuc, ◌-ℤ◌, unsigned_abs, length, slice_get, Option, Some, None}
use Rattle.std.specs.Int.{int_max}
use Rattle.etx_pack.specs.Fits.{within_32_bits}
use Rattle.etx_sealed.specs.declared.shape.LineShape.{LineShape}
use Rattle.etx_sealed.specs.declared.shape.ParShape.{ParShape}
use Rattle.etx_sealed.specs.declared.shape.ParShape.TheVariants.{Hanging, Lines}
use Rattle.etx_sealed.specs.Paragraphs.{Paragraph}

abbrev pub shape_or : LineShape → Option LineShape → LineShape
shape_or rest None = rest
shape_or rest (Some shape) = shape

-- with a negative number so many first lines hang, else all behind so many
unfoldable pub hangs : ℤ → ℕ → Bool
hangs (pos after) line = nat_lt after line
hangs (negsuc n) line = nat_le line (suc n)

-- a line that hangs is as much narrower, on the left where that is positive
unfoldable pub hung : ℤ → ℤ → LineShape
hung width indent = record {
  indent = int_max indent (pos 0);
  width = within_32_bits (width -ℤ pos (unsigned_abs indent));
}

abbrev pub straight : ℤ → LineShape
straight width = record { indent = pos 0; width = width }

-- the shape of a line, by its number from 1 on
unfoldable pub shape_of : ParShape → ℕ → LineShape
shape_of (Hanging width indent after) line = if hangs after line then hung width indent else straight width
shape_of (Lines first rest) line = shape_or rest (slice_get first (line - 1))

abbrev pub hanging_lines : ℤ → ℤ → ℕ
hanging_lines (pos zero) after = 0
hanging_lines (pos (suc n)) after = unsigned_abs after
hanging_lines (negsuc n) after = unsigned_abs after

-- the number of the last line behind which all lines have one shape
unfoldable pub special_lines : ParShape → ℕ
special_lines (Hanging width indent after) = hanging_lines indent after
special_lines (Lines first rest) = length first

-- the shape of a line of this part of a paragraph, by its number from 1 on: `\prevgraf` lines come before it
unfoldable pub line_shape : Paragraph → ℕ → LineShape
line_shape p line = shape_of p.params.shape (p.params.prevgraf + line)
