-- The header of a TFM file: a checksum and the design size; what follows is of no use to TeX. "TeX: The Program",
-- sections 541 and 568.
use Rattle.std.specs.Prelude.{ℕ, ◌*◌, ◌/◌, Bool, ◌||◌, nat_lt, nat_le, if◌then◌else◌, pos, ◌≤ℤ◌, unsigned_abs, List, drop, Option, None, Some}
use Rattle.byteorder.specs.Endian.{big_number}
use Rattle.etx_matter.specs.declared.sizes.Size.{Size}
use Rattle.etx_matter.specs.declared.sizes.Size.TheVariants.{Design, At, Scaled}
use Rattle.etx_matter.specs.declared.font.FontHeader.{FontHeader}
use Rattle.etx_tfm.specs.declared.lengths.Lengths.{Lengths}

-- the sizes that may be asked for
abbrev pub IsSize : Size → Type 0
IsSize Design = Unit {0}
IsSize (At size) = (pos 1 ≤ℤ size) × (size ≤ℤ pos 134_217_727)
IsSize (Scaled factor) = (pos 1 ≤ℤ factor) × (factor ≤ℤ pos 32_768)

-- the word of the design size, in 2^-20 pt
abbrev pub design_word : List ℕ → ℕ
design_word bytes = big_number 4 (drop 28 bytes)

-- in sp, 2^-16 pt
abbrev pub design_size : List ℕ → ℕ
design_size bytes = design_word bytes / 16

abbrev pub size_of : ℕ → Size → ℕ
size_of design Design = design
size_of design (At size) = unsigned_abs size
size_of design (Scaled factor) = design * unsigned_abs factor / 1000

-- damage of the kind Header: no design size, one below 1pt (with the first bit it is negative), or a size of 2048pt or
-- more, which only a multiple of the design size can be
unfoldable pub has_bad_header : List ℕ → Lengths → Size → Bool
has_bad_header bytes n size =
    nat_lt n.header 2 || nat_lt (design_word bytes) 1_048_576 || nat_le 2_147_483_648 (design_word bytes)
    || nat_le 134_217_728 (size_of (design_size bytes) size)

abbrev pub the_header : List ℕ → Size → FontHeader
the_header bytes size = record {
  checksum = big_number 4 (drop 24 bytes);
  design_size = design_size bytes;
  size = size_of (design_size bytes) size;
}

abbrev pub header_of : List ℕ → Lengths → Size → Option FontHeader
header_of bytes n size = if has_bad_header bytes n size then None else Some (the_header bytes size)
