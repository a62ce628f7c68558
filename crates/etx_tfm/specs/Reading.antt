-- What becomes of a TFM file: a font, or the first kind of damage that it has. "TeX: The Program", sections 560 to 576.
use Rattle.std.specs.Prelude.{ℕ, ◌≡◌, Bool, false, ◌||◌, ◌==◌, nat_lt, if◌then◌else◌, ℤ, unsigned_abs, List, [], ◌∷◌, Option, None, Some, Result, Ok, Err}
use Rattle.std.specs.List.{list_any}
use Rattle.etx_matter.specs.declared.sizes.Size.{Size}
use Rattle.etx_matter.specs.declared.font.Dimensions.{Dimensions}
use Rattle.etx_matter.specs.declared.font.FontHeader.{FontHeader}
use Rattle.etx_matter.specs.declared.font.FontInfo.{FontInfo}
use Rattle.etx_matter.specs.Fonts.{opposite, FontState, has_bad_characters, has_bad_recipes}
use Rattle.etx_matter.specs.Soundness.{has_bad_steps}
use Rattle.etx_tfm.specs.declared.lengths.Lengths.{Lengths}
use Rattle.etx_tfm.specs.declared.word.Word.{Word}
use Rattle.etx_tfm.specs.declared.fault.Damage.{Damage}
use Rattle.etx_tfm.specs.declared.fault.Damage.TheVariants.{Short, Sizes, Header, Char, Dimension, LigKern, Exten, Param}
use Rattle.etx_tfm.specs.declared.fault.FontFault.{FontFault}
use Rattle.etx_tfm.specs.declared.fault.FontFault.TheVariants.{BadMetric, OutOfMemory}
use Rattle.etx_tfm.specs.Headers.{has_bad_header, the_header}
use Rattle.etx_tfm.specs.Lengths.{is_short, lengths_of, has_wrong_sizes}
use Rattle.etx_tfm.specs.Tables.{words_in, widths_in, heights_in, depths_in, italics_in, kerns_in, parameters_in, tables_of}

-- a dimension has the first byte 0, or 255 where it is negative
abbrev pub is_too_large : Word → Bool
is_too_large w = opposite (w.a == 0 || w.a == 255)

abbrev pub has_large : List Word → Bool
has_large words = list_any is_too_large words

-- the first number isn't 0
abbrev pub begins_elsewhere : List ℤ → Bool
begins_elsewhere [] = false
begins_elsewhere (z ∷ zs) = nat_lt 0 (unsigned_abs z)

abbrev pub some_large : List Word → Lengths → Bool
some_large words n =
    has_large (widths_in words n) || has_large (heights_in words n) || has_large (depths_in words n)
    || has_large (italics_in words n) || has_large (kerns_in words n)

abbrev pub some_elsewhere : Dimensions → Bool
some_elsewhere d =
    begins_elsewhere d.widths || begins_elsewhere d.heights || begins_elsewhere d.depths || begins_elsewhere d.italics

-- damage of the kind Dimension
unfoldable pub has_bad_dimensions : List Word → Lengths → FontInfo → Bool
has_bad_dimensions words n font = some_large words n || some_elsewhere font.dimensions

-- a parameter behind the first is too large
abbrev pub large_behind : List Word → Bool
large_behind [] = false
large_behind (w ∷ ws) = has_large ws

-- damage of the kind Param
unfoldable pub has_bad_parameters : List Word → Lengths → Bool
has_bad_parameters words n = large_behind (parameters_in words n)

-- the first kind of damage that the tables have
unfoldable pub damage_in : List Word → Lengths → FontInfo → Option Damage
damage_in words n font =
    if has_bad_characters font then Some Char
    else (if has_bad_dimensions words n font then Some Dimension
    else (if has_bad_steps font then Some LigKern
    else (if has_bad_recipes font then Some Exten
    else (if has_bad_parameters words n then Some Param else None))))

abbrev pub unless : Option Damage → FontInfo → Result FontInfo Damage
unless None font = Ok font
unless (Some damage) font = Err damage

-- the tables, if they have no damage
unfoldable pub checked : FontHeader → List Word → Lengths → Result FontInfo Damage
checked header words n = unless (damage_in words n (tables_of header words n)) (tables_of header words n)

-- the font whose file has these bytes, at a size, or the first kind of damage
unfoldable pub font_of : List ℕ → Size → Result FontInfo Damage
font_of bytes size =
    if is_short bytes then Err Short
    else (if has_wrong_sizes (lengths_of bytes) then Err Sizes
    else (if has_bad_header bytes (lengths_of bytes) size then Err Header
    else checked (the_header bytes size) (words_in bytes (lengths_of bytes)) (lengths_of bytes)))

-- what a reader answers: a font that has no number yet
abbrev pub IsFontOf : FontState → Result FontInfo Damage → Type 0
IsFontOf font wanted = (font.number ≡ 0) × (wanted ≡ Ok font.info)

-- and a fault of the file, if it isn't want of memory, is just its damage
abbrev pub IsFaultOf : FontFault → Result FontInfo Damage → Type 0
IsFaultOf (BadMetric damage) wanted = wanted ≡ Err damage
IsFaultOf OutOfMemory wanted = Unit {0}
