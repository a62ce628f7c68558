-- The tables of a font as a TFM file has them: "TeX: The Program", sections 540 to 547.
use Rattle.std.specs.Prelude.{ℕ, ◌+◌, ◌-◌, ◌*◌, ◌==◌, nat_lt, if◌then◌else◌, ℤ, pos, List, [], ◌∷◌, ◌++◌, length, take, drop, map, replicate, slice_get, Option, None, Some}
use Rattle.std.specs.Option.{option_and_then}
use Rattle.etx_matter.specs.declared.font.FontHeader.{FontHeader}
use Rattle.etx_matter.specs.declared.font.Dimensions.{Dimensions}
use Rattle.etx_matter.specs.declared.font.FontInfo.{FontInfo}
use Rattle.etx_tfm.specs.declared.lengths.Lengths.{Lengths}
use Rattle.etx_tfm.specs.declared.word.Word.{Word}
use Rattle.etx_tfm.specs.Lengths.{character_count, characters_at, widths_at, heights_at, depths_at, italics_at, steps_at, kerns_at, recipes_at, parameters_at}
use Rattle.etx_tfm.specs.Numbers.{fix_word, slant_of}
use Rattle.etx_tfm.specs.Words.{words_of, char_of, step_of, recipe_of}

-- so many items from a place on
abbrev pub section : {X : Type 0} → List X → ℕ → ℕ → List X
section items from count = take count (drop from items)

-- the words behind the lengths, up to the file's own length
unfoldable pub words_in : List ℕ → Lengths → List Word
words_in bytes n = words_of (section bytes 24 (4 * n.file - 24))

-- a font with the codes 256 to 255 has none, as one with the codes 1 to 0
abbrev pub first_code : Lengths → ℕ
first_code n = if nat_lt 255 n.first then 1 else n.first

-- the words of each table
abbrev pub characters_in : List Word → Lengths → List Word
characters_in words n = section words (characters_at n) (character_count n)

abbrev pub widths_in : List Word → Lengths → List Word
widths_in words n = section words (widths_at n) n.widths

abbrev pub heights_in : List Word → Lengths → List Word
heights_in words n = section words (heights_at n) n.heights

abbrev pub depths_in : List Word → Lengths → List Word
depths_in words n = section words (depths_at n) n.depths

abbrev pub italics_in : List Word → Lengths → List Word
italics_in words n = section words (italics_at n) n.italics

abbrev pub steps_in : List Word → Lengths → List Word
steps_in words n = section words (steps_at n) n.steps

abbrev pub kerns_in : List Word → Lengths → List Word
kerns_in words n = section words (kerns_at n) n.kerns

abbrev pub recipes_in : List Word → Lengths → List Word
recipes_in words n = section words (recipes_at n) n.recipes

abbrev pub parameters_in : List Word → Lengths → List Word
parameters_in words n = section words (parameters_at n) n.parameters

-- a first step with the skip 255 names the character that stands behind a word
abbrev pub boundary_in : Word → Option ℕ
boundary_in w = if w.a == 255 then Some w.b else None

abbrev pub boundary_of : List Word → Option ℕ
boundary_of steps = option_and_then boundary_in (slice_get steps 0)

-- a last step with the skip 255 says where the program begins of what stands before a word
abbrev pub left_program_in : Word → Option ℕ
left_program_in w = if w.a == 255 then Some (w.c * 256 + w.d) else None

abbrev pub left_program_of : List Word → Option ℕ
left_program_of steps = option_and_then left_program_in (slice_get steps (length steps - 1))

-- the first parameter is the slant, a number for itself; the others are multiples of the size
abbrev pub numbered : ℕ → List Word → List ℤ
numbered size [] = []
numbered size (w ∷ ws) = slant_of w ∷ map (fix_word size) ws

-- seven at least: those that are missing are 0
abbrev pub parameters_of : ℕ → List Word → List ℤ
parameters_of size ws = numbered size ws ++ replicate (7 - length (numbered size ws)) (pos 0)

abbrev pub dimensions_of : ℕ → List Word → Lengths → Dimensions
dimensions_of size words n = record {
  widths = map (fix_word size) (widths_in words n);
  heights = map (fix_word size) (heights_in words n);
  depths = map (fix_word size) (depths_in words n);
  italics = map (fix_word size) (italics_in words n);
}

unfoldable pub tables_of : FontHeader → List Word → Lengths → FontInfo
tables_of header words n = record {
  header = header;
  first = first_code n;
  characters = map char_of (characters_in words n);
  dimensions = dimensions_of header.size words n;
  boundary = boundary_of (steps_in words n);
  left_program = left_program_of (steps_in words n);
  steps = map step_of (steps_in words n);
  kerns = map (fix_word header.size) (kerns_in words n);
  recipes = map recipe_of (recipes_in words n);
  parameters = parameters_of header.size (parameters_in words n);
}
