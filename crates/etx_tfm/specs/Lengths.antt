-- The twelve numbers of 16 bits at the front of a TFM file, and where its tables begin: "TeX: The Program", sections 540
-- and 565.
use Rattle.std.specs.Prelude.{ℕ, ◌+◌, ◌-◌, ◌*◌, Bool, ◌||◌, ◌==◌, nat_lt, nat_le, List, [], ◌∷◌, length, drop}
use Rattle.std.specs.List.{list_any}
use Rattle.byteorder.specs.Endian.{big_number}
use Rattle.etx_matter.specs.Fonts.{opposite}
use Rattle.etx_tfm.specs.declared.lengths.Lengths.{Lengths}

unfoldable pub half_at : List ℕ → ℕ → ℕ
half_at bytes place = big_number 2 (drop (2 * place) bytes)

abbrev pub lengths_of : List ℕ → Lengths
lengths_of bytes = record {
  file = half_at bytes 0;
  header = half_at bytes 1;
  first = half_at bytes 2;
  last = half_at bytes 3;
  widths = half_at bytes 4;
  heights = half_at bytes 5;
  depths = half_at bytes 6;
  italics = half_at bytes 7;
  steps = half_at bytes 8;
  kerns = half_at bytes 9;
  recipes = half_at bytes 10;
  parameters = half_at bytes 11;
}

-- how many characters have a word
abbrev pub character_count : Lengths → ℕ
character_count n = n.last + 1 - n.first

-- where each table begins, in words behind the lengths: header, characters, widths, heights, depths, italic corrections,
-- steps, kerns, recipes and parameters follow one another
abbrev pub characters_at : Lengths → ℕ
characters_at n = n.header

abbrev pub widths_at : Lengths → ℕ
widths_at n = characters_at n + character_count n

abbrev pub heights_at : Lengths → ℕ
heights_at n = widths_at n + n.widths

abbrev pub depths_at : Lengths → ℕ
depths_at n = heights_at n + n.heights

abbrev pub italics_at : Lengths → ℕ
italics_at n = depths_at n + n.depths

abbrev pub steps_at : Lengths → ℕ
steps_at n = italics_at n + n.italics

abbrev pub kerns_at : Lengths → ℕ
kerns_at n = steps_at n + n.steps

abbrev pub recipes_at : Lengths → ℕ
recipes_at n = kerns_at n + n.kerns

abbrev pub parameters_at : Lengths → ℕ
parameters_at n = recipes_at n + n.recipes

-- the length of a file with these tables; the lengths themselves take six words
abbrev pub total : Lengths → ℕ
total n = parameters_at n + n.parameters + 6

unfoldable pub all_lengths : Lengths → List ℕ
all_lengths n =
    n.file ∷ n.header ∷ n.first ∷ n.last ∷ n.widths ∷ n.heights ∷ n.depths ∷ n.italics ∷ n.steps ∷ n.kerns ∷ n.recipes
    ∷ n.parameters ∷ []

-- the codes are no range of codes up to 255; a range may be empty
abbrev pub has_bad_codes : Lengths → Bool
has_bad_codes n = nat_lt (n.last + 1) n.first || nat_lt 255 n.last

abbrev pub has_empty_table : Lengths → Bool
has_empty_table n = n.widths == 0 || n.heights == 0 || n.depths == 0 || n.italics == 0

-- damage of the kind Short: the lengths aren't all there, or the file isn't
unfoldable pub is_short : List ℕ → Bool
is_short bytes = nat_lt (length bytes) 24 || nat_lt (length bytes) (4 * half_at bytes 0)

-- damage of the kind Sizes
unfoldable pub has_wrong_sizes : Lengths → Bool
has_wrong_sizes n =
    list_any (nat_le 32768) (all_lengths n) || has_bad_codes n || opposite (n.file == total n) || has_empty_table n
