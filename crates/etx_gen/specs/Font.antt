-- The small font: its tables in the order of a TFM file, each number with its highest byte first.
use Rattle.std.specs.Prelude.{ℕ, ◌*◌, List, [], ◌∷◌, ◌++◌, if◌then◌else◌, ◌==◌, nat_le, ◌&&◌, ◌||◌}
use Rattle.std.specs.List.{flat_map, range_with_len}
use Rattle.std.specs.Int.{to_be_bytes, w16, w32}

-- The twelve lengths: of the file, the header, the first and the last code, and the lengths of ten tables.
abbrev pub lengths : List ℕ
lengths = 105 ∷ 2 ∷ 42 ∷ 122 ∷ 4 ∷ 2 ∷ 1 ∷ 1 ∷ 1 ∷ 0 ∷ 0 ∷ 7 ∷ []

-- A fix_word has 20 bits behind the point. Every number of this font is a whole number of sixteenths.
abbrev pub fix_word : ℕ → List ℕ
fix_word sixteenths = to_be_bytes w32 (sixteenths * 65536)

-- The header: the checksum 0, and the design size of 10pt.
abbrev pub header : List ℕ
header = 0 ∷ 160 ∷ []

-- The place of a character's width in the table of widths, or 0 where the character doesn't exist.
-- `-`, `.`, `i` and `l` are narrow; `m`, `w` and `*`, the ligature of `f` and `i`, are wide; the other letters are between.
abbrev pub width_index : ℕ → ℕ
width_index code =
    if code == 45 || code == 46 || code == 105 || code == 108 then 2
    else (if code == 42 || code == 109 || code == 119 then 3 else (if nat_le 97 code && nat_le code 122 then 1 else 0))

-- A character's word: the places of its width and height, its tag, and a remainder. `f`, 102, alone has the tag 1 of
-- a ligature program, which begins at step 0.
unfoldable pub character : ℕ → List ℕ
character code =
    if width_index code == 0 then 0 ∷ 0 ∷ 0 ∷ 0 ∷ [] else width_index code ∷ 16 ∷ (if code == 102 then 1 else 0) ∷ 0 ∷ []

-- In sixteenths of the design size.
abbrev pub widths : List ℕ
widths = 0 ∷ 8 ∷ 4 ∷ 12 ∷ []

abbrev pub heights : List ℕ
heights = 0 ∷ 8 ∷ []

abbrev pub depths : List ℕ
depths = 0 ∷ []

abbrev pub italics : List ℕ
italics = 0 ∷ []

-- The one step, which ends its program: before an `i`, 105, comes the ligature `*`, 42, in the place of both.
abbrev pub ligature_step : List ℕ
ligature_step = 128 ∷ 105 ∷ 0 ∷ 42 ∷ []

-- Slant, space, stretch, shrink, x-height, quad and extra space.
abbrev pub parameters : List ℕ
parameters = 0 ∷ 4 ∷ 2 ∷ 1 ∷ 8 ∷ 16 ∷ 2 ∷ []

unfoldable pub small_font : List ℕ
small_font =
    flat_map (to_be_bytes w16) lengths
    ++ flat_map fix_word header
    ++ flat_map character (range_with_len 42 81)
    ++ flat_map fix_word (widths ++ heights ++ depths ++ italics)
    ++ ligature_step
    ++ flat_map fix_word parameters
