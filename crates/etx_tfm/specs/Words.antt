-- The words of a TFM file, four bytes each, and what each says: "TeX: The Program", sections 541 to 546.
use Rattle.std.specs.Prelude.{ℕ, ◌+◌, ◌-◌, ◌*◌, ◌/◌, ◌%◌, ◌==◌, nat_lt, nat_le, Bool, ◌&&◌, ◌||◌, if◌then◌else◌, List, [], ◌∷◌, Option, None, Some}
use Rattle.etx_matter.specs.declared.font.CharTag.{CharTag}
use Rattle.etx_matter.specs.declared.font.CharTag.TheVariants.{Plain, Program, Successor, Extensible}
use Rattle.etx_matter.specs.declared.font.CharInfo.{CharInfo}
use Rattle.etx_matter.specs.declared.font.PairAction.{PairAction}
use Rattle.etx_matter.specs.declared.font.PairAction.TheVariants.{Kern, Ligature}
use Rattle.etx_matter.specs.declared.font.LigStep.{LigStep}
use Rattle.etx_matter.specs.declared.font.LigStep.TheVariants.{Pair, Elsewhere}
use Rattle.etx_matter.specs.declared.font.Recipe.{Recipe}
use Rattle.etx_tfm.specs.declared.word.Word.{Word}

-- what is less than a word at the end is left out
unfoldable pub words_of : List ℕ → List Word
words_of (a ∷ b ∷ c ∷ d ∷ rest) = record { a = a; b = b; c = c; d = d } ∷ words_of rest
words_of _ = []

-- a tag of two bits, and the byte that goes with it
abbrev pub tag_of : ℕ → ℕ → CharTag
tag_of tag remainder =
    if tag == 0 then Plain
    else (if tag == 1 then Program remainder else (if tag == 2 then Successor remainder else Extensible remainder))

-- a word of the characters: places of width, height, depth and italic correction in 8, 4, 4 and 6 bits, and the tag
abbrev pub char_of : Word → CharInfo
char_of w =
    record { width = w.a; height = w.b / 16; depth = w.b % 16; italic = w.c / 4; tag = tag_of (w.c % 4) w.d }

-- the operations below 128 that have a meaning
abbrev pub is_lawful : ℕ → Bool
is_lawful operation = nat_le operation 3 || nat_le 5 operation && nat_le operation 7 || operation == 11

-- any other counts as 0, as it does when TeX carries it out (section 1040) and when TFtoPL reads it
abbrev pub counted_as : ℕ → ℕ
counted_as operation = if is_lawful operation then operation else 0

-- 4a+2b+c for a ligature after which the cursor passes over a characters, and where b and c say whether the current and
-- the next character stay; a is at most b+c in those that have a meaning
abbrev pub ligature_of : ℕ → ℕ → PairAction
ligature_of operation code = Ligature code (operation / 2 % 2 == 1) (operation % 2 == 1) (operation / 4)

-- from 128 on a kern, and below a ligature
abbrev pub action_of : ℕ → ℕ → PairAction
action_of operation remainder =
    if nat_le 128 operation then Kern ((operation - 128) * 256 + remainder)
    else ligature_of (counted_as operation) remainder

-- a step: skip, next character, operation and remainder. A skip of 128 or more ends a program, and a step whose skip is
-- above 128 is never carried out.
abbrev pub step_of : Word → LigStep
step_of w =
    if nat_lt 128 w.a then Elsewhere (w.c * 256 + w.d)
    else Pair w.b (action_of w.c w.d) (if nat_lt w.a 128 then Some w.a else None)

abbrev pub part_of : ℕ → Option ℕ
part_of code = if code == 0 then None else Some code

abbrev pub recipe_of : Word → Recipe
recipe_of w = record { top = part_of w.a; middle = part_of w.b; bottom = part_of w.c; repeated = w.d }
