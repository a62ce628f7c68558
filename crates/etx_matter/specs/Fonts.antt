-- The tables of a font, and what may be wrong with them, by the definition of TFM ("TeX: The Program", sections 543 to
-- 546, and 569 to 574, where TeX refuses them).
use Rattle.std.specs.Prelude.{ℕ, zero, suc, ◌+◌, ◌-◌, Bool, true, false, ◌||◌, ◌==◌, nat_lt, nat_le, if◌then◌else◌, List, [], ◌∷◌, length, slice_get, Option, None, Some, is_none}
use Rattle.std.specs.List.{list_any}
use Rattle.std.specs.Option.{option_map_or}
use Rattle.etx_matter.specs.declared.font.CharTag.{CharTag}
use Rattle.etx_matter.specs.declared.font.CharTag.TheVariants.{Plain, Program, Successor, Extensible}
use Rattle.etx_matter.specs.declared.font.CharInfo.{CharInfo}
use Rattle.etx_matter.specs.declared.font.PairAction.{PairAction}
use Rattle.etx_matter.specs.declared.font.PairAction.TheVariants.{Kern, Ligature}
use Rattle.etx_matter.specs.declared.font.LigStep.{LigStep}
use Rattle.etx_matter.specs.declared.font.LigStep.TheVariants.{Pair, Elsewhere}
use Rattle.etx_matter.specs.declared.font.Recipe.{Recipe}
use Rattle.etx_matter.specs.declared.font.Dimensions.{Dimensions}
use Rattle.etx_matter.specs.declared.font.FontInfo.{FontInfo}

-- a font as contracts see it
pub record FontState : Type 0 where
  pub number : ℕ
  pub info : FontInfo

abbrev pub opposite : Bool → Bool
opposite true = false
opposite false = true

-- the word of a character, where there is one for its code
unfoldable pub info_at : FontInfo → ℕ → Option CharInfo
info_at font code = if nat_lt code font.first then None else slice_get font.characters (code - font.first)

-- a character exists if its place among the widths isn't 0
abbrev pub has_width : Option CharInfo → Bool
has_width None = false
has_width (Some c) = nat_lt 0 c.width

abbrev pub exists : FontInfo → ℕ → Bool
exists font code = has_width (info_at font code)

-- the character that follows in a list of greater and greater ones
abbrev pub listed_next : CharTag → Option ℕ
listed_next Plain = None
listed_next (Program step) = None
listed_next (Successor code) = Some code
listed_next (Extensible recipe) = None

abbrev pub tag_next : Option CharInfo → Option ℕ
tag_next None = None
tag_next (Some c) = listed_next c.tag

abbrev pub successor : FontInfo → ℕ → Option ℕ
successor font code = tag_next (info_at font code)

-- the list that goes on behind `code` comes to `home` within so many characters
unfoldable pub comes_to : FontInfo → ℕ → ℕ → ℕ → Bool
comes_to font home zero code = false
comes_to font home (suc count) code =
    option_map_or (λ next. next == home || comes_to font home count next) (successor font code) false

-- the list of one of these characters, of which the first has this code, comes round: it comes back to the character
-- where it begins. There are 256 codes, so it does so within as many characters or never.
unfoldable pub has_round_list : FontInfo → ℕ → List CharInfo → Bool
has_round_list font code [] = false
has_round_list font code (c ∷ cs) = comes_to font code 256 code || has_round_list font (code + 1) cs

-- a character's tag leads to nothing
abbrev pub has_bad_tag : FontInfo → CharTag → Bool
has_bad_tag font Plain = false
has_bad_tag font (Program step) = nat_le (length font.steps) step
has_bad_tag font (Successor code) = is_none (info_at font code)
has_bad_tag font (Extensible recipe) = nat_le (length font.recipes) recipe

abbrev pub has_bad_dimension : Dimensions → CharInfo → Bool
has_bad_dimension d c =
    nat_le (length d.widths) c.width || nat_le (length d.heights) c.height
    || nat_le (length d.depths) c.depth || nat_le (length d.italics) c.italic

-- a place in a table isn't below the table's length
abbrev pub has_bad_place : FontInfo → CharInfo → Bool
has_bad_place font c = has_bad_dimension font.dimensions c || has_bad_tag font c.tag

-- damage of the kind Char
unfoldable pub has_bad_characters : FontInfo → Bool
has_bad_characters font =
    list_any (has_bad_place font) font.characters || has_round_list font font.first font.characters

abbrev pub is_boundary : FontInfo → ℕ → Bool
is_boundary font code = option_map_or (λ b. b == code) font.boundary false

-- the ligature doesn't exist, or there is no such kern
abbrev pub has_bad_action : FontInfo → PairAction → Bool
has_bad_action font (Kern kern) = nat_le (length font.kerns) kern
has_bad_action font (Ligature code keeps_current keeps_next passes) = opposite (exists font code)

-- the next step, so many steps behind this one and one more, isn't among the steps that stand behind
abbrev pub has_bad_skip : ℕ → Option ℕ → Bool
has_bad_skip behind None = false
has_bad_skip behind (Some skip) = nat_le behind skip

-- a step, behind which so many stand, leads to nothing
abbrev pub has_bad_step : FontInfo → ℕ → LigStep → Bool
has_bad_step font behind (Pair next action skip) =
    opposite (exists font next || is_boundary font next) || has_bad_action font action || has_bad_skip behind skip
has_bad_step font behind (Elsewhere place) = nat_le (length font.steps) place

unfoldable pub has_bad_among : FontInfo → List LigStep → Bool
has_bad_among font [] = false
has_bad_among font (step ∷ steps) = has_bad_step font (length steps) step || has_bad_among font steps

-- a part is named that doesn't exist
abbrev pub has_bad_part : FontInfo → Option ℕ → Bool
has_bad_part font None = false
has_bad_part font (Some code) = opposite (exists font code)

abbrev pub has_bad_recipe : FontInfo → Recipe → Bool
has_bad_recipe font r =
    has_bad_part font r.top || has_bad_part font r.middle || has_bad_part font r.bottom || opposite (exists font r.repeated)

-- damage of the kind Exten
unfoldable pub has_bad_recipes : FontInfo → Bool
has_bad_recipes font = list_any (has_bad_recipe font) font.recipes
