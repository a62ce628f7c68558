-- What the programs of a font say of two neighbours: "TeX: The Program", sections 545 and 1039.
use Rattle.std.specs.Prelude.{ℕ, zero, suc, ◌+◌, ◌*◌, min, Bool, true, false, ◌&&◌, ◌||◌, ◌==◌, nat_lt, if◌then◌else◌, List, [], ◌∷◌, drop, slice_get, Option, None, Some, is_none}
use Rattle.std.specs.Option.{option_and_then}
use Rattle.etx_matter.specs.declared.font.CharTag.{CharTag}
use Rattle.etx_matter.specs.declared.font.CharTag.TheVariants.{Plain, Program, Successor, Extensible}
use Rattle.etx_matter.specs.declared.font.CharInfo.{CharInfo}
use Rattle.etx_matter.specs.declared.font.PairAction.{PairAction}
use Rattle.etx_matter.specs.declared.font.PairAction.TheVariants.{Kern, Ligature}
use Rattle.etx_matter.specs.declared.font.LigItem.{LigItem}
use Rattle.etx_matter.specs.declared.font.LigItem.TheVariants.{Boundary, Glyph}
use Rattle.etx_matter.specs.declared.font.LigStep.{LigStep}
use Rattle.etx_matter.specs.declared.font.LigStep.TheVariants.{Pair, Elsewhere}
use Rattle.etx_matter.specs.declared.font.FontInfo.{FontInfo}
use Rattle.etx_matter.specs.Fonts.{info_at, exists, is_boundary}

-- a character's program whose first step is never carried out really begins at the step that this one names
abbrev pub sent_on : ℕ → Option LigStep → ℕ
sent_on place None = place
sent_on place (Some (Pair next action skip)) = place
sent_on place (Some (Elsewhere other)) = other

abbrev pub tag_program : FontInfo → CharTag → Option ℕ
tag_program font Plain = None
tag_program font (Program place) = Some (sent_on place (slice_get font.steps place))
tag_program font (Successor code) = None
tag_program font (Extensible recipe) = None

-- a character that doesn't exist has no program
abbrev pub character_program : FontInfo → Option CharInfo → Option ℕ
character_program font None = None
character_program font (Some c) = if nat_lt 0 c.width then tag_program font c.tag else None

-- the step at which the program begins of what stands on the left
abbrev pub program_of : FontInfo → LigItem → Option ℕ
program_of font Boundary = font.left_program
program_of font (Glyph code) = character_program font (info_at font code)

-- a step names what stands on the right: a character that exists, or the boundary, if the font has a character for it
abbrev pub names : FontInfo → ℕ → LigItem → Bool
names font next Boundary = is_boundary font next
names font next (Glyph code) = code == next && exists font code

-- what is to be done where `right` follows, in these steps of a program after so many that are passed over: that of the
-- first step that names it
unfoldable pub found_in : FontInfo → LigItem → ℕ → List LigStep → Option PairAction
found_in font right skipped [] = None
found_in font right (suc skipped) (step ∷ steps) = found_in font right skipped steps
found_in font right zero (Elsewhere place ∷ steps) = None
found_in font right zero (Pair next action skip ∷ steps) =
    if names font next right then Some action
    else option_and_then (λ skipped. found_in font right skipped steps) skip

-- what is to be done between two neighbours
unfoldable pub action_between : FontInfo → LigItem → LigItem → Option PairAction
action_between font left right =
    option_and_then (λ place. found_in font right 0 (drop place font.steps)) (program_of font left)

-- Two neighbours are rewritten alone until nothing stands behind the cursor. What stands at the cursor then is what they
-- come to. For a ligature between `x` and `y`, one case for each of what it keeps and of where the cursor goes; `find`
-- says what further neighbours come to.
abbrev pub by_ligature : (LigItem → LigItem → Option LigItem) → LigItem → LigItem → ℕ → Bool → Bool → ℕ → Option LigItem
by_ligature find x y code false false passes = Some (Glyph code)
by_ligature find x y code true false zero = find x (Glyph code)
by_ligature find x y code true false (suc passes) = Some (Glyph code)
by_ligature find x y code false true zero = find (Glyph code) y
by_ligature find x y code false true (suc passes) = Some y
by_ligature find x y code true true zero = option_and_then (λ end. find end y) (find x (Glyph code))
by_ligature find x y code true true (suc zero) = find (Glyph code) y
by_ligature find x y code true true (suc (suc passes)) = Some y

-- without a ligature the cursor comes to `y`
abbrev pub by_pair : (LigItem → LigItem → Option LigItem) → LigItem → LigItem → Option PairAction → Option LigItem
by_pair find x y None = Some y
by_pair find x y (Some (Kern place)) = Some y
by_pair find x y (Some (Ligature code keeps_current keeps_next passes)) = by_ligature find x y code keeps_current keeps_next passes

-- what two neighbours come to, if that is found with at most so many pairs one within the other
unfoldable pub last : FontInfo → ℕ → LigItem → LigItem → Option LigItem
last font zero x y = None
last font (suc depth) x y = by_pair (last font depth) x y (action_between font x y)

-- some number below n passes
unfoldable pub any_below : (ℕ → Bool) → ℕ → Bool
any_below test zero = false
any_below test (suc n) = test n || any_below test n

-- the boundary or some character passes
abbrev pub some_item : (LigItem → Bool) → Bool
some_item test = test Boundary || any_below (λ code. test (Glyph code)) 256

unfoldable pub ligature_count : List LigStep → ℕ
ligature_count [] = 0
ligature_count (Elsewhere place ∷ steps) = ligature_count steps
ligature_count (Pair next (Kern kern) skip ∷ steps) = ligature_count steps
ligature_count (Pair next (Ligature code keeps_current keeps_next passes) skip ∷ steps) = ligature_count steps + 1

-- A pair with a ligature has an item of 257 on the left and a step that names the one on the right, and a step names two
-- items at most, a character and the boundary. So no more pairs than these, and one without a ligature, stand one within
-- the other, unless one of them comes again. There are 257 times 257 pairs in all.
unfoldable pub deepest : FontInfo → ℕ
deepest font = min (514 * ligature_count font.steps + 1) 66_049

-- Ligatures come round where what some pair comes to can't be found without that of the same pair.
unfoldable pub comes_round : FontInfo → Bool
comes_round font = some_item (λ x. some_item (λ y. is_none (last font (deepest font) x y)))
