-- The places of a word at which it can be cut: what stands on either side of a clean place doesn't hang on the other side.
-- A place is clean where the cursor passes from the item that ends with the letter before it to the letter behind it,
-- while no ligature has touched that letter, and the two have no step of a program.
use Rattle.std.specs.Prelude.{ℕ, ◌+◌, ◌-◌, min, Bool, true, false, ◌&&◌, nat_lt, List, [], ◌∷◌, ◌++◌, length, Option, None, Some}
use Rattle.etx_matter.specs.declared.node.Node.{Node}
use Rattle.etx_matter.specs.declared.font.PairAction.{PairAction}
use Rattle.etx_matter.specs.declared.font.PairAction.TheVariants.{Kern, Ligature}
use Rattle.etx_matter.specs.Fonts.{FontState}
use Rattle.etx_matter.specs.Ligatures.{action_between}
use Rattle.etx_tfm.specs.declared.piece.Edges.{Edges}
use Rattle.etx_tfm.specs.declared.piece.Piece.{Piece}
use Rattle.etx_tfm.specs.declared.piece.Piece.TheVariants.{LeftEdge, RightEdge, Beside, Letter, Made}
use Rattle.etx_tfm.specs.declared.reading.CleanPlace.{CleanPlace}
use Rattle.etx_tfm.specs.Machine.{item_of, letters_of, nodes_of, kept, stepped}

-- the items of a word from the cursor on, and how many of them a ligature has touched: those stand in front
pub record RestState : Type 0 where
  pub items : List Piece
  pub touched : ℕ

-- a list turned round, and another one behind it
abbrev pub turned_behind : List Piece → List Piece → List Piece
turned_behind [] rest = rest
turned_behind (x ∷ xs) rest = turned_behind xs (x ∷ rest)

-- how many letters these items stand for
abbrev pub letters_in : List Piece → ℕ
letters_in [] = 0
letters_in (x ∷ rest) = length (letters_of x) + letters_in rest

-- a letter of the word ends here, or what stands before the word
abbrev pub holds_end : Piece → Bool
holds_end LeftEdge = true
holds_end RightEdge = false
holds_end (Beside code) = true
holds_end (Letter code) = true
holds_end (Made code []) = false
holds_end (Made code (letter ∷ letters)) = true

-- how many items from the cursor on are touched when what is to be done between the first two is done, if so many behind
-- the first one were before: a ligature touches the two, of those that stay, and what it makes
abbrev pub touched_behind : ℕ → Option PairAction → ℕ
touched_behind touched None = touched
touched_behind touched (Some (Kern kern)) = touched
touched_behind touched (Some (Ligature code keeps_current keeps_next passes)) =
    touched - 1 + kept keeps_current keeps_next + 1 - min passes (kept keeps_current keeps_next)

-- the cursor passes from `x` to the next item, which isn't touched, and nothing is to be done between them
abbrev pub is_clean : ℕ → Piece → Option PairAction → Bool
is_clean touched x None = nat_lt touched 1 && holds_end x
is_clean touched x (Some action) = false

-- the place there: so many letters stand before it, of so many in the word, and so many nodes
abbrev pub clean_place : ℕ → List Node → List Piece → CleanPlace
clean_place total written rest = record { letters = total - letters_in rest; nodes = length written }

abbrev pub place_if : Bool → CleanPlace → List CleanPlace
place_if true place = place ∷ []
place_if false place = []

-- The machine with its clean places, in the order in which the cursor comes to them: `touched` counts the touched items
-- behind the one at the cursor, and `places` are those that it has passed.
pub data Reads (font : FontState) (total : ℕ) : ℕ → List Node → Edges → List Piece → List CleanPlace → List Node → List CleanPlace → Type 0 where
  over : {touched : ℕ} {written : List Node} {edges : Edges} {places : List CleanPlace} → Reads font total touched written edges [] places written places
  last :
      {touched : ℕ} {written : List Node} {edges : Edges} {x : Piece} {places : List CleanPlace}
      → Reads font total touched written edges (x ∷ []) places (written ++ nodes_of font edges true x) places
  next :
      {touched : ℕ} {written nodes : List Node} {edges : Edges} {x y : Piece} {rest : List Piece} {places passed : List CleanPlace}
      → Reads font total (touched_behind (touched - 1) (action_between font.info (item_of x) (item_of y)))
      (stepped font written edges x y rest).written (stepped font written edges x y rest).edges (stepped font written edges x y rest).rest
      (places ++ place_if (is_clean (touched - 1) x (action_between font.info (item_of x) (item_of y))) (clean_place total (stepped font written edges x y rest).written (y ∷ rest))) nodes passed
      → Reads font total touched written edges (x ∷ y ∷ rest) places nodes passed

-- what one place comes to, an earlier one comes to as well
abbrev pub ReadsOn : FontState → ℕ → ℕ → List Node → Edges → List Piece → List CleanPlace → ℕ → List Node → Edges → List Piece → List CleanPlace → Type 0
ReadsOn font total touched written edges rest places touched' written' edges' rest' places' =
    (nodes : List Node) (passed : List CleanPlace) → Reads font total touched' written' edges' rest' places' nodes passed → Reads font total touched written edges rest places nodes passed
