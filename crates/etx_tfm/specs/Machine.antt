-- The ligatures and kerns of a run of characters: a list that is rewritten at a cursor. "TeX: The Program", sections 545
-- and 1029 to 1040; there the list is spread over a part that is finished, a character and a stack of ligatures,
-- and the edges are `lft_hit` and `rt_hit`.
use Rattle.std.specs.Prelude.{◌≡◌, ℕ, zero, suc, min, Bool, true, false, ◌&&◌, ◌||◌, ℤ, pos, List, [], ◌∷◌, ◌++◌, length, take, map, slice_get, Option, None, Some, unwrap_or}
use Rattle.etx_matter.specs.declared.node.Node.{Node, Node-F, roll-Node}
use Rattle.etx_matter.specs.declared.node.LigParts.{LigParts}
use Rattle.etx_matter.specs.declared.node.KernKind.TheVariants as kern
use Rattle.etx_matter.specs.declared.sizes.CharSize.{CharSize}
use Rattle.etx_matter.specs.declared.font.CharInfo.{CharInfo}
use Rattle.etx_matter.specs.declared.font.Dimensions.{Dimensions}
use Rattle.etx_matter.specs.declared.font.PairAction.{PairAction}
use Rattle.etx_matter.specs.declared.font.PairAction.TheVariants.{Kern, Ligature}
use Rattle.etx_matter.specs.declared.font.LigItem.{LigItem}
use Rattle.etx_matter.specs.declared.font.LigItem.TheVariants.{Boundary, Glyph}
use Rattle.etx_matter.specs.declared.font.FontInfo.{FontInfo}
use Rattle.etx_matter.specs.Fonts.{FontState, opposite, info_at}
use Rattle.etx_matter.specs.Ligatures.{action_between}
use Rattle.etx_tfm.specs.declared.piece.Edges.{Edges}
use Rattle.etx_tfm.specs.declared.piece.Neighbour.{Neighbour}
use Rattle.etx_tfm.specs.declared.piece.Neighbour.TheVariants as side
use Rattle.etx_tfm.specs.declared.piece.Piece.{Piece}
use Rattle.etx_tfm.specs.declared.piece.Piece.TheVariants.{LeftEdge, RightEdge, Beside, Letter, Made}

-- how a program sees an item of the list
abbrev pub item_of : Piece → LigItem
item_of LeftEdge = Boundary
item_of RightEdge = Boundary
item_of (Beside code) = Glyph code
item_of (Letter code) = Glyph code
item_of (Made code letters) = Glyph code

-- the letters that an item stands for
abbrev pub letters_of : Piece → List ℕ
letters_of LeftEdge = []
letters_of RightEdge = []
letters_of (Beside code) = []
letters_of (Letter code) = code ∷ []
letters_of (Made code letters) = letters

abbrev pub is_left_edge : Piece → Bool
is_left_edge LeftEdge = true
is_left_edge RightEdge = false
is_left_edge (Beside code) = false
is_left_edge (Letter code) = false
is_left_edge (Made code letters) = false

abbrev pub is_right_edge : Piece → Bool
is_right_edge LeftEdge = false
is_right_edge RightEdge = true
is_right_edge (Beside code) = false
is_right_edge (Letter code) = false
is_right_edge (Made code letters) = false

-- nothing follows but the right edge of the word, behind which nothing stands
abbrev pub is_end : List Piece → Bool
is_end [] = true
is_end (x ∷ rest) = is_right_edge x

-- how a program sees the item at the cursor
abbrev pub next_item : List Piece → Option LigItem
next_item [] = None
next_item (x ∷ rest) = Some (item_of x)

-- a number of a table; places that lead to nothing don't come up in a font
abbrev pub number_at : List ℤ → ℕ → ℤ
number_at numbers place = unwrap_or (slice_get numbers place) (pos 0)

abbrev pub size_by : Dimensions → CharInfo → CharSize
size_by d c = record {
  width = number_at d.widths c.width;
  height = number_at d.heights c.height;
  depth = number_at d.depths c.depth;
  italic = number_at d.italics c.italic;
}

-- the sizes of a character; all are 0 where the font has no word for it
abbrev pub size_in : FontInfo → Option CharInfo → CharSize
size_in font None = record { width = pos 0; height = pos 0; depth = pos 0; italic = pos 0 }
size_in font (Some c) = size_by font.dimensions c

abbrev pub size_of : FontInfo → ℕ → CharSize
size_of font code = size_in font (info_at font code)

-- Which edges of the word took part in a ligature of which no node has told yet. An edge takes part where it is one of the
-- two items between which a ligature is made, whether it stays or not; of two edges the left one alone counts.
abbrev pub no_edges : Edges
no_edges = record { left = false; right = false }

abbrev pub edges_with : Edges → Piece → Piece → Edges
edges_with edges x y = record {
  left = edges.left || is_left_edge x;
  right = edges.right || opposite (is_left_edge x) && is_right_edge y;
}

-- the nodes of a letter and of a ligature
abbrev pub char_of : FontState → ℕ → Node
char_of font code = roll-Node (Node-F.Char font.number code (size_of font.info code))

abbrev pub lig_of : FontState → ℕ → LigParts → Node
lig_of font code parts = roll-Node (Node-F.Lig font.number code (size_of font.info code) parts)

-- What an item becomes when the cursor passes it; an edge becomes nothing, and so does a character that stands beside the
-- word. A ligature tells of the left edge, and, if it
-- is the last item of the word, of the right one.
abbrev pub nodes_of : FontState → Edges → Bool → Piece → List Node
nodes_of font edges ends LeftEdge = []
nodes_of font edges ends RightEdge = []
nodes_of font edges ends (Beside code) = []
nodes_of font edges ends (Letter code) = char_of font code ∷ []
nodes_of font edges ends (Made code letters) =
    lig_of font code (record { letters = letters; left = edges.left; right = edges.right && ends }) ∷ []

-- the edges of which no node has told when the cursor has passed an item
abbrev pub edges_behind : Edges → Bool → Piece → Edges
edges_behind edges ends LeftEdge = edges
edges_behind edges ends RightEdge = edges
edges_behind edges ends (Beside code) = edges
edges_behind edges ends (Letter code) = edges
edges_behind edges ends (Made code letters) = record { left = false; right = edges.right && opposite ends }

abbrev pub kern_of : FontState → ℕ → Node
kern_of font place = roll-Node (Node-F.Kern (number_at font.info.kerns place) kern.Normal)

-- what is written before the cursor, the edges of which it doesn't tell yet, and the items from the cursor on
pub record Place : Type 0 where
  pub written : List Node
  pub edges : Edges
  pub rest : List Piece

abbrev pub place : List Node → Edges → List Piece → Place
place written edges rest = record { written = written; edges = edges; rest = rest }

-- the cursor passes over so many items, or over all that there are
unfoldable pub passed : FontState → ℕ → List Node → Edges → List Piece → Place
passed font zero written edges rest = record { written = written; edges = edges; rest = rest }
passed font (suc count) written edges [] = record { written = written; edges = edges; rest = [] }
passed font (suc count) written edges (x ∷ rest) =
    passed font count (written ++ nodes_of font edges (is_end rest) x) (edges_behind edges (is_end rest) x) rest

abbrev pub item_if : Bool → Piece → List Piece
item_if true x = x ∷ []
item_if false x = []

abbrev pub letters_unless : Bool → Piece → List ℕ
letters_unless true x = []
letters_unless false x = letters_of x

-- a ligature stands for what it takes the place of
abbrev pub made_of : Piece → Piece → ℕ → Bool → Bool → Piece
made_of x y code keeps_current keeps_next = Made code (letters_unless keeps_current x ++ letters_unless keeps_next y)

abbrev pub kept : Bool → Bool → ℕ
kept true true = 2
kept true false = 1
kept false true = 1
kept false false = 0

-- what becomes of the item at the cursor and the next one: where nothing is to be done, the cursor passes over one item. It
-- never passes over more items than stay of the two; no step of a TFM file that has a meaning asks for that.
abbrev pub by_action : FontState → List Node → Edges → Piece → Piece → List Piece → Option PairAction → Place
by_action font written edges x y rest None = record {
  written = written ++ nodes_of font edges (is_right_edge y) x;
  edges = edges_behind edges (is_right_edge y) x;
  rest = y ∷ rest;
}
by_action font written edges x y rest (Some (Kern kern)) = record {
  written = written ++ nodes_of font edges (is_right_edge y) x ++ kern_of font kern ∷ [];
  edges = edges_behind edges (is_right_edge y) x;
  rest = y ∷ rest;
}
by_action font written edges x y rest (Some (Ligature code keeps_current keeps_next passes)) =
    passed font (min passes (kept keeps_current keeps_next)) written (edges_with edges x y)
    (item_if keeps_current x ++ made_of x y code keeps_current keeps_next ∷ (item_if keeps_next y ++ rest))

-- the same where the items behind the one at the cursor are given as a list
abbrev pub by_next : FontState → List Node → Edges → Piece → List Piece → Option PairAction → Place
by_next font written edges x [] action = record { written = written; edges = edges; rest = [] }
by_next font written edges x (y ∷ rest) action = by_action font written edges x y rest action

unfoldable pub stepped : FontState → List Node → Edges → Piece → Piece → List Piece → Place
stepped font written edges x y rest =
    by_action font written edges x y rest (action_between font.info (item_of x) (item_of y))

-- a list is rewritten until no item stands behind the cursor, and then the last one is written
pub data Rewrites (font : FontState) : List Node → Edges → List Piece → List Node → Type 0 where
  over : {written : List Node} {edges : Edges} → Rewrites font written edges [] written
  last : {written : List Node} {edges : Edges} {x : Piece} → Rewrites font written edges (x ∷ []) (written ++ nodes_of font edges true x)
  next : {written nodes : List Node} {edges : Edges} {x y : Piece} {rest : List Piece} → Rewrites font (stepped font written edges x y rest).written (stepped font written edges x y rest).edges (stepped font written edges x y rest).rest nodes → Rewrites font written edges (x ∷ y ∷ rest) nodes

-- what one place comes to, an earlier one comes to as well
abbrev pub ComesTo : FontState → List Node → Edges → List Piece → List Node → Edges → List Piece → Type 0
ComesTo font written edges rest written' edges' rest' =
    (nodes : List Node) → Rewrites font written' edges' rest' nodes → Rewrites font written edges rest nodes

-- the new list begins with the old one
abbrev pub Begins : List Node → List Node → Type 0
Begins old new = take (length old) new ≡ old

-- the item that stands for a neighbour, where its edge of the word is given
abbrev pub side_of : Piece → Neighbour → List Piece
side_of edge side.Nothing = []
side_of edge side.Boundary = edge ∷ []
side_of edge (side.Character code) = Beside code ∷ []

-- a word between its neighbours
abbrev pub between : List ℕ → Neighbour → Neighbour → List Piece
between chars left right = side_of LeftEdge left ++ map Letter chars ++ side_of RightEdge right

abbrev pub boundary_if : Bool → Neighbour
boundary_if true = side.Boundary
boundary_if false = side.Nothing

-- the word with the edges that are asked for
abbrev pub edged : List ℕ → Bool → Bool → List Piece
edged chars left right = between chars (boundary_if left) (boundary_if right)
