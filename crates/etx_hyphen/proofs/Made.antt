-- What holds of a character, a ligature and a kern, and of lists put together, holds of all that a reading writes.
use Rattle.std.proofs.Common.{ℕ, zero, suc, min, Bool, true, List, [], ◌∷◌, ◌++◌, length, Option, None, Some, ◌&&◌}
use Rattle.etx_matter.specs.declared.node.Node.{Node}
use Rattle.etx_matter.specs.declared.node.LigParts.{LigParts}
use Rattle.etx_matter.specs.declared.font.PairAction.{PairAction}
use Rattle.etx_matter.specs.declared.font.PairAction.TheVariants.{Kern, Ligature}
use Rattle.etx_matter.specs.Fonts.{FontState}
use Rattle.etx_matter.specs.Ligatures.{action_between}
use Rattle.etx_tfm.specs.declared.piece.Edges.{Edges}
use Rattle.etx_tfm.specs.declared.piece.Neighbour.{Neighbour}
use Rattle.etx_tfm.specs.declared.piece.Piece.{Piece}
use Rattle.etx_tfm.specs.declared.piece.Piece.TheVariants.{LeftEdge, RightEdge, Beside, Letter, Made}
use Rattle.etx_tfm.specs.declared.reading.Reading.{Reading}
use Rattle.etx_tfm.specs.Machine.{no_edges, between, char_of, lig_of, is_end, is_right_edge, item_of, nodes_of, edges_behind, edges_with, kern_of, passed, item_if, made_of, kept, by_action, stepped, Rewrites, over, last, next}
use Rattle.etx_tfm.proofs.Running.{reads_rewrites}
use Rattle.etx_hyphen.specs.Cuts.{IsReading}

pub record Holds (P : List Node → Type 0) : Type 0 where
  pub none : P []
  pub both : (xs ys : List Node) → P xs → P ys → P (xs ++ ys)
  pub char : (font : FontState) (code : ℕ) → P (char_of font code ∷ [])
  pub lig : (font : FontState) (code : ℕ) (parts : LigParts) → P (lig_of font code parts ∷ [])
  pub kern : (font : FontState) (place : ℕ) → P (kern_of font place ∷ [])

piece_holds : (P : List Node → Type 0) → Holds P → (font : FontState) (edges : Edges) (ends : Bool) (x : Piece) → P (nodes_of font edges ends x)
piece_holds P it font edges ends LeftEdge = it.none
piece_holds P it font edges ends RightEdge = it.none
piece_holds P it font edges ends (Beside code) = it.none
piece_holds P it font edges ends (Letter code) = it.char font code
piece_holds P it font edges ends (Made code letters) = it.lig font code (record { letters = letters; left = edges.left; right = edges.right && ends })

passed_holds : (P : List Node → Type 0) → Holds P → (font : FontState) (count : ℕ) (written : List Node) (edges : Edges) (rest : List Piece) → P written → P (passed font count written edges rest).written
unfolding passed
passed_holds P it font zero written edges rest h = h
passed_holds P it font (suc count) written edges [] h = h
passed_holds P it font (suc count) written edges (x ∷ rest) h =
    passed_holds P it font count (written ++ nodes_of font edges (is_end rest) x) (edges_behind edges (is_end rest) x) rest
    (it.both written (nodes_of font edges (is_end rest) x) h (piece_holds P it font edges (is_end rest) x))

acted_holds : (P : List Node → Type 0) → Holds P → (font : FontState) (written : List Node) (edges : Edges) (x y : Piece) (rest : List Piece) (action : Option PairAction) → P written → P (by_action font written edges x y rest action).written
acted_holds P it font written edges x y rest None h =
    it.both written (nodes_of font edges (is_right_edge y) x) h (piece_holds P it font edges (is_right_edge y) x)
acted_holds P it font written edges x y rest (Some (Kern kern)) h =
    it.both (written ++ nodes_of font edges (is_right_edge y) x) (kern_of font kern ∷ [])
    (it.both written (nodes_of font edges (is_right_edge y) x) h (piece_holds P it font edges (is_right_edge y) x)) (it.kern font kern)
acted_holds P it font written edges x y rest (Some (Ligature code keeps_current keeps_next passes)) h =
    passed_holds P it font (min passes (kept keeps_current keeps_next)) written (edges_with edges x y)
    (item_if keeps_current x ++ made_of x y code keeps_current keeps_next ∷ (item_if keeps_next y ++ rest)) h

stepped_holds : (P : List Node → Type 0) → Holds P → (font : FontState) (written : List Node) (edges : Edges) (x y : Piece) (rest : List Piece) → P written → P (stepped font written edges x y rest).written
unfolding stepped
stepped_holds P it font written edges x y rest h = acted_holds P it font written edges x y rest (action_between font.info (item_of x) (item_of y)) h

rewrites_holds : (P : List Node → Type 0) → Holds P → (font : FontState) (written nodes : List Node) (edges : Edges) (items : List Piece) → Rewrites font written edges items nodes → P written → P nodes
rewrites_holds P it font written nodes edges items over h = h
rewrites_holds P it font written nodes edges items (last {x = x}) h = it.both written (nodes_of font edges true x) h (piece_holds P it font edges true x)
rewrites_holds P it font written nodes edges items (next {x = x} {y = y} {rest = rest} r) h =
    rewrites_holds P it font (stepped font written edges x y rest).written nodes (stepped font written edges x y rest).edges (stepped font written edges x y rest).rest r
    (stepped_holds P it font written edges x y rest h)

pub reading_holds : (P : List Node → Type 0) → Holds P → (font : FontState) (chars : List ℕ) (left right : Neighbour) (reading : Reading) → IsReading font chars left right reading → P reading.nodes
reading_holds P it font chars left right reading r =
    rewrites_holds P it font [] reading.nodes no_edges (between chars left right)
    (reads_rewrites font (length chars) 0 [] reading.nodes no_edges (between chars left right) [] reading.places r) it.none
