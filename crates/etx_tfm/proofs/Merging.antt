-- A ligature that takes the place of two items.
use Rattle.std.proofs.Common.{◌≡◌, ℕ, zero, min, Bool, true, false, List, ◌∷◌, Some, refl, arith}
use Rattle.std.proofs.Math.Nat.{min-zero}
use Rattle.etx_matter.specs.declared.node.Node.{Node}
use Rattle.etx_matter.specs.declared.font.PairAction.{PairAction}
use Rattle.etx_matter.specs.declared.font.PairAction.TheVariants.{Ligature}
use Rattle.etx_matter.specs.Fonts.{FontState}
use Rattle.etx_tfm.specs.declared.piece.Edges.{Edges}
use Rattle.etx_tfm.specs.declared.piece.Piece.{Piece}
use Rattle.etx_tfm.specs.Machine.{place, passed, edges_with, made_of, kept, by_next}

passed-least : (font : FontState) (passes : ℕ) (written : List Node) (edges : Edges) (rest : List Piece) → place written edges rest ≡ passed font (min passes 0) written edges rest
unfolding passed
passed-least font passes written edges rest = rw (min-zero passes) refl

pub merges : (font : FontState) (written : List Node) (edges edges' : Edges) (x y made : Piece) (all rest : List Piece) (code passes count : ℕ) (keeps_current keeps_next : Bool)
    → count ≡ kept keeps_current keeps_next → count ≡ 0 → all ≡ y ∷ rest → edges' ≡ edges_with edges x y → made ≡ made_of x y code false false
    → place written edges' (made ∷ rest) ≡ by_next font written edges x all (Some (Ligature code keeps_current keeps_next passes))
merges font written edges edges' x y made all rest code passes count true true c n e k m = absurd (omega (arith, c, n))
merges font written edges edges' x y made all rest code passes count true false c n e k m = absurd (omega (arith, c, n))
merges font written edges edges' x y made all rest code passes count false true c n e k m = absurd (omega (arith, c, n))
merges font written edges edges' x y made all rest code passes count false false c n e k m =
    rw (e, k, m) (passed-least font passes written (edges_with edges x y) (made_of x y code false false ∷ rest))
