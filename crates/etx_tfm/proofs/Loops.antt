-- What stays so in loops.
use Rattle.std.proofs.Common.{◌≡◌, ℕ, ◌-◌, List}
use Rattle.etx_matter.specs.declared.node.Node.{Node}
use Rattle.etx_matter.specs.Fonts.{FontState}
use Rattle.etx_tfm.specs.declared.piece.Edges.{Edges}
use Rattle.etx_tfm.specs.declared.piece.Piece.{Piece}
use Rattle.etx_tfm.specs.Machine.{passed, Begins, ComesTo}

pub record Passes (font : FontState) (count counter : ℕ) (first : List Node) (none : Edges) (items : List Piece) (touched : ℕ) (written : List Node) (edges : Edges) (rest : List Piece) (left : ℕ) : Type 0 where
  pub comes : passed font (count - counter) written edges rest ≡ passed font count first none items
  pub less : left ≡ touched - counter
  pub begins : Begins first written

pub record Goes (font : FontState) (first : List Node) (none : Edges) (items : List Piece) (written : List Node) (edges : Edges) (rest : List Piece) : Type 0 where
  pub comes : ComesTo font first none items written edges rest
  pub begins : Begins first written
