-- What stands in a line ("TeX: The Program", sections 879 to 887).
use Rattle.std.specs.Prelude.{ℕ, Bool, ◌&&◌, if◌then◌else◌, pos, List, [], ◌∷◌, ◌++◌, Option, Some, None}
use Rattle.etx_matter.specs.declared.glue.Glue.{Glue}
use Rattle.etx_matter.specs.declared.node.Node.{Node, Node-F, out-Node, roll-Node}
use Rattle.etx_matter.specs.Layers.{NodeLayer}
use Rattle.etx_pack.specs.Packs.{inner}
use Rattle.etx_sealed.specs.Breaks.{item_at}
use Rattle.etx_sealed.specs.Lines.{after_in, kept}
use Rattle.etx_sealed.specs.Paragraphs.{Paragraph, glue_node, is_zero}

-- a discretionary at which a line was broken: its texts stand for themselves, and what it replaces is gone
unfoldable pub spent_disc : Node
spent_disc = roll-Node (Node-F.Disc (record { pre = inner []; post = inner []; replaces = 0 }))

abbrev layer_broken : Node → NodeLayer → List Node
layer_broken node (Node-F.Glue glue) = []
layer_broken node (Node-F.Leaders glue leader) = []
layer_broken node (Node-F.Disc it) = spent_disc ∷ it.pre.nodes
layer_broken node (Node-F.Kern width kind) = roll-Node (Node-F.Kern (pos 0) kind) ∷ []
layer_broken node (Node-F.Math on width) = roll-Node (Node-F.Math on (pos 0)) ∷ []
layer_broken node _ = node ∷ []

-- What stays at the end of a line of the item at which it is broken: glue goes, a kern and the edge of a formula lose their
-- widths, and behind a discretionary stands its pre-break text.
unfoldable pub broken : Node → List Node
broken node = layer_broken node (out-Node node)

abbrev pub broken_in : Option Node → List Node
broken_in None = []
broken_in (Some node) = broken node

abbrev pub is_no_glue : Glue → Bool
is_no_glue glue = is_zero glue.width && is_zero glue.stretch && is_zero glue.shrink

-- glue at the left side of a line; none where it would be nothing
unfoldable pub left_side : Glue → List Node
left_side glue = if is_no_glue glue then [] else glue_node glue ∷ []

-- the line from one place to another, with the glue on its sides; on the right there always is some
unfoldable pub line_items : Paragraph → ℕ → ℕ → List Node
line_items p i j =
    left_side p.params.skips.left ++ after_in (item_at p.list i) ++ kept p.list i j ++ broken_in (item_at p.list j)
    ++ glue_node p.params.skips.right ∷ []
