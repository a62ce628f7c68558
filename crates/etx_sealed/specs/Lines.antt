-- What stands in a line from one place of a paragraph to a later one, and what it measures ("TeX: The Program", sections 837
-- to 844 and 879 to 885).
use Rattle.std.specs.Prelude.{ℕ, ◌+◌, ◌-◌, Bool, true, false, List, [], ◌++◌, take, drop, Option, Some, None}
use Rattle.std.specs.List.{prefix_len}
use Rattle.etx_matter.specs.declared.node.Node.{Node, Node-F, out-Node}
use Rattle.etx_matter.specs.Layers.{NodeLayer}
use Rattle.etx_sealed.specs.declared.measure.Measure.{Measure}
use Rattle.etx_sealed.specs.Breaks.{is_empty, is_explicit, item_at, replaces}
use Rattle.etx_sealed.specs.Paragraphs.{Paragraph}
use Rattle.etx_sealed.specs.Sums.{plus, measure_all, glue_measure}

abbrev layer_before : NodeLayer → List Node
layer_before (Node-F.Disc it) = it.pre.nodes
layer_before _ = []

abbrev layer_behind : NodeLayer → List Node
layer_behind (Node-F.Disc it) = it.post.nodes
layer_behind _ = []

-- what a line shows at an item where it ends: the pre-break text of a discretionary
unfoldable pub text_before : Node → List Node
text_before node = layer_before (out-Node node)

-- what a line shows first that begins behind an item: the post-break text of a discretionary
unfoldable pub text_after : Node → List Node
text_after node = layer_behind (out-Node node)

abbrev pub before_in : Option Node → List Node
before_in None = []
before_in (Some node) = text_before node

abbrev pub after_in : Option Node → List Node
after_in None = []
after_in (Some node) = text_after node

abbrev pub replaced_in : Option Node → ℕ
replaced_in None = 0
replaced_in (Some node) = replaces node

abbrev layer_is_dropped : NodeLayer → Bool
layer_is_dropped (Node-F.Glue glue) = true
layer_is_dropped (Node-F.Leaders glue leader) = true
layer_is_dropped (Node-F.Kern width kind) = is_explicit kind
layer_is_dropped (Node-F.Penalty penalty) = true
layer_is_dropped (Node-F.Math on width) = true
layer_is_dropped _ = false

-- what is left out where it comes first behind a break: discardable items, but no kern of a font or an accent
unfoldable pub is_dropped : Node → Bool
is_dropped node = layer_is_dropped (out-Node node)

abbrev drops_by : Option Node → Bool
drops_by None = false
drops_by (Some node) = is_empty (text_after node)

-- whether a line that begins at a place drops what comes first: at a break it does, unless a post-break text comes before
unfoldable pub drops_at : List Node → ℕ → Bool
drops_at nodes i = drops_by (item_at nodes i)

-- how many of these come first that are dropped
abbrev pub dropped : Bool → List Node → ℕ
dropped false nodes = 0
dropped true nodes = prefix_len is_dropped nodes

-- how many items stand before those that a line keeps which begins at a place: what a discretionary replaces is left out,
-- and then what is dropped
unfoldable pub left_out : List Node → ℕ → ℕ
left_out nodes i =
    let before = i + replaced_in (item_at nodes i) in
    before + dropped (drops_at nodes i) (drop before nodes)

-- the items between two places that a line keeps. There are none where all of them are left out, and then what is left
-- out may reach past the second place, which ends the line all the same.
unfoldable pub kept : List Node → ℕ → ℕ → List Node
kept nodes i j = take (j - 1 - left_out nodes i) (drop (left_out nodes i) nodes)

-- what stands in the line from one place to another: a line's glue on its sides isn't among it
unfoldable pub line_nodes : List Node → ℕ → ℕ → List Node
line_nodes nodes i j = after_in (item_at nodes i) ++ (kept nodes i j ++ before_in (item_at nodes j))

-- the glue on both sides of each line
abbrev pub sides : Paragraph → Measure
sides p = plus (glue_measure p.params.skips.left) (glue_measure p.params.skips.right)

-- what the line measures with the glue on its sides
unfoldable pub line_measure : Paragraph → ℕ → ℕ → Measure
line_measure p i j = plus (sides p) (measure_all (line_nodes p.list i j))
