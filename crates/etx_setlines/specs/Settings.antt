-- The lines of a paragraph ("TeX: The Program", sections 877, 888 and 889).
use Rattle.std.specs.Prelude.{ℕ, ◌+◌, min, ◌==◌, Bool, false, ℤ, pos, List, [], ◌∷◌, ◌++◌, length, Option, Some, None, unwrap_or}
use Rattle.std.specs.Option.{option_to_list}
use Rattle.etx_matter.specs.declared.node.BoxNode.{BoxNode}
use Rattle.etx_matter.specs.declared.node.Node.{Node, Node-F, roll-Node}
use Rattle.etx_matter.specs.declared.sizes.Goal.TheVariants.{Exactly}
use Rattle.etx_matter.specs.declared.sizes.Report.{Report}
use Rattle.etx_pack.specs.declared.boxes.Packed.{Packed}
use Rattle.etx_pack.specs.Packs.{hpacked}
use Rattle.etx_sealed.specs.declared.outcome.Lines.{Lines}
use Rattle.etx_sealed.specs.declared.params.LineSkips.{LineSkips}
use Rattle.etx_sealed.specs.Breaks.{item_at, is_hyphen}
use Rattle.etx_sealed.specs.Paragraphs.{Paragraph}
use Rattle.etx_sealed.specs.Shapes.{line_shape}
use Rattle.etx_setlines.specs.Items.{line_items}
use Rattle.etx_setlines.specs.Moves.{staying, moving}
use Rattle.etx_setlines.specs.Penalties.{interline, penalty_nodes}

abbrev pub ends_in_disc : Option Node → Bool
ends_in_disc None = false
ends_in_disc (Some node) = is_hyphen node

-- the line from one place to another, packed to this width
unfoldable pub packed_line : Paragraph → ℕ → ℕ → ℤ → Packed
packed_line p i j width = hpacked (staying (line_items p i j)) (Exactly width) p.params.limits

-- a line: its box, how far it is moved right, what moves out of it, and the penalty behind it
pub record LineSet : Type 0 where
  pub packed : Packed
  pub indent : ℤ
  pub moved : List Node
  pub penalty : List Node

-- the line of this number from one place to another, which so many follow
abbrev pub line_set : Paragraph → ℕ → ℕ → ℕ → ℕ → LineSet
line_set p number i j follow = record {
  packed = packed_line p i j (line_shape p number).width;
  indent = (line_shape p number).indent;
  moved = moving (line_items p i j);
  penalty = penalty_nodes p.params (number == 1) follow (ends_in_disc (item_at p.list j));
}

-- the lines that end at these breaks, from that of a number on, which begins at a place
unfoldable pub sets_from : Paragraph → ℕ → ℕ → List ℕ → List LineSet
sets_from p number i [] = []
sets_from p number i (j ∷ breaks) = line_set p number i j (length breaks) ∷ sets_from p (number + 1) j breaks

abbrev pub shifted_box : ℤ → BoxNode → Node
shifted_box indent it = roll-Node (Node-F.Box (record it { shift = indent }))

-- the lines with the glue before each, under a line of this depth, if there is one
unfoldable pub listed_under : LineSkips → Option ℤ → List LineSet → List Node
listed_under skips depth [] = []
listed_under skips depth (it ∷ lines) =
    interline skips depth it.packed.node.height ++ (shifted_box it.indent it.packed.node ∷ []) ++ it.moved ++ it.penalty
    ++ listed_under skips (Some it.packed.node.depth) lines

-- the reports that there are
unfoldable pub reports_of : List LineSet → List Report
reports_of [] = []
reports_of (it ∷ lines) = option_to_list it.packed.report ++ reports_of lines

-- the badness of the last line, or else this one
unfoldable pub badness_or : ℤ → List LineSet → ℤ
badness_or badness [] = badness
badness_or badness (it ∷ lines) = badness_or it.packed.badness lines

-- the depth of the last line, or else this one
unfoldable pub depth_or : Option ℤ → List LineSet → Option ℤ
depth_or depth [] = depth
depth_or depth (it ∷ lines) = depth_or (Some it.packed.node.depth) lines

abbrev pub lines_with : Paragraph → ℕ → List LineSet → Lines
lines_with p count lines = record {
  list = listed_under p.params.skips None lines;
  count = pos (min count 2_147_483_647);
  badness = badness_or (pos 0) lines;
  depth = unwrap_or (depth_or None lines) (pos 0);
  reports = reports_of lines;
}

-- the lines that end at these breaks, of which the first begins at the start of the paragraph
unfoldable pub lines_of : Paragraph → List ℕ → Lines
lines_of p breaks = lines_with p (length breaks) (sets_from p 1 0 breaks)
