-- What stands between two lines: glue before a line, and a penalty behind one ("TeX: The Program", sections 679 and 890).
use Rattle.std.specs.Prelude.{ℕ, ◌==◌, Bool, if◌then◌else◌, ℤ, pos, negsuc, ◌+ℤ◌, ◌-ℤ◌, int_lt, List, [], ◌∷◌, Option, Some, None}
use Rattle.etx_matter.specs.declared.glue.Glue.{Glue}
use Rattle.etx_matter.specs.declared.node.Node.{Node, Node-F, roll-Node}
use Rattle.etx_pack.specs.Fits.{within_32_bits}
use Rattle.etx_sealed.specs.declared.params.LineSkips.{LineSkips}
use Rattle.etx_sealed.specs.declared.params.ParParams.{ParParams}
use Rattle.etx_sealed.specs.Paragraphs.{glue_node, is_zero}

abbrev pub with_width : Glue → ℤ → Glue
with_width glue width = record glue { width = within_32_bits width }

-- `\baselineskip`, less what the two boxes take of it, or `\lineskip` where that is below `\lineskiplimit`
unfoldable pub glue_by : LineSkips → ℤ → Glue
glue_by skips width = if int_lt width skips.limit then skips.line else with_width skips.baseline width

unfoldable pub glue_under : LineSkips → ℤ → ℤ → Glue
glue_under skips depth height = glue_by skips (skips.baseline.width -ℤ depth -ℤ height)

-- The glue before a box of this height under a box of this depth. There is none where the depth is -1000pt or less.
unfoldable pub interline_glue : LineSkips → ℤ → ℤ → Option Glue
interline_glue skips depth height =
    if int_lt (negsuc 65_535_999) depth then Some (glue_under skips depth height) else None

abbrev pub glue_nodes : Option Glue → List Node
glue_nodes None = []
glue_nodes (Some glue) = glue_node glue ∷ []

-- before the first line whoever takes the lines puts the glue
abbrev pub interline : LineSkips → Option ℤ → ℤ → List Node
interline skips None height = []
interline skips (Some depth) height = glue_nodes (interline_glue skips depth height)

abbrev pub if_so : Bool → ℤ → ℤ
if_so is penalty = if is then penalty else pos 0

-- before a display the last line has a penalty of its own
abbrev pub widow_of : ParParams → ℤ
widow_of p = if p.display then p.penalties.display_widow else p.penalties.widow

-- The penalty behind a line: whether it is the first of this part of the paragraph, how many follow, and whether it ends
-- in a discretionary.
unfoldable pub penalty_sum : ParParams → Bool → ℕ → Bool → ℤ
penalty_sum p first follow hyphenated =
    p.penalties.inter_line +ℤ if_so first p.penalties.club +ℤ if_so (follow == 1) (widow_of p) +ℤ if_so hyphenated p.penalties.broken

abbrev pub penalty_node : ℤ → Node
penalty_node penalty = roll-Node (Node-F.Penalty (within_32_bits penalty))

-- none where it would be 0, nor behind the last line
unfoldable pub penalty_nodes : ParParams → Bool → ℕ → Bool → List Node
penalty_nodes p first follow hyphenated =
    if follow == 0 then []
    else (if is_zero (penalty_sum p first follow hyphenated) then [] else penalty_node (penalty_sum p first follow hyphenated) ∷ [])
