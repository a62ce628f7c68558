-- What stands in a column of a vertical list before a break, and how well it fills the height that is wanted ("TeX: The
-- Program", sections 970, 975 and 976).
use Rattle.std.specs.Prelude.{◌≤◌, ◌*◌, ℕ, Bool, false, ◌&&◌, not, if◌then◌else◌, ℤ, pos, ◌+ℤ◌, ◌-ℤ◌, neg_ℤ, unsigned_abs, int_lt, List, Option, Some, None}
use Rattle.std.specs.Int.{int_min}
use Rattle.std.specs.List.{fold}
use Rattle.etx_matter.specs.declared.glue.Glue.{Glue}
use Rattle.etx_matter.specs.declared.node.Node.{Node}
use Rattle.etx_matter.specs.Sizes.{glue_of, is_discardable}
use Rattle.etx_pack.specs.Fits.{badness_between, is_zero}
use Rattle.etx_pack.specs.Reaches.{length_of, hang_under}
use Rattle.etx_pack.specs.Sums.{sum_over, total_over, together, stretch_of, Small4}
use Rattle.etx_vsplit.specs.declared.column.Column.{Column}

abbrev pub finite_shrink : Option Glue → ℤ
finite_shrink None = pos 0
finite_shrink (Some glue) = glue.shrink

-- the shrink of a node, which counts as finite whatever its order
unfoldable pub finite_shrink_of : Node → ℤ
finite_shrink_of node = finite_shrink (glue_of node)

-- how much hangs below the last baseline of a column that may be so deep; what hangs deeper belongs to its height
unfoldable pub hang_within : ℤ → ℤ → Node → ℤ
hang_within max_depth above node = int_min (hang_under above node) max_depth

-- whether a break is legal at glue behind this node (section 148)
unfoldable pub stays : Node → Bool
stays node = not (is_discardable node)

-- whether the last of some nodes stays
abbrev pub ends_staying : List Node → Bool
ends_staying nodes = fold (λ before node. stays node) false nodes

-- the nodes before a break, all together: what they take from top to bottom, how much of that hangs below the last
-- baseline, their stretch, their shrink, and whether the last of them stays
abbrev pub column_of : ℤ → List Node → Column
column_of max_depth nodes = record {
  length = sum_over length_of nodes;
  depth = fold (hang_within max_depth) (pos 0) nodes;
  stretch = total_over stretch_of nodes;
  shrink = sum_over finite_shrink_of nodes;
  ends_staying = ends_staying nodes;
}

-- a column with a node more under it
abbrev pub column_with : ℤ → Column → Node → Column
column_with max_depth column node = record {
  length = column.length +ℤ length_of node;
  depth = hang_within max_depth column.depth node;
  stretch = together column.stretch (stretch_of node);
  shrink = column.shrink +ℤ finite_shrink_of node;
  ends_staying = stays node;
}

-- sums over at most so many nodes; a node takes its height and its depth
pub record IsSmall (count : ℕ) (column : Column) : Type 0 where
  pub length : unsigned_abs column.length ≤ count * 4294967296
  pub stretch : Small4 count column.stretch
  pub shrink : unsigned_abs column.shrink ≤ count * 2147483648

-- how much the column lacks of the height that is wanted; a negative number where it is too high
unfoldable pub lack_of : ℤ → Column → ℤ
lack_of goal column = goal -ℤ (column.length -ℤ column.depth)

-- even if it shrinks by all that it can, the column is too high
unfoldable pub is_too_high : ℤ → Column → Bool
is_too_high goal column =
    if int_lt (pos 0) (lack_of goal column) then false else int_lt (lack_of goal column +ℤ column.shrink) (pos 0)

unfoldable pub has_infinite_stretch : Column → Bool
has_infinite_stretch column =
    not (is_zero column.stretch.fil && is_zero column.stretch.fill && is_zero column.stretch.filll)

-- how bad the glue of a column is set that isn't too high
unfoldable pub column_badness : ℤ → Column → ℤ
column_badness goal column =
    if int_lt (pos 0) (lack_of goal column)
    then (if has_infinite_stretch column then pos 0 else badness_between (lack_of goal column) column.stretch.normal)
    else badness_between (neg_ℤ (lack_of goal column)) column.shrink
