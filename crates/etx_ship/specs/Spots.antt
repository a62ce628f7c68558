-- Where the items of a box begin ("TeX: The Program", sections 619, 625, 629 and 634, with exact fractions).
use Rattle.std.specs.Prelude.{if◌then◌else◌, Bool, ℤ, pos, ◌+ℤ◌, ◌-ℤ◌}
use Rattle.etx_matter.specs.GlueSets.{GlueSetting}
use Rattle.etx_matter.specs.declared.glue.Glue.{Glue}
use Rattle.etx_pack.specs.Spacings.{growth, pull}
use Rattle.etx_ship.specs.declared.place.Frame.{Frame}
use Rattle.etx_ship.specs.declared.place.Point.{Point}
use Rattle.etx_ship.specs.declared.place.Spot.{Spot}

-- where the next item begins
abbrev pub place : Spot → ℤ
place s = s.natural +ℤ s.set

-- behind something of a fixed size
abbrev pub moved : ℤ → Spot → Spot
moved by s = record { natural = s.natural +ℤ by; total = s.total; set = s.set }

-- behind a glue. So its size is its natural one and what it changes in the rounded sum.
unfoldable pub glued : GlueSetting → Glue → Spot → Spot
glued set g s =
    let total = s.total +ℤ pull set g in
    record { natural = s.natural +ℤ g.width; total = total; set = growth set total }

-- a box with its reference point here: a horizontal list begins at its left edge and stands on the baseline, a vertical
-- one begins at its upper edge and stands at the left one
unfoldable pub frame_of : Bool → ℤ → ℤ → ℤ → GlueSetting → Point → Frame
frame_of vertical width height depth set at = record {
  vertical = vertical;
  width = width;
  height = height;
  depth = depth;
  set = set;
  edge = if vertical then at.v -ℤ height else at.h;
  side = if vertical then at.h else at.v;
}

abbrev pub start_of : Frame → Spot
start_of f = record { natural = f.edge; total = pos 0; set = pos 0 }
