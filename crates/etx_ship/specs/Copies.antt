-- How often and where leaders repeat their box ("TeX: The Program", sections 626, 627, 635 and 636).
use Rattle.std.specs.Prelude.{ℕ, ◌+◌, ◌-◌, ◌*◌, ◌/◌, ◌%◌, ◌&&◌, nat_le, if◌then◌else◌, ℤ, pos, ◌+ℤ◌, ◌-ℤ◌, unsigned_abs}
use Rattle.std.specs.Int.{int_rem_euclid, is_positive}
use Rattle.etx_matter.specs.declared.node.LeaderKind.{LeaderKind}
use Rattle.etx_matter.specs.declared.node.LeaderKind.TheVariants.{Aligned, Centered, Expanded}
use Rattle.etx_ship.specs.declared.copies.Repeats.{Repeats}

-- what stands between two boxes of expanded leaders: what the boxes leave over, in as many parts as there are boxes and one
abbrev pub spread : ℕ → ℕ → ℕ
spread room size = room % size / (room / size + 1)

-- how far the first box stands behind the beginning of a room. Aligned ones stand on a grid that begins at the edge of
-- the box around them. Others have half of what is left over before the first.
abbrev pub offset : LeaderKind → ℤ → ℕ → ℕ → ℕ
offset Aligned behind room size = unsigned_abs (int_rem_euclid behind (pos size))
offset Centered behind room size = room % size / 2
offset Expanded behind room size = (room % size - (room / size - 1) * spread room size) / 2

-- from one box to the next
abbrev pub distance : LeaderKind → ℕ → ℕ → ℕ
distance Aligned room size = size
distance Centered room size = size
distance Expanded room size = size + spread room size

-- how many end within the room, the first of them after so much
abbrev pub count : ℕ → ℕ → ℕ → ℕ
count room first step = if nat_le first room then (room - first) / step + 1 else 0

-- the boxes, each of this size, in a room that begins here, in a list that begins at the edge
abbrev pub row_of : LeaderKind → ℤ → ℤ → ℕ → ℕ → Repeats
row_of kind edge from room size =
    let before = offset kind (edge -ℤ from) room size in
    let step = distance kind room size in
    record { first = from +ℤ pos before; step = pos step; count = count room (before + size) step }

-- Leaders fill a gap of more than nothing by boxes of more than nothing. The room is 10 sp greater than the gap.
unfoldable pub copies_of : LeaderKind → ℤ → ℤ → ℤ → ℤ → Repeats
copies_of kind edge from gap size =
    if is_positive size && is_positive gap then row_of kind edge from (unsigned_abs gap + 10) (unsigned_abs size)
    else record { first = from; step = pos 0; count = 0 }

abbrev pub behind_first : Repeats → Repeats
behind_first row = record { first = row.first +ℤ row.step; step = row.step; count = row.count - 1 }
