-- Tables of primitives in the order of their names.
use Rattle.std.specs.Prelude.{List}
use Rattle.std.specs.Ordering.{nat_cmp}
use Rattle.std.specs.Cmp.Lexicographic.{slice_cmp}
use Rattle.std.specs.List.Sorted.{IsSortedByKey}
use Rattle.etx_prims.specs.declared.command.Primitive.{Primitive}
use Rattle.etx_prims.specs.Names.{name_of}

-- the names rise, compared byte by byte
abbrev pub HasRisingNames : List Primitive → Type 0
HasRisingNames = IsSortedByKey name_of (slice_cmp nat_cmp)
