-- The primitive that a name stands for.
use Rattle.std.specs.Prelude.{ℕ, List, [], ◌∷◌, Option, Some, None, nat_eq, if◌then◌else◌}
use Rattle.std.specs.Cmp.Lexicographic.{pointwise}
use Rattle.etx_prims.specs.declared.table.TheConstants.{SORTED}
use Rattle.etx_prims.specs.declared.command.Primitive.{Primitive}
use Rattle.etx_prims.specs.Names.{name_of}

-- the first of these primitives that has the name
unfoldable pub first_named : List ℕ → List Primitive → Option Primitive
first_named name [] = None
first_named name (p ∷ ps) = if pointwise nat_eq (name_of p) name then Some p else first_named name ps

-- the first of the table that has the name
unfoldable pub primitive_named : List ℕ → Option Primitive
primitive_named name = first_named name SORTED
