-- Control sequences that the machine itself inserts ("TeX: The Program", section 222): their numbers are above those of all
-- names, and their meanings are fixed.
use Rattle.std.specs.Prelude.{ℕ, ◌==◌, List, Option, Some, None, codes, if◌then◌else◌}
use Rattle.etx_prims.specs.declared.command.Primitive.TheVariants as prims
use Rattle.etx_prims.specs.declared.expansion.FiOrElseKind.TheVariants as ends
use Rattle.etx_prims.specs.declared.material.EndCellKind.TheVariants as cells
use Rattle.etx_prims.specs.declared.general.GroupEdge.TheVariants as edges
use Rattle.etx_prims.specs.declared.math.LeftRightKind.TheVariants as delimiters
use Rattle.etx_state.specs.declared.frozen.Frozen.{Frozen}
use Rattle.etx_state.specs.declared.frozen.Frozen.TheVariants as frozen
use Rattle.etx_state.specs.declared.key.Meaning.{Meaning}
use Rattle.etx_state.specs.declared.key.Meaning.TheVariants as meanings

-- the number of each
abbrev pub frozen_number : Frozen → ℕ
frozen_number frozen.Fi = 1048577
frozen_number frozen.Relax = 1048578
frozen_number frozen.EndTemplate = 1048579
frozen_number frozen.Cr = 1048580
frozen_number frozen.EndGroup = 1048581
frozen_number frozen.Right = 1048582

-- the one with this number
unfoldable pub frozen_of : ℕ → Option Frozen
frozen_of number =
    if number == 1048577 then Some frozen.Fi
    else if number == 1048578 then Some frozen.Relax
    else if number == 1048579 then Some frozen.EndTemplate
    else if number == 1048580 then Some frozen.Cr
    else if number == 1048581 then Some frozen.EndGroup
    else if number == 1048582 then Some frozen.Right
    else None

-- what it means
abbrev pub frozen_means : Frozen → Meaning
frozen_means frozen.Fi = meanings.Primitive (prims.FiOrElse ends.Fi)
frozen_means frozen.Relax = meanings.Primitive prims.Relax
frozen_means frozen.EndTemplate = meanings.EndTemplate
frozen_means frozen.Cr = meanings.Primitive (prims.EndCell cells.Cr)
frozen_means frozen.EndGroup = meanings.Primitive (prims.SemiSimpleGroup edges.End)
frozen_means frozen.Right = meanings.Primitive (prims.LeftRight delimiters.Right)

-- a number above all names that is none of theirs means nothing
abbrev pub frozen_or_nothing : Option Frozen → Meaning
frozen_or_nothing None = meanings.Undefined
frozen_or_nothing (Some it) = frozen_means it

-- what a number above all names means
unfoldable pub frozen_meaning : ℕ → Meaning
frozen_meaning number = frozen_or_nothing (frozen_of number)

-- what is printed of it behind the escape character
unfoldable pub frozen_text : Frozen → List ℕ
frozen_text frozen.Fi = codes "fi"
frozen_text frozen.Relax = codes "relax"
frozen_text frozen.EndTemplate = codes "endtemplate"
frozen_text frozen.Cr = codes "cr"
frozen_text frozen.EndGroup = codes "endgroup"
frozen_text frozen.Right = codes "right"
