-- What a load answers: 16777216 bytes are the most that a file may have.
use Rattle.std.specs.Prelude.{ℕ, List, length, Option, Some, None, nat_lt, if◌then◌else◌}
use Rattle.etx_outside.specs.declared.tree.Loaded.{Loaded}
use Rattle.etx_outside.specs.declared.tree.Loaded.TheVariants.{Absent, TooLong, Bytes}

-- the answer for what the name's file holds, if there is one
abbrev pub load_of : Option (List ℕ) → Loaded
load_of None = Absent
load_of (Some file) = if nat_lt 16777216 (length file) then TooLong else Bytes file
