-- The words that the system hands to the program.
use Rattle.std.specs.Prelude.{ℕ, List, [], map, drop, Result, Ok, Err, string_bytes}
use Rattle.std.specs.Vec.Iter.{into_iter_items}
use Rattle.std.specs.declared.alloc.Global.{Global}
use Rattle.std.specs.declared.io.Error.{Error}
use Rattle.std.specs.declared.string.String.{String}
use Rattle.std.specs.declared.vec.IntoIter.{IntoIter}

-- the words behind the program's name; none where one of them can't be read as text
abbrev pub behind_name : Result (IntoIter (String Global) Global) Error → List (String Global)
behind_name (Ok args) = drop 1 (into_iter_items args)
behind_name (Err e) = []

abbrev pub words_of : Result (IntoIter (String Global) Global) Error → List (List ℕ)
words_of args = map string_bytes (behind_name args)
