-- A box keeps its push and its pop only where a command stands between them ("TeX: The Program", section 601).
use Rattle.std.specs.Prelude.{Bool, true, false, ◌&&◌, if◌then◌else◌, List, [], ◌∷◌}
use Rattle.etx_dvi.specs.declared.command.Dvi.{Dvi}
use Rattle.etx_dvi.specs.declared.command.Dvi.TheVariants.{Push, Pop}

abbrev pub is_push : Dvi → Bool
is_push Push = true
is_push _ = false

abbrev pub is_pop : Dvi → Bool
is_pop Pop = true
is_pop _ = false

abbrev pub begins_with_pop : List Dvi → Bool
begins_with_pop [] = false
begins_with_pop (c ∷ cs) = is_pop c

abbrev pub behind_first : List Dvi → List Dvi
behind_first [] = []
behind_first (c ∷ cs) = cs

-- a command before others: a push right before a pop goes, and the pop with it
abbrev pub onto : Dvi → List Dvi → List Dvi
onto c cs = if is_push c && begins_with_pop cs then behind_first cs else c ∷ cs

-- from the end to the beginning, so that a box goes whose inner boxes are all gone
abbrev pub kept : List Dvi → List Dvi
kept [] = []
kept (c ∷ cs) = onto c (kept cs)
