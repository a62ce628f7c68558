-- The run of letters of a word that a hyphen changes.
use Rattle.std.specs.Prelude.{ℕ, ◌-◌, ◌==◌, nat_lt, if◌then◌else◌, List, [], ◌∷◌, Option, Some, None}
use Rattle.etx_tfm.specs.declared.reading.CleanPlace.{CleanPlace}
use Rattle.etx_hyphen.specs.declared.bounds.Bound.{Bound}

-- How many nodes of a reading stand before its clean place behind so many letters. `None` where it can't be cut there.
unfoldable pub nodes_before : List CleanPlace → ℕ → Option ℕ
nodes_before [] letters = None
nodes_before (clean ∷ places) letters = if clean.letters == letters then Some clean.nodes else nodes_before places letters

-- The nodes of the part that ends with a hyphen behind the letter `place`, before a clean place of the unbroken word, if
-- that lies in the part, and the part is clean there too.
unfoldable pub left_nodes : List CleanPlace → ℕ → CleanPlace → Option ℕ
left_nodes left place clean = if nat_lt place clean.letters then None else nodes_before left clean.letters

-- The same of the part that begins behind the letter `place`. Its letters are counted from there.
unfoldable pub right_nodes : List CleanPlace → ℕ → CleanPlace → Option ℕ
right_nodes right place clean = if nat_lt clean.letters place then None else nodes_before right (clean.letters - place)

-- where both are clean, the run can end
abbrev pub bound_or : Bound → CleanPlace → Option ℕ → Bound
bound_or bound clean None = bound
bound_or bound clean (Some nodes) = record { letters = clean.letters; unbroken = clean.nodes; part = nodes }

-- The run begins at the last of the clean places at which the left part is clean too, or else at `first`. Clean places
-- rise.
unfoldable pub start_from : List CleanPlace → ℕ → Bound → List CleanPlace → Bound
start_from left place first [] = first
start_from left place first (clean ∷ places) = start_from left place (bound_or first clean (left_nodes left place clean)) places

-- The run ends at the first of the clean places at which the right part is clean too, or else at `last`.
unfoldable pub end_from : List CleanPlace → ℕ → Bound → List CleanPlace → Bound
end_from right place last [] = last
end_from right place last (clean ∷ places) = bound_or (end_from right place last places) clean (right_nodes right place clean)
