-- Scores of places, and how they rise.
use Rattle.std.specs.Prelude.{ℕ, ◌<◌, ◌≡◌, List, [], Option, Some, None, length, max, slice_index, slice_index_or}
use Rattle.etx_patterns.specs.declared.tables.Pattern.{Pattern}
use Rattle.etx_patterns.specs.Tree.{Tree, entry_at}
use Rattle.etx_patterns.specs.Shapes.{digit_from}
use Rattle.etx_patterns.specs.Tables.{pattern_at}

-- Each score has risen to a number, if it was less.
abbrev pub Raised : List ℕ → List ℕ → (ℕ → ℕ) → Type 0
Raised old new by = (place : ℕ) → place < length old → slice_index new place ≡ max (slice_index old place) (by place)

abbrev pub digit_of_entry : List Pattern → Option ℕ → ℕ → ℕ → ℕ
digit_of_entry patterns None start place = 0
digit_of_entry patterns (Some i) start place = digit_from (pattern_at patterns i).steps start place

-- What the pattern that ends at a node gives a place.
abbrev pub entry_digit : Tree → List Pattern → ℕ → ℕ → ℕ → ℕ
entry_digit tree patterns node start place = digit_of_entry patterns (entry_at tree node) start place
