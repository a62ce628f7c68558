-- A trie as its nodes: the path that leads to each, and the number that is noted there.
use Rattle.std.specs.Prelude.{◌≡◌, ◌≢◌, ℕ, ◌<◌, ◌≤◌, List, [], ◌∷◌, Option, None, length, slice_index_or}
use Rattle.etx_patterns.specs.declared.step.Mark.{Mark}

pub record Tree : Type 0 where
  pub paths : List (List Mark)
  pub entries : List (Option ℕ)

-- the root alone
abbrev pub seedling : Tree
seedling = record { paths = [] ∷ []; entries = None ∷ [] }

abbrev pub size : Tree → ℕ
size tree = length tree.paths

abbrev pub path_at : Tree → ℕ → List Mark
path_at tree node = slice_index_or tree.paths node []

abbrev pub entry_at : Tree → ℕ → Option ℕ
entry_at tree node = slice_index_or tree.entries node None

-- The node alone has this path.
pub record IsOnly (tree : Tree) (path : List Mark) (node : ℕ) : Type 0 where
  pub within : node < size tree
  pub path_is : path_at tree node ≡ path
  pub only : (other : ℕ) → other < size tree → path_at tree other ≡ path → other ≡ node

-- The new tree has the nodes of the old one as they were, and further ones with other paths, at which nothing is noted.
pub record Grows (old new : Tree) : Type 0 where
  pub longer : size old ≤ size new
  pub paths_kept : (node : ℕ) → node < size old → path_at new node ≡ path_at old node
  pub entries_kept : (node : ℕ) → node < size old → entry_at new node ≡ entry_at old node
  pub apart : (node other : ℕ) → size old ≤ node → node < size new → other < size old → path_at new node ≢ path_at new other
  pub none_noted : (node : ℕ) → size old ≤ node → entry_at new node ≡ None
  pub sizes : length new.entries ≡ size new
