-- How tries stand for the tables.
use Rattle.std.specs.Prelude.{ℕ, ◌<◌, ◌≤◌, ◌≡◌, ◌≢◌, Bool, true, false, List, [], Some, length, map, slice_index_or}
use Rattle.etx_patterns.specs.declared.step.Mark.{Mark}
use Rattle.etx_patterns.specs.declared.tables.Pattern.{Pattern}
use Rattle.etx_patterns.specs.declared.tables.Exception.{Exception}
use Rattle.etx_patterns.specs.Tree.{Tree, size, path_at, entry_at}
use Rattle.etx_patterns.specs.Shapes.{has_digit}
use Rattle.etx_patterns.specs.Tables.{pattern_path, exception_path, all_letters}

abbrev pub key_at : List (List Mark) → ℕ → List Mark
key_at keys i = slice_index_or keys i []

abbrev pub counts_at : List Bool → ℕ → Bool
counts_at counts i = slice_index_or counts i false

-- Each number in the tree leads to a key that is the path there; each key that counts is found by its path; and the
-- path of each key is among the nodes.
pub record Indexes (tree : Tree) (keys : List (List Mark)) (counts : List Bool) : Type 0 where
  pub sizes : length tree.entries ≡ size tree
  pub entry_key : (node i : ℕ) → node < size tree → entry_at tree node ≡ Some i → (i < length keys) × (key_at keys i ≡ path_at tree node)
  pub key_entry : (node i : ℕ) → node < size tree → i < length keys → key_at keys i ≡ path_at tree node → counts_at counts i ≡ true → entry_at tree node ≡ Some i
  pub key_path : (i : ℕ) → i < length keys → ((node : ℕ) → node < size tree → path_at tree node ≢ key_at keys i) → ⊥

abbrev pub digit_counts : Pattern → Bool
digit_counts pattern = has_digit pattern.steps

abbrev pub always : Exception → Bool
always exception = true

abbrev pub PatternsIndexed : Tree → List Pattern → Type 0
PatternsIndexed tree patterns = Indexes tree (map pattern_path patterns) (map digit_counts patterns)

abbrev pub ExceptionsIndexed : Tree → List Exception → Type 0
ExceptionsIndexed tree exceptions = Indexes tree (map exception_path exceptions) (map always exceptions)

pub record PatternsKept (tree : Tree) (patterns : List Pattern) (letters : ℕ) : Type 0 where
  pub indexed : PatternsIndexed tree patterns
  pub letters_are : letters ≡ all_letters patterns
  pub letters_few : letters ≤ 1000000

pub record ExceptionsKept (tree : Tree) (exceptions : List Exception) : Type 0 where
  pub indexed : ExceptionsIndexed tree exceptions
  pub few : length exceptions ≤ 10000
