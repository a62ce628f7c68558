-- Names of control sequences, each under the number that is its place in a list.
use Rattle.std.specs.Prelude.{◌≡◌, ◌≢◌, ℕ, Bool, List, Some, slice_get, nat_eq}
use Rattle.std.specs.Cmp.Lexicographic.{pointwise}
use Rattle.std.specs.List.{position_or_len, list_any}

-- whether two names are the same
abbrev pub is_name : List ℕ → List ℕ → Bool
is_name name other = pointwise nat_eq name other

-- whether the name is among these
unfoldable pub has_name : List (List ℕ) → List ℕ → Bool
has_name names name = list_any (is_name name) names

-- the place of the first of these names that is this one, or else their number
unfoldable pub place_of : List (List ℕ) → List ℕ → ℕ
place_of names name = position_or_len (is_name name) names

-- no name has two numbers
unfoldable pub IsApart : List (List ℕ) → Type 0
IsApart names = (name : List ℕ) (m n : ℕ) → slice_get names m ≡ Some name → slice_get names n ≡ Some name → m ≡ n

-- the name has no number
unfoldable pub IsFresh : List (List ℕ) → List ℕ → Type 0
IsFresh names name = (n : ℕ) → slice_get names n ≢ Some name
