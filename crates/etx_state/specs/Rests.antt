-- The rest of the state, as contracts see it: all that is not scanning.
use Rattle.std.specs.Prelude.{◌≡◌, Bool, true, false, not, is_some, nat_lt, ℕ, ◌≤◌, List, ◌∷◌, [], ◌++◌, Option, Some, None, length, take, reverse, codes, if◌then◌else◌}
use Rattle.etx_prims.specs.declared.command.Primitive.{Primitive}
use Rattle.etx_prims.specs.Lookup.{primitive_named}
use Rattle.etx_undo.specs.declared.state_mark.RestMark.{RestMark}
use Rattle.etx_keys.specs.declared.key.Key.TheVariants as key
use Rattle.etx_state.specs.declared.key.Val.TheVariants as val
use Rattle.etx_state.specs.declared.key.Meaning.TheVariants as meanings
use Rattle.etx_state.specs.declared.rest.Rest.{Rest}
use Rattle.etx_state.specs.declared.condition.Condition.{Condition}
use Rattle.etx_stack.specs.Undoing as undoing
use Rattle.etx_state.specs.Initial.{first_of}
use Rattle.etx_state.specs.Naming.{has_name, place_of}
use Rattle.etx_state.specs.Reading.{meaning_in}
use Rattle.etx_state.specs.declared.key.Meaning.{Meaning}
use Rattle.etx_state.specs.Saves.{values_in, values_in_at, IsKeptIn, IsBeforeIn}
use Rattle.etx_state.specs.Values.{Values, assign_global, outermost}

-- The values, in groups; the names, each under the number that is its place; the conditionals that are open, the innermost first; the
-- name of the job; and the magnification that was fixed at its first use, or 0.
pub record RestState : Type 0 where
  pub values : Values
  pub names : List (List ℕ)
  pub conditions : List Condition
  pub job : List ℕ
  pub mag : ℕ

-- THE MEANING of the rest, now and at a mark
abbrev pub rest_of : Rest → RestState
rest_of r = record { values = values_in r.scopes; names = r.names; conditions = reverse r.conditions.items; job = r.job; mag = r.mag }

abbrev pub rest_at : Rest → RestMark → RestState
rest_at r m = record { values = values_in_at r.scopes m; names = take m.names r.names; conditions = reverse (undoing.at r.conditions m.conditions); job = r.job; mag = m.mag }

-- the rest with one part changed
abbrev pub with_values : Values → RestState → RestState
with_values v r = record r { values = v }

abbrev pub with_names : List (List ℕ) → RestState → RestState
with_names n r = record r { names = n }

abbrev pub with_conditions : List Condition → RestState → RestState
with_conditions cs r = record r { conditions = cs }

abbrev pub with_mag : ℕ → RestState → RestState
with_mag mag r = record r { mag = mag }

-- only the values changed, if anything did
abbrev pub OnlyValues : RestState → RestState → Type 0
OnlyValues old new = new ≡ with_values new.values old

-- INITEX's at the start of a job: no group is open, and `par` alone has a number
abbrev pub first_rest : List ℕ → RestState
first_rest job = record { values = outermost first_of; names = codes "par" ∷ []; conditions = []; job = job; mag = 0 }

-- the number of a name, and the one that it would get where it has none
unfoldable pub number_of : List ℕ → RestState → ℕ
number_of name r = place_of r.names name

-- whether there is room for the name: a known name needs none, and there are at most 2^20 names
unfoldable pub has_room : List ℕ → RestState → Bool
has_room name r = nat_lt (number_of name r) 1048576

-- a name that had no number gets the next one; where a primitive has the name, the name means it in the outermost map
abbrev pub named : Option Primitive → List ℕ → RestState → RestState
named None name r = with_names (r.names ++ name ∷ []) r
named (Some primitive) name r = record r {
  values = assign_global r.values (key.Meaning (length r.names)) (val.Means (meanings.Primitive primitive));
  names = r.names ++ name ∷ [];
}

-- no meaning
abbrev pub is_undefined : Meaning → Bool
is_undefined meanings.Undefined = true
is_undefined _ = false

-- whether a name means something, without a number of its own: a primitive's has its meaning before it gets one
abbrev pub is_defined_name : List ℕ → RestState → Bool
is_defined_name name r = if has_name r.names name then not (is_undefined (meaning_in r.values (number_of name r))) else is_some (primitive_named name)

-- the rest in which the name has a number: a known name changes nothing
unfoldable pub with_name : List ℕ → RestState → RestState
with_name name r = if has_name r.names name then r else named (primitive_named name) name r

-- at the mark m the rest is still what it was in first, and one can go back to it
pub record IsKept (m : RestMark) (first r : Rest) : Type 0 where
  pub scopes : IsKeptIn m first.scopes r.scopes
  pub named : m.names ≤ length r.names
  pub names : take m.names r.names ≡ take m.names first.names
  pub conditions : undoing.IsSince m.conditions first.conditions r.conditions
  pub job : r.job ≡ first.job

-- at every mark that was taken before, the rest is still what it was
abbrev pub Keeps : Rest → Rest → Type 0
Keeps old new = (m : RestMark) (first : Rest) → IsKept m first old → IsKept m first new

-- m was taken before n
pub record IsBefore (m n : RestMark) : Type 0 where
  pub scopes : IsBeforeIn m n
  pub names : m.names ≤ n.names
  pub conditions : undoing.IsBefore m.conditions n.conditions
