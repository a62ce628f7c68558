-- What the parts of the state stand for: cells with levels, and the stack of what the ends of groups do.
use Rattle.std.specs.Prelude.{◌≡◌, ℕ, ◌+◌, ◌<◌, ◌≤◌, zero, suc, ◌==◌, List, [], ◌∷◌, reverse, take, Option, Some, None, if◌then◌else◌}
use Rattle.etx_keys.specs.declared.key.Key.{Key}
use Rattle.etx_state.specs.declared.key.Val.{Val}
use Rattle.etx_state.specs.declared.key.GroupKind.{GroupKind}
use Rattle.etx_state.specs.declared.cell.Cell.{Cell}
use Rattle.etx_state.specs.declared.cell.Item.{Item}
use Rattle.etx_state.specs.declared.cell.Item.TheVariants.{Undo, After, Begin}
use Rattle.etx_state.specs.declared.parts.Parts.{Parts}
use Rattle.etx_undo.specs.declared.state_mark.RestMark.{RestMark}
use Rattle.etx_undo.specs.History as history
use Rattle.etx_stack.specs.Undoing as undoing
use Rattle.etx_state.specs.Values.{Values, inside, outermost}
use Rattle.etx_matter.specs.declared.token.Token.{Token}
use Rattle.etx_state.specs.Initial.{first_of}
use Rattle.etx_state.specs.Fits.{Fits}
use Rattle.etx_state.specs.Slots.{slot_of, same}

abbrev pub cell_or : Key → Option Cell → Cell
cell_or q (Some c) = c
cell_or q None = record { value = first_of q; level = 0 }

abbrev pub Cells : Type 0
Cells = Key → Cell

abbrev pub put : Cells → Key → Cell → Cells
put c k x = λ q. if same k q then x else c q

-- at the end of a group of level d: a key that is not at this level was assigned globally since, and stays
abbrev pub back : ℕ → Cells → Key → Cell → Cells
back d c k x = if (c k).level == d then put c k x else c

abbrev pub depth_of : List Item → ℕ
depth_of [] = 0
depth_of (Undo k x ∷ is) = depth_of is
depth_of (After t ∷ is) = depth_of is
depth_of (Begin kind ∷ is) = suc (depth_of is)

-- the map of the group of this level
abbrev pub map_at : ℕ → Cells → Key → Option Val
map_at zero c = λ q. None
map_at (suc d) c = λ q. if (c q).level == suc d then Some (c q).value else None

abbrev pub maps : (Key → Option Val) → List Token → List Item → Cells → Values
maps m after [] c = outermost (λ q. (c q).value)
maps m after (Undo k x ∷ is) c = maps m after is (back (depth_of is) c k x)
maps m after (After t ∷ is) c = maps m (t ∷ after) is c
maps m after (Begin kind ∷ is) c = inside (record { kind = kind; after = after; map = m }) (maps (map_at (depth_of is) c) [] is c)

unfoldable pub values : List Item → Cells → Values
values is c = maps (map_at (depth_of is) c) [] is c

-- what is put back is from below the group's level, and then no key is at this level
abbrev pub IsTied : List Item → Cells → Type 0
IsTied [] c = (q : Key) → (c q).level ≡ 0
IsTied (Undo k x ∷ is) c = (x.level < depth_of is) × IsTied is (back (depth_of is) c k x)
IsTied (After t ∷ is) c = (0 < depth_of is) × IsTied is c
IsTied (Begin kind ∷ is) c = ((q : Key) → (c q).level ≤ depth_of is) × IsTied is c

-- what an end leaves
pub record Left : Type 0 where
  pub kind : Option GroupKind
  pub input : List Token
  pub items : List Item
  pub cells : Cells

abbrev pub left_of : List Token → List Item → Cells → Left
left_of input [] c = record { kind = None; input = input; items = []; cells = c }
left_of input (Undo k x ∷ is) c = left_of input is (back (depth_of is) c k x)
left_of input (After t ∷ is) c = left_of (t ∷ input) is c
left_of input (Begin kind ∷ is) c = record { kind = Some kind; input = input; items = is; cells = c }

-- what is put back fits its key
abbrev pub ItemFits : Item → Type 0
ItemFits (Undo k x) = Fits k x.value
ItemFits (After t) = Unit {0}
ItemFits (Begin kind) = Unit {0}

abbrev pub ItemsFit : List Item → Type 0
ItemsFit [] = Unit {0}
ItemsFit (i ∷ is) = ItemFits i × ItemsFit is

abbrev pub CellsFit : Cells → Type 0
CellsFit c = (q : Key) → Fits q (c q).value

-- so many groups are open, what is put back is from below its group, and every value fits its key
pub record IsWhole (depth : ℕ) (is : List Item) (c : Cells) : Type 0 where
  pub counted : depth ≡ depth_of is
  pub tied : IsTied is c
  pub cells : CellsFit c
  pub items : ItemsFit is

-- of the parts, now and at a mark
unfoldable pub cells_of : Parts → Cells
cells_of s = λ q. cell_or q (history.present s.store (slot_of q))

unfoldable pub cells_at : Parts → RestMark → Cells
cells_at s m = λ q. cell_or q (history.at s.store m.values.place (slot_of q))

unfoldable pub items_of : Parts → List Item
items_of s = reverse s.stack.items

unfoldable pub items_at : Parts → RestMark → List Item
items_at s m = reverse (undoing.at s.stack m.saves)

-- THE MEANING: what the parts stand for, now and at a mark
unfoldable pub values_in : Parts → Values
values_in s = values (items_of s) (cells_of s)

unfoldable pub values_in_at : Parts → RestMark → Values
values_in_at s m = values (items_at s m) (cells_at s m)

-- so it is with the parts
abbrev pub IsSound : Parts → Type 0
IsSound s = IsWhole s.depth (items_of s) (cells_of s)

-- at the mark m the parts are still what they were in first, and one can go back to it
pub record IsKeptBy (m : RestMark) (first s : Parts) : Type 0 where
  pub store : history.IsSince m.values.place first.store s.store
  pub stack : undoing.IsSince m.saves first.stack s.stack
  pub whole : IsWhole m.depth (items_at first m) (cells_at first m)

unfoldable pub IsKeptIn : RestMark → Parts → Parts → Type 0
IsKeptIn m first s = IsKeptBy m first s

-- at every mark that was taken before, the parts are still what they were
abbrev pub KeepsIn : Parts → Parts → Type 0
KeepsIn old new = (m : RestMark) (first : Parts) → IsKeptIn m first old → IsKeptIn m first new

-- the values at m were marked before those at n
unfoldable pub IsBeforeIn : RestMark → RestMark → Type 0
IsBeforeIn m n = (m.values.place ≤ n.values.place) × undoing.IsBefore m.saves n.saves

abbrev pub top_of : List Item → Option Item
top_of [] = None
top_of (i ∷ is) = Some i

abbrev pub tail_of : List Item → List Item
tail_of [] = []
tail_of (i ∷ is) = is

-- the depth with one item more
abbrev pub depth_after : Item → ℕ → ℕ
depth_after (Undo k x) n = n
depth_after (After t) n = n
depth_after (Begin kind) n = n + 1

abbrev pub kind_in : List Item → Option GroupKind
kind_in [] = None
kind_in (Undo k x ∷ is) = kind_in is
kind_in (After t ∷ is) = kind_in is
kind_in (Begin kind ∷ is) = Some kind
