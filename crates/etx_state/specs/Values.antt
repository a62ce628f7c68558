-- What is assigned in groups: a list of maps, one a group.
use Rattle.std.specs.Prelude.{ℕ, Bool, List, [], ◌∷◌, ◌++◌, Option, Some, None, map, unwrap_or, length, if◌then◌else◌}
use Rattle.etx_keys.specs.declared.key.Key.{Key}
use Rattle.etx_state.specs.declared.key.Val.{Val}
use Rattle.etx_state.specs.declared.key.GroupKind.{GroupKind}
use Rattle.etx_state.specs.Slots.{same}
use Rattle.etx_matter.specs.declared.token.Token.{Token}

-- a group: its kind, the tokens that follow its end, and its map
pub record Group : Type 0 where
  pub kind : GroupKind
  pub after : List Token
  pub map : Key → Option Val

-- the outermost map, which has every key, and the open groups, the innermost first
pub record Values : Type 0 where
  pub outer : Key → Val
  pub groups : List Group

abbrev pub with_outer : (Key → Val) → Key → Val → Key → Val
with_outer m k v = λ q. if same k q then v else m q

abbrev pub with_key : (Key → Option Val) → Key → Val → Key → Option Val
with_key m k v = λ q. if same k q then Some v else m q

abbrev pub without_key : (Key → Option Val) → Key → Key → Option Val
without_key m k = λ q. if same k q then None else m q

abbrev pub inside : Group → Values → Values
inside g m = record { outer = m.outer; groups = g ∷ m.groups }

abbrev pub outermost : (Key → Val) → Values
outermost o = record { outer = o; groups = [] }

abbrev pub put_in : Group → Key → Val → Group
put_in g k v = record { kind = g.kind; after = g.after; map = with_key g.map k v }

abbrev pub taken_from : Group → Key → Group
taken_from g k = record { kind = g.kind; after = g.after; map = without_key g.map k }

-- the innermost map that has the key
abbrev pub get_at : (Key → Val) → List Group → Key → Val
get_at o [] q = o q
get_at o (g ∷ gs) q = unwrap_or (g.map q) (get_at o gs q)

unfoldable pub get : Values → Key → Val
get m q = get_at m.outer m.groups q

-- in the innermost map
abbrev pub assign_at : (Key → Val) → List Group → Key → Val → Values
assign_at o [] k v = outermost (with_outer o k v)
assign_at o (g ∷ gs) k v = record { outer = o; groups = put_in g k v ∷ gs }

unfoldable pub assign : Values → Key → Val → Values
assign m k v = assign_at m.outer m.groups k v

-- in the outermost map, and out of all others
unfoldable pub assign_global : Values → Key → Val → Values
assign_global m k v = record { outer = with_outer m.outer k v; groups = map (λ g. taken_from g k) m.groups }

abbrev pub by_has : Option Val → Values → Values → Values
by_has (Some v) x y = x
by_has None x y = y

-- in the innermost map that has the key
abbrev pub change_at : (Key → Val) → List Group → Key → Val → Values
change_at o [] k v = outermost (with_outer o k v)
change_at o (g ∷ gs) k v = by_has (g.map k) (record { outer = o; groups = put_in g k v ∷ gs }) (inside g (change_at o gs k v))

unfoldable pub change : Values → Key → Val → Values
change m k v = change_at m.outer m.groups k v

unfoldable pub begin : Values → GroupKind → Values
begin m kind = inside (record { kind = kind; after = []; map = λ q. None }) m

abbrev pub ended_at : (Key → Val) → List Group → Values
ended_at o [] = outermost o
ended_at o (g ∷ gs) = record { outer = o; groups = gs }

unfoldable pub ended : Values → Values
ended m = ended_at m.outer m.groups

abbrev pub kind_at : List Group → Option GroupKind
kind_at [] = None
kind_at (g ∷ gs) = Some g.kind

-- the kind of the innermost group
unfoldable pub kind : Values → Option GroupKind
kind m = kind_at m.groups

abbrev pub after_at : List Group → List Token
after_at [] = []
after_at (g ∷ gs) = g.after

-- the tokens that follow the end of the innermost group
unfoldable pub after : Values → List Token
after m = after_at m.groups

abbrev pub noted_at : (Key → Val) → List Group → Token → Values
noted_at o [] t = outermost o
noted_at o (g ∷ gs) t = record { outer = o; groups = record { kind = g.kind; after = g.after ++ t ∷ []; map = g.map } ∷ gs }

-- one more of them
unfoldable pub noted : Values → Token → Values
noted m t = noted_at m.outer m.groups t

-- the number of open groups
unfoldable pub level : Values → ℕ
level m = length m.groups
