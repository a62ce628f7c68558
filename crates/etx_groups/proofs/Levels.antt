-- A group is open exactly where the level is not 0.
use Rattle.std.proofs.Common.{◌≡◌, ◌≢◌, ℕ, List, [], ◌∷◌, Option, Some, None, length, refl, arith}
use Rattle.etx_state.specs.declared.key.GroupKind.{GroupKind}
use Rattle.etx_state.specs.Values.{Values, Group, kind, kind_at, level}

none_at : (gs : List Group) → None ≡ kind_at gs → length gs ≡ 0
none_at [] e = refl
none_at (g ∷ gs) e = absurd (cc)

some_at : (gs : List Group) (k : GroupKind) → Some k ≡ kind_at gs → length gs ≢ 0
some_at [] k e h = absurd (cc)
some_at (g ∷ gs) k e h = omega arith

pub none_open : (m : Values) → None ≡ kind m → level m ≡ 0
unfolding kind level
none_open m e = none_at m.groups e

pub some_open : (m : Values) (k : GroupKind) → Some k ≡ kind m → level m ≢ 0
unfolding kind level
some_open m k e = some_at m.groups k e
