-- What a stack ends as, where its last item was lent to be changed.
use Rattle.std.specs.Borrow.{Lends, Fml, RattleType, MutBor}
use Rattle.etx_stack.specs.Undoing.{Stacked, with_last}
use Rattle.etx_stack.specs.contracts.stack.Stack.{the_row}

module _ (T : RattleType) where
  -- once the borrow r ends, the last item is the last value behind r
  abbrev pub lends_last : MutBor (Stacked T.Denot) → MutBor T.Denot → Fml
  lends_last s r = Lends (the_row T) T s r (with_last s.now)
