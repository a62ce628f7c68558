use Rattle.etx_state.proofs.Counted.{AreFirst}
use Rattle.etx_state.proofs.initial.all_numbers.Given as goal

abbrev pub invariant-loop-number : goal.invariant-loop-number
invariant-loop-number l = AreFirst (λ n. n) l.number l.list.items
