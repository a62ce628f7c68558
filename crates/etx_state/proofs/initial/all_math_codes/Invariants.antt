use Rattle.etx_state.proofs.Counted.{AreFirst}
use Rattle.etx_state.specs.Initial.{first_math_code}
use Rattle.etx_state.proofs.initial.all_math_codes.Given as goal

abbrev pub invariant-loop-code : goal.invariant-loop-code
invariant-loop-code l = AreFirst first_math_code l.code l.list.items
