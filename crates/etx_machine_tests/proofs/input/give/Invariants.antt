use Rattle.etx_input.specs.Marks.{Keeps}
use Rattle.etx_machine_tests.proofs.input.give.Given as goal

abbrev pub invariant-turns : goal.invariant-turns
invariant-turns l = Keeps l.fn.levels l.levels
