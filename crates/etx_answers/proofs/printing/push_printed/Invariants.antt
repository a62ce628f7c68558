use Rattle.std.proofs.Common.{◌≡◌, ◌++◌, drop}
use Rattle.etx_state.specs.Rests.{rest_of}
use Rattle.etx_answers.specs.Printing.{printed}
use Rattle.etx_answers.proofs.printing.push_printed.Given as goal

abbrev pub invariant-loop-code : goal.invariant-loop-code
invariant-loop-code l = l.bytes ++ printed (rest_of l.rest).values (drop l.code-index l.text) ≡ l.initial.bytes ++ printed (rest_of l.rest).values l.text
