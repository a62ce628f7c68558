use Rattle.std.proofs.Common.{◌≡◌, ◌++◌, drop}
use Rattle.etx_state.specs.Rests.{rest_of}
use Rattle.etx_answers.specs.Showing.{parts_text}
use Rattle.etx_answers.proofs.showing.push_parameters.Given as goal

abbrev pub invariant-loop-number : goal.invariant-loop-number
invariant-loop-number l = l.text ++ parts_text l.marks l.number (drop l.number l.parts) (rest_of l.rest) ≡ l.initial.text ++ parts_text l.marks 0 l.parts (rest_of l.rest)
