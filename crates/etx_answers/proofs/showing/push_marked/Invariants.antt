use Rattle.std.proofs.Common.{◌≡◌, ◌++◌, drop}
use Rattle.etx_state.specs.Rests.{rest_of}
use Rattle.etx_answers.specs.Showing.{marked_text}
use Rattle.etx_answers.proofs.showing.push_marked.Given as goal

abbrev pub invariant-loop-token : goal.invariant-loop-token
invariant-loop-token l = l.text ++ marked_text l.mark (drop l.token-index l.tokens) (rest_of l.rest) ≡ l.initial.text ++ marked_text l.mark l.tokens (rest_of l.rest)
