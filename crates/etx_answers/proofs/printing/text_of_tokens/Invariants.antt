use Rattle.std.proofs.Common.{◌≡◌, ◌++◌, drop}
use Rattle.etx_state.specs.Rests.{rest_of}
use Rattle.etx_answers.specs.Printing.{tokens_text}
use Rattle.etx_answers.proofs.printing.text_of_tokens.Given as goal

abbrev pub invariant-loop-token : goal.invariant-loop-token
invariant-loop-token l = l.bytes ++ tokens_text (rest_of l.rest) (drop l.token-index l.tokens) ≡ tokens_text (rest_of l.rest) l.tokens
