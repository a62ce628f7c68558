-- The law of what is said.
use Rattle.etx_macros.proofs.Answers.{one_answer}
use Rattle.etx_macros.proofs.law.one_thing_is_said_of_any_tokens.Goals as goal

pub returns : goal.returns
returns c = one_answer
