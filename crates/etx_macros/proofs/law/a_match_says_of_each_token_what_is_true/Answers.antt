-- The law of runs.
use Rattle.etx_macros.proofs.Runs.{said_exactly, arguments_of}
use Rattle.etx_macros.proofs.law.a_match_says_of_each_token_what_is_true.Goals as goal

pub returns-clause-says : goal.returns-clause-says
returns-clause-says c = said_exactly

pub returns-clause-arguments : goal.returns-clause-arguments
returns-clause-arguments c = arguments_of
