-- The law of extra braces.
use Rattle.etx_macros.proofs.Runs.{extra_exactly}
use Rattle.etx_macros.proofs.law.an_extra_brace_is_known_before_it_is_fed.Goals as goal

pub returns : goal.returns
returns c = extra_exactly
