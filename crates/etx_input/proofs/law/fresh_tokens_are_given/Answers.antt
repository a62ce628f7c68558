use Rattle.etx_input.proofs.Runs.{first, more, rest}
use Rattle.etx_input.proofs.law.fresh_tokens_are_given.Goals as goal

pub returns-clause-first : goal.returns-clause-first
returns-clause-first c = first

pub returns-clause-more : goal.returns-clause-more
returns-clause-more c = more

pub returns-clause-rest : goal.returns-clause-rest
returns-clause-rest c = rest
