use Rattle.etx_exprs.proofs.Completeness.{tree_value}
use Rattle.etx_exprs.proofs.Sayings.{taken, says_exactly}
use Rattle.etx_exprs.proofs.law.each_tree_is_taken_and_has_its_value.Goals as goal

pub returns-clause-taken : goal.returns-clause-taken
returns-clause-taken c = taken

pub returns-clause-value : goal.returns-clause-value
returns-clause-value c = tree_value

pub returns-clause-says : goal.returns-clause-says
returns-clause-says c = says_exactly
