use Rattle.etx_keys.specs.Parameters.{all_ints, int_at}
use Rattle.etx_keys.proofs.parameters.int_at.Goals as goal

pub returns : goal.returns
unfolding all_ints int_at
returns c = c.in_table.ensures
