use Rattle.etx_keys.specs.Parameters.{all_dimens, dimen_at}
use Rattle.etx_keys.proofs.parameters.dimen_at.Goals as goal

pub returns : goal.returns
unfolding all_dimens dimen_at
returns c = c.in_table.ensures
