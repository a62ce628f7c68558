use Rattle.etx_state.proofs.Naming.{fresh_none}
use Rattle.etx_state.proofs.rest.Rest.open.Goals as goal

pub add-requires-clause-fresh : goal.add-requires-clause-fresh
add-requires-clause-fresh c = rw c.new-names.ensures (fresh_none _)
