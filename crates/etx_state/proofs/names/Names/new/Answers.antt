use Rattle.std.proofs.Common.{arith}
use Rattle.etx_state.proofs.Naming.{apart_empty}
use Rattle.etx_state.proofs.names.Names.new.Goals as goal

pub invariant_of-result : goal.invariant_of-result
invariant_of-result c = (omega (arith, c.new.ensures.len), apart_empty _ c.new.result.keys c.new.ensures.len)
