use Rattle.std.proofs.Common.{arith}
use Rattle.etx_undo.proofs.Histories.{present-back}
use Rattle.etx_undo.proofs.store.Store.back_to.Goals as goal

pub returns-clause-now : goal.returns-clause-now
returns-clause-now g c = present-back _ _ _ (omega arith) c.loop-mark.invariant.same
