use Rattle.std.proofs.Common.{rules}
use Rattle.etx_prims.proofs.Laws.{tells_apart}
use Rattle.etx_prims.proofs.command.PrimitivePartialEq.eq.Goals as goal

pub returns-clause-same : goal.returns-clause-same
returns-clause-same c = tells_apart c.args.self.now c.args.other.now c.eq.result (search rules)
