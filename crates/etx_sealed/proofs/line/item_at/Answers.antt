use Rattle.std.proofs.Common.{◌-◌}
use Rattle.etx_sealed.proofs.Nesting.{nested_lent}
use Rattle.etx_sealed.proofs.line.item_at.Goals as goal

pub returns-else-place-eq0-clause-nested : goal.returns-else-place-eq0-clause-nested
returns-else-place-eq0-clause-nested c = λ h. nested_lent c.args.nodes.now (c.args.place - 1) c.get.result c.get.ensures.lookup.0 c.get.ensures.lookup.1 h
