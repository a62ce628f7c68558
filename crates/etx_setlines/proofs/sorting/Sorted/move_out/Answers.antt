use Rattle.etx_pack.proofs.Marking.{nested_more}
use Rattle.etx_setlines.proofs.sorting.Sorted.move_out.Goals as goal

pub returns-clause-nested : goal.returns-clause-nested
returns-clause-nested c = λ h. (h.0, nested_more c.args.self.now.moved c.args.node c.push.new.self h.1 c.requires c.in_ok-push.ensures.ok)
