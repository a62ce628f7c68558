use Rattle.etx_pack.proofs.Marking.{nested_more}
use Rattle.etx_setlines.proofs.sorting.Sorted.keep.Goals as goal

pub returns-clause-nested : goal.returns-clause-nested
returns-clause-nested c = λ h. (nested_more c.args.self.now.line c.args.node c.push.new.self h.0 c.requires c.in_ok-push.ensures.ok, h.1)
