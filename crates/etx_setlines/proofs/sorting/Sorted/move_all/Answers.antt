use Rattle.etx_setlines.proofs.Nesting.{nested_both}
use Rattle.etx_setlines.proofs.sorting.Sorted.move_all.Goals as goal

pub returns-clause-nested : goal.returns-clause-nested
returns-clause-nested c = λ h. (h.0, nested_both c.args.self.now.moved c.args.nodes c.append.new.self h.1 c.requires c.in_ok-append.ensures.ok)
