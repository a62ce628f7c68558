use Rattle.etx_setlines.proofs.Nesting.{nested_both}
use Rattle.etx_setlines.proofs.setting.push_moved.Goals as goal

pub returns-clause-nested : goal.returns-clause-nested
returns-clause-nested c = λ h. nested_both c.args.list.now c.args.moved c.append.new.self h c.requires c.in_ok-append.ensures.ok
