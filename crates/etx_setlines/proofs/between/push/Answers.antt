use Rattle.etx_pack.proofs.Marking.{nested_more}
use Rattle.etx_setlines.proofs.between.push.Goals as goal

pub returns-clause-nested : goal.returns-clause-nested
returns-clause-nested c = λ h. nested_more c.args.list.now c.args.node c.push.new.self h c.requires c.in_ok-push.ensures.ok
