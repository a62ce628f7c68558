use Rattle.etx_pack.proofs.Marking.{nested_more}
use Rattle.etx_texts.proofs.items.put.Goals as goal

pub returns : goal.returns
returns c = λ h. nested_more c.args.list.now c.args.node c.push.new.self h c.requires c.in_ok-push.ensures.ok
