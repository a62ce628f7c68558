use Rattle.etx_linebreak.proofs.Telling.{told_two}
use Rattle.etx_linebreak.proofs.told.tell.Goals as goal

pub returns : goal.returns
returns c =
    told_two c.args.params.now c.args.it c.args.told.now c.push.new.self c.push-2.new.self c.in_ok-bytes.bytes c.audience_in-audience.result
    c.audience_in-audience.ensures c.in_ok-bytes.ensures c.in_ok-push.ensures.ok c.in_ok-push-2.ensures.ok
