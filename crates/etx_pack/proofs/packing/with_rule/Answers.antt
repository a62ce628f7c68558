use Rattle.etx_pack.proofs.Marking.{nested_more}
use Rattle.etx_pack.proofs.packing.with_rule.Goals as goal

pub returns-clause-nested : goal.returns-clause-nested
returns-clause-nested c = nested_more c.args.list c.rule_of-rule.result c.push.new.self c.requires c.rule_of-rule.ensures.nested c.in_ok-push.ensures.ok
