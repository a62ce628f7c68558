use Rattle.etx_sealed.proofs.Ending.{nested_more}
use Rattle.etx_sealed.proofs.finishing.finished.Goals as goal

pub returns-clause-nested : goal.returns-clause-nested
returns-clause-nested c =
    nested_more _ _ _ (nested_more _ _ _ c.in_ok-list.ensures.nested c.no_break.ensures.nested c.in_ok-push.ensures.ok) c.glue_node.ensures.nested c.in_ok-push-2.ensures.ok
