use Rattle.etx_sealed.proofs.Ending.{nothing_left, put_back_is, put_back_nested}
use Rattle.etx_sealed.proofs.finishing.without_last_glue.Goals as goal

pub returns-in-None-clause-list : goal.returns-in-None-clause-list
returns-in-None-clause-list c = nothing_left _ _ c.in-None.ensures.0 c.in-None.ensures.1

pub returns-in_ok-kept-in-Some-clause-list : goal.returns-in_ok-kept-in-Some-clause-list
returns-in_ok-kept-in-Some-clause-list c = put_back_is _ _ _ _ c.in-Some.ensures c.in_ok-kept-in-Some.ensures.list

pub returns-in_ok-kept-in-Some-clause-nested : goal.returns-in_ok-kept-in-Some-clause-nested
returns-in_ok-kept-in-Some-clause-nested c = put_back_nested _ _ _ _ c.requires c.in-Some.ensures c.in_ok-kept-in-Some.ensures.list
