use Rattle.etx_expand.proofs.CallLaws.{call_ends, call_goes_on}
use Rattle.etx_expand.proofs.law.a_call_is_read_as_its_body.Goals as goal

pub returns-clause-ends : goal.returns-clause-ends
returns-clause-ends c = call_ends

pub returns-clause-goes_on : goal.returns-clause-goes_on
returns-clause-goes_on c = call_goes_on
