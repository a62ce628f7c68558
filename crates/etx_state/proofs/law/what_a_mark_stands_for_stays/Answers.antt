use Rattle.etx_state.proofs.Marks.{rest_kept}
use Rattle.etx_state.proofs.law.what_a_mark_stands_for_stays.Goals as goal

pub returns-clause-kept : goal.returns-clause-kept
returns-clause-kept c = rest_kept

pub returns-clause-behind_calls : goal.returns-clause-behind_calls
returns-clause-behind_calls c mark first now h keeps = rest_kept mark first now (keeps mark first h)
