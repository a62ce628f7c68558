-- The law of calls.
use Rattle.std.proofs.Common.{refl}
use Rattle.etx_macros.proofs.Unique.{one_call}
use Rattle.etx_macros.proofs.law.each_text_begins_with_one_call.Goals as goal

pub returns : goal.returns
returns c = λ long parts args others call behind other behind_other m n e. one_call long parts call args m parts other others behind behind_other n refl e
