use Rattle.etx_mouth.proofs.Running.{one_reason, one_place}
use Rattle.etx_mouth.proofs.law.each_run_halts_in_one_way.Goals as goal

pub returns-clause-why : goal.returns-clause-why
returns-clause-why c = one_reason

pub returns-clause-now : goal.returns-clause-now
returns-clause-now c = one_place
