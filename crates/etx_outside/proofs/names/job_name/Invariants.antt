use Rattle.std.proofs.Common.{◌≤◌, length}
use Rattle.etx_outside.proofs.NameCuts.{NoneFrom}
use Rattle.etx_outside.proofs.names.job_name.Given as goal

abbrev pub invariant-loop-end : goal.invariant-loop-end
invariant-loop-end l = (l.end ≤ length l.name) × NoneFrom l.name l.end

abbrev pub decreases-loop-end : goal.decreases-loop-end
decreases-loop-end l = l.end
