use Rattle.std.proofs.Common.{length}
use Rattle.etx_state.proofs.rest.+change_branch.Given as goal

abbrev pub decreases-change_branch : goal.decreases-change_branch
decreases-change_branch l = length l.conditions.now.items
