use Rattle.std.proofs.Common.{arith}
use Rattle.std.proofs.lemmas.Grind.{common_steps}
use Rattle.etx_answers.proofs.Figures.{decimal_one, decimal_more}
use Rattle.etx_answers.proofs.showing.+push_natural.Goals as goal
use Rattle.etx_answers.proofs.showing.+push_natural.Goals.{then-number-ge10+in_ok-push_natural, else-number-ge10}

pub returns : goal.returns
returns t c = elim c.if-number-ge10.branch [
  | then-number-ge10+in_ok-push_natural w ↦ grind (arith, common_steps, decimal_more)
  | else-number-ge10 w ↦ grind (arith, common_steps, decimal_one)
]
