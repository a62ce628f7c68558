use Rattle.std.proofs.Common.{arith}
use Rattle.std.proofs.lemmas.Grind.{common_steps}
use Rattle.etx_scaled.proofs.Decimals.{decimal-digit, decimal-more}
use Rattle.etx_scaled.proofs.decimal.+push_whole.Goals as goal
use Rattle.etx_scaled.proofs.decimal.+push_whole.Goals.{then-whole-ge10+in_ok-push_whole, else-whole-ge10}

pub returns : goal.returns
returns t c = elim c.if-whole-ge10.branch [
  | then-whole-ge10+in_ok-push_whole w ↦ grind (arith, common_steps, decimal-more)
  | else-whole-ge10 w ↦ grind (arith, common_steps, decimal-digit)
]
