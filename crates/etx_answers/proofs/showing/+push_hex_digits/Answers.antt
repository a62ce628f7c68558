use Rattle.std.proofs.Common.{arith}
use Rattle.std.proofs.lemmas.Grind.{common_steps}
use Rattle.etx_answers.proofs.Figures.{hex_one, hex_more}
use Rattle.etx_answers.proofs.showing.+push_hex_digits.Goals as goal
use Rattle.etx_answers.proofs.showing.+push_hex_digits.Goals.{then-number-ge16+in_ok-push_hex_digits, else-number-ge16}

pub returns : goal.returns
returns t c = elim c.if-number-ge16.branch [
  | then-number-ge16+in_ok-push_hex_digits w ↦ grind (arith, common_steps, hex_more)
  | else-number-ge16 w ↦ grind (arith, common_steps, hex_one)
]
