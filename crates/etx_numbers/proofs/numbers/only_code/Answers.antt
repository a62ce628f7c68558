use Rattle.etx_numbers.proofs.Codes.{only_one, not_one}
use Rattle.etx_numbers.proofs.numbers.only_code.Goals as goal

pub returns-then-text-eq1 : goal.returns-then-text-eq1
returns-then-text-eq1 c = only_one _ c.if-text-eq1.true

pub returns-else-text-eq1 : goal.returns-else-text-eq1
returns-else-text-eq1 c = not_one _ c.if-text-eq1.false
