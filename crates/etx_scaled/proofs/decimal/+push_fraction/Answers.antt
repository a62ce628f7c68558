use Rattle.std.proofs.Common.{arith}
use Rattle.std.proofs.lemmas.Grind.{common_steps}
use Rattle.etx_scaled.proofs.Decimals.{fraction_digits-none, fraction_digits-last, fraction_digits-more}
use Rattle.etx_scaled.proofs.decimal.+push_fraction.Goals as goal

pub returns-then-places-eq0 : goal.returns-then-places-eq0
returns-then-places-eq0 t c = grind (arith, common_steps, fraction_digits-none)

pub returns-then-rest-delta : goal.returns-then-rest-delta
returns-then-rest-delta t c = grind (arith, common_steps, fraction_digits-last)

pub returns : goal.returns
returns t c = grind (arith, common_steps, fraction_digits-more)
