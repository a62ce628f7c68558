use Rattle.std.proofs.Common.{rules, arith}
use Rattle.std.proofs.lemmas.Grind.{common_steps}
use Rattle.etx_scaled.proofs.Divisions.{divided_by}
use Rattle.etx_scaled.proofs.division.xn_over_d.Goals as goal

pub returns-clause-divided : goal.returns-clause-divided
returns-clause-divided c = divided_by _ _ _ _ (search rules) (grind (arith, common_steps)) (grind (arith, common_steps))
