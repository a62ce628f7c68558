-- A negative divisor.
use Rattle.std.proofs.Common.{rules, pos, ◌≤ℤ◌, arith}
use Rattle.std.proofs.lemmas.Grind.{common_steps}
use Rattle.std.proofs.lemmas.Int.{ints}
use Rattle.etx_exprs.proofs.Quotients.{divided_below}
use Rattle.etx_exprs.proofs.step.divided.Goals as goal

pub returns-else-d-gt0 : goal.returns-else-d-gt0
returns-else-d-gt0 c =
    let low : c.args.d ≤ℤ pos 0 = grind (arith, ints, common_steps) in
    rw (divided_below c.args.z c.args.d low c.requires.nonzero) (first_of (search rules, grind (arith, ints, common_steps)))
