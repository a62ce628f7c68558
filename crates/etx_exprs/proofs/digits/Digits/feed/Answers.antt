-- A digit more is a digit more of the number.
use Rattle.std.proofs.Common.{rules}
use Rattle.etx_exprs.proofs.Numbers.{stands_fed}
use Rattle.etx_exprs.proofs.digits.Digits.feed.Goals as goal

pub returns-in-Some-clause-stands : goal.returns-in-Some-clause-stands
returns-in-Some-clause-stands c = stands_fed c.args.self.now _ c.args.t (search rules)
