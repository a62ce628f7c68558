use Rattle.std.proofs.Common.{arith, rules}
use Rattle.etx_mouth.proofs.Skims.{idle_next}
use Rattle.etx_mouth.proofs.skim.count_idle.Goals as goal

pub loop-token-preserved : goal.loop-token-preserved
loop-token-preserved c = (
  omega (arith, c.loop-token.invariant.0),
  idle_next _ c.loop-token.count c.loop-token.token-index c.args.tokens.now _ c.loop-token.invariant.0 (search rules) c.loop-token.invariant.1 (c.is_idle.ensures (search rules)),
)
