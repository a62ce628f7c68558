use Rattle.std.proofs.Common.{◌≡◌}
use Rattle.etx_state.specs.Rests.{rest_of}
use Rattle.etx_mouth.specs.Skimming.{AreIdle}
use Rattle.etx_mouth.proofs.skim.count_idle.Given as goal

abbrev pub invariant-loop-token : goal.invariant-loop-token
invariant-loop-token l = (l.count ≡ l.token-index) × AreIdle (rest_of l.rest).values l.count l.tokens
