use Rattle.std.proofs.Common.{◌≡◌, ◌++◌, drop}
use Rattle.etx_macros.specs.Substituting.{substituted}
use Rattle.etx_macros.proofs.substitution.substitute.Given as goal

abbrev pub invariant-loop-token : goal.invariant-loop-token
invariant-loop-token l = l.out ++ substituted (drop l.token-index l.body) l.args ≡ substituted l.body l.args
