use Rattle.std.proofs.Common.{◌≡◌, drop}
use Rattle.etx_conditionals.specs.Conditionals.{same_tokens}
use Rattle.etx_conditionals.proofs.conditionals.same_tokens.Given as goal

abbrev pub invariant-loop-i : goal.invariant-loop-i
invariant-loop-i l = same_tokens (drop l.i l.one) (drop l.i l.other) ≡ same_tokens l.one l.other
