use Rattle.std.proofs.Common.{◌≡◌, drop}
use Rattle.etx_conditionals.specs.Conditionals.{same_parts}
use Rattle.etx_conditionals.proofs.conditionals.same_parts.Given as goal

abbrev pub invariant-loop-i : goal.invariant-loop-i
invariant-loop-i l = same_parts (drop l.i l.one) (drop l.i l.other) ≡ same_parts l.one l.other
