use Rattle.std.proofs.Common.{◌-◌, length}
use Rattle.etx_macros.proofs.Texts.{IsRead}
use Rattle.etx_macros.proofs.pattern.Pattern.read.Given as goal

abbrev pub invariant-loop-next : goal.invariant-loop-next
invariant-loop-next l = IsRead l.tokens l.parts l.part l.at

abbrev pub decreases-loop-next : goal.decreases-loop-next
decreases-loop-next l = length l.tokens - l.at
