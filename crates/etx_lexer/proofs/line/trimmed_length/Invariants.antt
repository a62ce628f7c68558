use Rattle.std.proofs.Common.{◌≡◌, ◌≤◌, length, take}
use Rattle.etx_lexer.specs.Places.{trimmed}
use Rattle.etx_lexer.proofs.line.trimmed_length.Given as goal

abbrev pub invariant-loop-end : goal.invariant-loop-end
invariant-loop-end l = (l.end ≤ length l.bytes) × (trimmed l.bytes ≡ trimmed (take l.end l.bytes))

abbrev pub decreases-loop-end : goal.decreases-loop-end
decreases-loop-end l = l.end
