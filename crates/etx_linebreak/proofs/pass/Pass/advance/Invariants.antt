use Rattle.std.proofs.Common.{length}
use Rattle.etx_linebreak.proofs.Walking.{Walked}
use Rattle.etx_linebreak.proofs.pass.Pass.advance.Given as goal

abbrev pub invariant-groups : goal.invariant-groups
invariant-groups l = Walked l.self l.break_number l.resort l.fn.active l.initial.rows.items l.initial.next.items l.rest l.rows.items l.next.items

abbrev pub decreases-groups : goal.decreases-groups
decreases-groups l = length l.rest
