use Rattle.std.proofs.Common.{◌≡◌, ◌++◌, drop}
use Rattle.std.specs.List.{filter}
use Rattle.etx_linebreak.specs.Rows.{bests_after, no_bests, stays}
use Rattle.etx_linebreak.proofs.pass.Pass.walk.Given as goal

abbrev pub invariant-loop-row : goal.invariant-loop-row
invariant-loop-row l =
    (bests_after l.self l.break_number l.resort l.bests (drop l.row-index l.group) ≡ bests_after l.self l.break_number l.resort no_bests l.group)
    × (l.next.items ++ filter (stays l.self l.break_number) (drop l.row-index l.group) ≡ l.initial.next.items ++ filter (stays l.self l.break_number) l.group)
