use Rattle.std.proofs.Common.{◌≡◌, ◌-◌, length, reverse, [], Some}
use Rattle.etx_linebreak.specs.Choices.{breaks_to}
use Rattle.etx_linebreak.proofs.pass.Pass.breaks_to.Given as goal

-- the breaks so far, the last one first, and those before them are all
abbrev pub invariant-loop-passed : goal.invariant-loop-passed
invariant-loop-passed l =
    breaks_to l.self l.rows (length l.rows - l._passed) l.at (reverse l.found.items) ≡ breaks_to l.self l.rows (length l.rows) (Some l.fn.last) []
