use Rattle.std.proofs.Common.{◌≡◌, drop, pos}
use Rattle.etx_linebreak.specs.Choices.{walked}
use Rattle.etx_linebreak.proofs.chosen.walked.Given as goal

abbrev pub invariant-loop-row : goal.invariant-loop-row
invariant-loop-row l =
    walked l.wanted l.best.line l.so_far (drop l.row-index l.rows) ≡ walked l.wanted l.best.line (record { row = l.best; off = pos 0 }) l.rows
