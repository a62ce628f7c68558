use Rattle.std.proofs.Common.{◌≡◌, drop}
use Rattle.etx_linebreak.specs.Choices.{fewest}
use Rattle.etx_linebreak.proofs.chosen.fewest.Given as goal

abbrev pub invariant-loop-row : goal.invariant-loop-row
invariant-loop-row l = fewest l.best (drop l.row-index l.rows) ≡ fewest l.fn.first l.rows
