use Rattle.std.proofs.Common.{◌≡◌, ◌+◌, drop}
use Rattle.etx_linebreak.specs.Runs.{run}
use Rattle.etx_linebreak.proofs.pass.Pass.run.Given as goal

abbrev pub invariant-loop-index : goal.invariant-loop-index
invariant-loop-index l = l.index + run l.self l.group (drop l.index l.rows) ≡ run l.self l.group l.rows
