use Rattle.std.proofs.Common.{◌≡◌, None, drop}
use Rattle.etx_linebreak.specs.Rows.{least_after}
use Rattle.etx_linebreak.proofs.bests.least_of.Given as goal

abbrev pub invariant-loop-best : goal.invariant-loop-best
invariant-loop-best l = least_after l.least (drop l.best-index l.bests) ≡ least_after None l.bests
