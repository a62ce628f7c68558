use Rattle.std.proofs.Common.{◌≡◌, ◌++◌, drop}
use Rattle.etx_linebreak.specs.Told.{reports}
use Rattle.etx_linebreak.proofs.told.reports.Given as goal

abbrev pub invariant-loop-it : goal.invariant-loop-it
invariant-loop-it l = l.told ++ reports l.params (drop l.it-index l.its) ≡ reports l.params l.its
