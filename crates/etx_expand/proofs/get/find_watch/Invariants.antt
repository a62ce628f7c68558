use Rattle.std.proofs.Common.{◌≡◌, drop}
use Rattle.etx_expand.specs.Getting.{watch_of}
use Rattle.etx_expand.proofs.get.find_watch.Given as goal

abbrev pub invariant-loop-i : goal.invariant-loop-i
invariant-loop-i l = watch_of (drop l.i l.entries) ≡ watch_of l.entries
