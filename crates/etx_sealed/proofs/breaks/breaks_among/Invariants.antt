use Rattle.std.proofs.Common.{◌≡◌, ◌+◌, ◌++◌, drop}
use Rattle.etx_sealed.specs.Breaks.{breaks_from, scan_start}
use Rattle.etx_sealed.proofs.breaks.breaks_among.Given as goal

abbrev pub invariant-loop-index : goal.invariant-loop-index
invariant-loop-index l =
    l.found.items ++ breaks_from l.params (l.index + 1) l.scan (drop l.index l.nodes) ≡ breaks_from l.params 1 scan_start l.nodes
