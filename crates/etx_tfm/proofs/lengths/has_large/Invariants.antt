use Rattle.std.proofs.Common.{◌≡◌, drop, leb}
use Rattle.std.specs.List.{list_any}
use Rattle.etx_tfm.proofs.lengths.has_large.Given as goal

abbrev pub invariant-loop-length : goal.invariant-loop-length
invariant-loop-length l = list_any (leb 32768) (drop l.length-index l.lengths) ≡ list_any (leb 32768) l.lengths
