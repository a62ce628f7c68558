use Rattle.std.proofs.Common.{◌≡◌, replicate, None}
use Rattle.etx_tfm.proofs.pairs.nothing_known.Given as goal

abbrev pub invariant-loop : goal.invariant-loop
invariant-loop l = l.known.items ≡ replicate l.counter None
