use Rattle.std.proofs.Common.{◌≡◌, ◌++◌, pos}
use Rattle.std.proofs.Math.ListN.{replicate}
use Rattle.etx_tfm.proofs.tables.fill_up.Given as goal

abbrev pub invariant-loop : goal.invariant-loop
invariant-loop l = l.out ≡ l.initial.out ++ replicate l.counter (pos 0)
