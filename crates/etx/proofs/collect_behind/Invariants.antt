use Rattle.std.proofs.Common.{◌≡◌, ◌++◌, drop}
use Rattle.std.specs.Vec.Iter.{into_iter_items, into_iter_len}
use Rattle.etx.proofs.collect_behind.Given as goal

abbrev pub invariant-each : goal.invariant-each
invariant-each l = l.words.items ++ into_iter_items l.args ≡ drop 1 (into_iter_items l.fn.args)

abbrev pub decreases-each : goal.decreases-each
decreases-each l = into_iter_len l.args
