use Rattle.std.proofs.Common.{arith}
use Rattle.std.proofs.lemmas.Int.{ints}
use Rattle.etx_vsplit.specs.Columns.{lack_of}
use Rattle.etx_vsplit.proofs.column.Column.lack.Goals as goal

pub returns-clause-value : goal.returns-clause-value
unfolding lack_of
returns-clause-value c = omega (arith, ints)
