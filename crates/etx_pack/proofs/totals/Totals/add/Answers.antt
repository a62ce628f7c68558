use Rattle.std.proofs.Common.{arith}
use Rattle.std.proofs.lemmas.Int.{ints}
use Rattle.etx_pack.proofs.totals.Totals.add.Goals as goal

pub returns-clause-small : goal.returns-clause-small
returns-clause-small c = λ count h. record {
  size = omega (arith, ints, h.size);
  stretch = c.add_stretch.ensures.small count h.stretch;
  shrink = c.add_shrink.ensures.small count h.shrink;
}
