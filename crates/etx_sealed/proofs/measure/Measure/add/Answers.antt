use Rattle.std.proofs.Common.{ap, arith}
use Rattle.std.proofs.lemmas.Int.{ints}
use Rattle.etx_pack.specs.declared.orders.OrderTotals.{OrderTotals}
use Rattle.etx_sealed.proofs.Summing.{same}
use Rattle.etx_sealed.proofs.measure.Measure.add.Goals as goal

pub returns-clause-value : goal.returns-clause-value
returns-clause-value c =
    same _ _
    (omega (arith, ints, c.width.ensures, c.from.ensures))
    (ap (λ (t : OrderTotals). t.normal) c.add_stretch.ensures.value)
    (ap (λ (t : OrderTotals). t.fil) c.add_stretch.ensures.value)
    (ap (λ (t : OrderTotals). t.fill) c.add_stretch.ensures.value)
    (ap (λ (t : OrderTotals). t.filll) c.add_stretch.ensures.value)
    (omega (arith, ints, c.shrink_of.ensures, c.from-2.ensures))

pub returns-clause-small : goal.returns-clause-small
returns-clause-small c = λ count h. record {
  natural = omega (arith, ints, h.natural);
  stretch = c.add_stretch.ensures.small count h.stretch;
  shrink = omega (arith, ints, h.shrink);
}
