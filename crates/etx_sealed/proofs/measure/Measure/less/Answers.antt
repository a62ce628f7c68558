use Rattle.std.proofs.Common.{ap, arith}
use Rattle.std.proofs.lemmas.Int.{ints}
use Rattle.etx_pack.specs.declared.orders.OrderTotals.{OrderTotals}
use Rattle.etx_sealed.proofs.Summing.{same}
use Rattle.etx_sealed.proofs.measure.Measure.less.Goals as goal

pub returns-clause-value : goal.returns-clause-value
returns-clause-value c =
    same _ _
    (omega (arith, ints))
    (ap (λ (t : OrderTotals). t.normal) c.stretch_less.ensures.value)
    (ap (λ (t : OrderTotals). t.fil) c.stretch_less.ensures.value)
    (ap (λ (t : OrderTotals). t.fill) c.stretch_less.ensures.value)
    (ap (λ (t : OrderTotals). t.filll) c.stretch_less.ensures.value)
    (omega (arith, ints))

pub returns-clause-small : goal.returns-clause-small
returns-clause-small c = λ m n f g. record {
  natural = omega (arith, ints, f.natural, g.natural);
  stretch = c.stretch_less.ensures.small m n f.stretch g.stretch;
  shrink = omega (arith, ints, f.shrink, g.shrink);
}
