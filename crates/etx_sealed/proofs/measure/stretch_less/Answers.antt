use Rattle.std.proofs.Common.{arith}
use Rattle.std.proofs.lemmas.Int.{ints}
use Rattle.etx_sealed.proofs.Summing.{same_stretch}
use Rattle.etx_sealed.proofs.measure.stretch_less.Goals as goal

pub returns-clause-value : goal.returns-clause-value
returns-clause-value c = same_stretch _ _ (omega (arith, ints)) (omega (arith, ints)) (omega (arith, ints)) (omega (arith, ints))

pub returns-clause-small : goal.returns-clause-small
returns-clause-small c = λ m n f g. record {
  normal = omega (arith, ints, f.normal, g.normal);
  fil = omega (arith, ints, f.fil, g.fil);
  fill = omega (arith, ints, f.fill, g.fill);
  filll = omega (arith, ints, f.filll, g.filll);
}
