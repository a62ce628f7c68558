use Rattle.std.proofs.Common.{◌-◌, sym, arith}
use Rattle.etx_ship.proofs.Defining.{defined_one, defined_none}
use Rattle.etx_ship.proofs.close.put_definitions.Goals as goal

pub loop-number-preserved-in_ok-put-2 : goal.loop-number-preserved-in_ok-put-2
loop-number-preserved-in_ok-put-2 c = record {
  within = omega (arith, c.loop-number.invariant.within);
  so_far = defined_one c.args.out.now.items c.loop-number.out.items _ (c.loop-number.number - 1) c.loop-number.number c.args.fonts.now c.args.used.now
      c.index-fonts-number.result c.in_ok-definition.field-0 (omega (arith, c.loop-number-test.true)) (omega (arith, c.loop-number-test.true, c.loop-number.invariant.within))
      (sym c.if-used_at.ensures) c.index-fonts-number.is c.in_ok-definition.ensures c.loop-number.invariant.so_far c.in_ok-put.ensures.ok;
}

pub loop-number-preserved : goal.loop-number-preserved
loop-number-preserved c = record {
  within = omega (arith, c.loop-number.invariant.within);
  so_far = defined_none c.args.out.now.items c.loop-number.out.items (c.loop-number.number - 1) c.loop-number.number c.args.fonts.now c.args.used.now
      (omega (arith, c.loop-number-test.true)) (omega (arith, c.loop-number-test.true, c.loop-number.invariant.within))
      (sym c.if-used_at.ensures) c.loop-number.invariant.so_far;
}
