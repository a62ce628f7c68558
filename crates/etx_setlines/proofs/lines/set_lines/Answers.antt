use Rattle.std.proofs.Common.{ap, refl, sym, subst, arith}
use Rattle.etx_matter.specs.Nests.{AreNested}
use Rattle.etx_setlines.specs.declared.setting.Setting.{Setting}
use Rattle.etx_setlines.proofs.Adding.{one_more, finished-first, finished-step, finished-end}
use Rattle.etx_setlines.proofs.Nesting.{nested_none}
use Rattle.etx_setlines.proofs.lines.set_lines.Goals as goal

pub loop-to-init : goal.loop-to-init
loop-to-init c = record {
  lines = finished-first c.args.sealed.now c.new-setting.result 0 c.args.breaks.now c.args.breaks.now c.new-setting.ensures refl refl;
  from = omega arith;
  count = omega (arith, ap (λ (it : Setting). it.count) c.new-setting.ensures);
  nested = subst AreNested (sym (ap (λ (it : Setting). it.list) c.new-setting.ensures)) nested_none;
}

pub returns-clause-lines : goal.returns-clause-lines
returns-clause-lines c =
    finished-end c.args.sealed.now c.loop-to.setting c.loop-to.from c.loop-to.rest.now _ c.finish.result c.loop-to.invariant.lines c.in_default.ensures.cases c.finish.ensures

pub loop-to-preserved : goal.loop-to-preserved
loop-to-preserved c =
    let whole = c.in-Some.ensures.cases.0 in
    record {
      lines = finished-step c.args.sealed.now c.loop-to.setting c.add.new.self c.loop-to.from c.in-Some.to.now c.loop-to.rest.now c.in-Some.behind.now c.in-Some.to.now _
          c.loop-to.invariant.lines whole c.in_ok-add.ensures.value refl;
      from = omega arith;
      count = one_more c.args.sealed.now c.loop-to.setting c.add.new.self c.loop-to.from c.in-Some.to.now _ c.loop-to.rest.now c.in-Some.behind.now c.args.breaks.now
          c.in_ok-add.ensures.value whole c.loop-to.invariant.count;
      nested = c.in_ok-add.ensures.nested c.loop-to.invariant.nested;
    }
