use Rattle.std.proofs.Common.{◌≡◌, ◌≤◌, sym, subst, ℕ, length, ◌∙◌, arith}
use Rattle.etx_macros.specs.Feeding.{longest}
use Rattle.etx_macros.proofs.Comparing.{longest_found, longest_step, longest_zero, longest_short}
use Rattle.etx_macros.proofs.argument.longest_end.Goals as goal

pub loop-count-preserved : goal.loop-count-preserved
loop-count-preserved c = (
  omega (arith, c.loop-count.invariant.0),
  c.loop-count.invariant.1 ∙ longest_step c.args.text.now c.args.delimiter.now c.loop-count.count (omega (arith, c.loop-count-test.true)) (sym c.ends_with.ensures ∙ c.if-ends_with.false),
)

pub returns-then-ends_with : goal.returns-then-ends_with
returns-then-ends_with c =
    let e : longest c.args.text.now c.args.delimiter.now c.args.most ≡ c.loop-count.count =
    c.loop-count.invariant.1 ∙ longest_found c.args.text.now c.args.delimiter.now c.loop-count.count (omega (arith, c.loop-count-test.true)) (sym c.ends_with.ensures ∙ c.if-ends_with.true) in
    record {
      longest = sym e;
      short = subst (λ (n : ℕ). n ≤ length c.args.text.now) e (longest_short c.args.text.now c.args.delimiter.now c.args.most c.requires);
    }

pub returns : goal.returns
returns c = record { longest = sym (c.loop-count.invariant.1 ∙ longest_zero c.args.text.now c.args.delimiter.now c.loop-count.count (omega (arith, c.loop-count-test.false))); short = omega arith }
