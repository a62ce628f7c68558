use Rattle.std.proofs.Common.{sym, ◌∙◌}
use Rattle.etx_tfm.proofs.Programs.{found_in-skip}
use Rattle.etx_tfm.proofs.program.found_in.Goals as goal

pub loop-step-preserved-then-skipped-gt0 : goal.loop-step-preserved-then-skipped-gt0
loop-step-preserved-then-skipped-gt0 c =
    sym (found_in-skip c.args.font.now c.args.right c.loop-step.skipped c.args.steps.now c.loop-step.step-index c.if-skipped-gt0.true c.loop-step-test.true)
    ∙ c.loop-step.invariant
