-- Spaces are dropped one after another.
use Rattle.std.proofs.Common.{sym, ◌∙◌, arith}
use Rattle.etx_lexer.proofs.Ends.{trim_step, trim_stop, trim_nothing}
use Rattle.etx_lexer.proofs.line.trimmed_length.Goals as goal

pub loop-end-preserved : goal.loop-end-preserved
loop-end-preserved c = (omega (arith, c.loop-end.invariant.0), c.loop-end.invariant.1 ∙ trim_step c.args.bytes.now c.loop-end.end (omega arith) c.loop-end.invariant.0 c.if-bytes-end-eq-BLANK.true)

pub returns-else-bytes-end-eq-BLANK-clause-value : goal.returns-else-bytes-end-eq-BLANK-clause-value
returns-else-bytes-end-eq-BLANK-clause-value c =
    sym (c.loop-end.invariant.1 ∙ trim_stop c.args.bytes.now c.loop-end.end (omega arith) c.loop-end.invariant.0 c.if-bytes-end-eq-BLANK.false)

pub returns-after-loop-end-clause-value : goal.returns-after-loop-end-clause-value
returns-after-loop-end-clause-value c = sym (c.loop-end.invariant.1 ∙ trim_nothing c.args.bytes.now c.loop-end.end (omega arith))
