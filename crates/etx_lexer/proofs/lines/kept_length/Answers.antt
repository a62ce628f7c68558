-- What one byte 13 at the end is to a line.
use Rattle.std.proofs.Common.{arith}
use Rattle.etx_lexer.proofs.Ends.{kept_less, kept_whole, kept_nothing}
use Rattle.etx_lexer.proofs.lines.kept_length.Goals as goal
use Rattle.etx_lexer.proofs.lines.kept_length.Goals.{else-length-gt0-via-then-length-gt0+else-line-length-eq-RETURN, else-length-gt0-via-else-length-gt0}

pub returns-then-line-length-eq-RETURN-clause-value : goal.returns-then-line-length-eq-RETURN-clause-value
returns-then-line-length-eq-RETURN-clause-value c = kept_less c.args.line.now (omega arith) c.if-line-length-eq-RETURN.true

pub returns-else-length-gt0-clause-value : goal.returns-else-length-gt0-clause-value
returns-else-length-gt0-clause-value c =
    elim c.else-length-gt0.branch [
      | else-length-gt0-via-then-length-gt0+else-line-length-eq-RETURN w ↦ kept_whole c.args.line.now (omega arith) w.if-line-length-eq-RETURN.false
      | else-length-gt0-via-else-length-gt0 w ↦ kept_nothing c.args.line.now (omega arith)
    ]
