-- Each text's one first line.
use Rattle.etx_lexer.proofs.FirstLines.{rest_is_shorter}
use Rattle.etx_lexer.proofs.OneLine.{one_line, only_line}
use Rattle.etx_lexer.proofs.law.each_text_has_one_first_line.Goals as goal

pub returns-clause-one : goal.returns-clause-one
returns-clause-one c = one_line

pub returns-clause-only : goal.returns-clause-only
returns-clause-only c = λ text line rest is. only_line is

pub returns-clause-shorter : goal.returns-clause-shorter
returns-clause-shorter c = rest_is_shorter
