-- Fewer than three characters are no front.
use Rattle.etx_lexer.proofs.Bare.{bare_short}
use Rattle.std.proofs.Common.{drop, arith, length-drop}
use Rattle.etx_lexer.proofs.front.front_at.Goals as goal

pub returns-then-len-at-lt2 : goal.returns-then-len-at-lt2
returns-then-len-at-lt2 g c = bare_short _ _ (drop c.args.at c.args.line.now) (simp length-drop (omega (arith, c.if-len-at-lt2.true, c.len.ensures.len)))
