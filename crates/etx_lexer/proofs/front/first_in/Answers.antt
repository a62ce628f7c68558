-- Past the end nothing is left.
use Rattle.std.proofs.Common.{ap, ◌∙◌, arith}
use Rattle.std.proofs.lemmas.List.{drop_all}
use Rattle.etx_lexer.specs.Reading.{first_of}
use Rattle.etx_lexer.proofs.Firsts.{first-nil}
use Rattle.etx_lexer.proofs.front.first_in.Goals as goal

pub returns-then-at-len : goal.returns-then-at-len
returns-then-at-len g c = ap (first_of (g.C.CatOf.category c.args.cats.now)) (drop_all c.args.at c.args.line.now (omega (arith, c.if-at-len.true, c.len.ensures.len))) ∙ first-nil _
