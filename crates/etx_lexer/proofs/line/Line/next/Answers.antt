-- What the function gives meets the rules, and leaves less.
use Rattle.std.proofs.Common.{subst}
use Rattle.std.proofs.lemmas.Result.{IfOk-weaker}
use Rattle.etx_lexer.specs.Lex.{Lex, IsShorter}
use Rattle.etx_lexer.specs.Places.{rest_of}
use Rattle.etx_lexer.proofs.Laws.{Meets, lexes_of, lexed_is_shorter}
use Rattle.etx_lexer.proofs.line.Line.next.Goals as goal

pub returns-clause-rules : goal.returns-clause-rules
returns-clause-rules g c =
    let cats = g.C.CatOf.category c.args.cats.now in
    let place = c.args.place in
    IfOk-weaker c.lex_at.result _ _
    (λ r h. subst (Meets cats (rest_of c.args.self.now place) place.state) h (lexes_of cats (rest_of c.args.self.now place) place.state))
    c.lex_at.ensures.value

pub returns-clause-shorter : goal.returns-clause-shorter
returns-clause-shorter g c =
    let cats = g.C.CatOf.category c.args.cats.now in
    let place = c.args.place in
    IfOk-weaker c.lex_at.result _ _
    (λ r h. subst (λ (l : Lex). IsShorter l.rest (rest_of c.args.self.now place)) h (lexed_is_shorter cats (rest_of c.args.self.now place) place.state))
    c.lex_at.ensures.value
