-- The empty name, and a name that begins with a character.
use Rattle.std.proofs.Common.{drop, sym, ◌∙◌, ap}
use Rattle.std.proofs.lemmas.Result.{IfOk-weaker}
use Rattle.etx_lexer.specs.Places.{rest_of}
use Rattle.etx_lexer.specs.declared.place.LinePlace.{LinePlace}
use Rattle.etx_lexer.proofs.Firsts.{name-none, name-some}
use Rattle.etx_lexer.proofs.Texts.{named_same, behind_all}
use Rattle.etx_lexer.proofs.name.read_name.Goals as goal

pub returns-in-None : goal.returns-in-None
returns-in-None g c =
    name-none (g.C.CatOf.category c.args.cats.now) (drop c.args.at c.args.line.now) c.in-None.ensures
    ∙ named_same _ _ _ _ _ _ (sym c.new.ensures) (sym (ap (rest_of c.args.line.now) c.place_at.ensures ∙ behind_all c.args.line.now _ c.len.ensures.len)) (sym (ap (λ (p : LinePlace). p.state) c.place_at.ensures))

pub returns-in-Some : goal.returns-in-Some
returns-in-Some g c =
    IfOk-weaker c.read_from.result _ _
    (λ r h. name-some (g.C.CatOf.category c.args.cats.now) (drop c.args.at c.args.line.now) c.in-Some.first.code (drop c.in-Some.first.next c.args.line.now) c.in-Some.ensures.0 ∙ h)
    c.read_from.ensures
