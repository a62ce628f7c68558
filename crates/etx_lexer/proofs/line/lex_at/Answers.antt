-- Skipped characters change nothing, and the first of the others decides.
use Rattle.std.proofs.Common.{◌<◌, length, drop, sym, ◌∙◌, ap, subst}
use Rattle.std.proofs.lemmas.Result.{IfOk-weaker}
use Rattle.etx_lexer.specs.Classes.{class_of}
use Rattle.etx_lexer.specs.Lex.{lexed_of, lex_char}
use Rattle.etx_lexer.specs.Places.{rest_of}
use Rattle.etx_lexer.specs.declared.place.LinePlace.{LinePlace}
use Rattle.etx_lexer.specs.declared.lexed.Lexed.TheVariants.{LineEnd}
use Rattle.etx_lexer.proofs.Firsts.{lexed-none, lexed-some, BehindFirst, first_is_shorter}
use Rattle.etx_lexer.proofs.Texts.{lex_same, behind_all, skipped_is_later}
use Rattle.etx_lexer.proofs.line.lex_at.Goals as goal

pub returns-then-not-is_skipped-clause-value : goal.returns-then-not-is_skipped-clause-value
returns-then-not-is_skipped-clause-value g c =
    let cats = g.C.CatOf.category c.args.cats.now in
    let place = c.loop-first.place in
    let code = c.in-Some.first.code in
    let rest = drop c.in-Some.first.next c.args.line.now in
    let later = lexed_of cats rest place.state in
    let same_class = c.class_in-class.ensures ∙ ap class_of c.in-Some.ensures.1 in
    let some = lexed-some cats (rest_of c.args.line.now place) place.state code rest c.in-Some.ensures.0 in
    IfOk-weaker c.lex_first.result _ _
    (λ r h. sym c.loop-first.invariant.same ∙ some ∙ ap (λ k. lex_char k cats place.state code rest later) (sym same_class) ∙ h later)
    c.lex_first.ensures.value

pub loop-first-smaller : goal.loop-first-smaller
loop-first-smaller g c =
    let cats = g.C.CatOf.category c.args.cats.now in
    let text = rest_of c.args.line.now c.loop-first.place in
    let less : length (drop c.in-Some.first.next c.args.line.now) < length text = subst (BehindFirst text) c.in-Some.ensures.0 (first_is_shorter cats text) in
    subst (λ (p : LinePlace). length (rest_of c.args.line.now p) < length text) (sym c.place_at-place.ensures) less

pub loop-first-preserved : goal.loop-first-preserved
loop-first-preserved g c =
    let cats = g.C.CatOf.category c.args.cats.now in
    let place = c.loop-first.place in
    let code = c.in-Some.first.code in
    let rest = drop c.in-Some.first.next c.args.line.now in
    let later = lexed_of cats rest place.state in
    let same_class = c.class_in-class.ensures ∙ ap class_of c.in-Some.ensures.1 in
    let some = lexed-some cats (rest_of c.args.line.now place) place.state code rest c.in-Some.ensures.0 in
    record {
      same = ap (λ (p : LinePlace). lexed_of cats (rest_of c.args.line.now p) p.state) c.place_at-place.ensures
          ∙ sym (some ∙ ap (λ k. lex_char k cats place.state code rest later) (sym same_class)
          ∙ skipped_is_later c.class_in-class.result cats place.state code rest later (sym c.if-not-is_skipped.ensures))
          ∙ c.loop-first.invariant.same;
    }

pub returns-clause-value : goal.returns-clause-value
returns-clause-value g c =
    let cats = g.C.CatOf.category c.args.cats.now in
    let place = c.loop-first.place in
    sym c.loop-first.invariant.same
    ∙ lexed-none cats (rest_of c.args.line.now place) place.state c.in_default.ensures
    ∙ lex_same _ _ _ _ _ _ (λ i. LineEnd) (sym (ap (rest_of c.args.line.now) c.place_at.ensures ∙ behind_all c.args.line.now _ c.len.ensures.len)) (sym (ap (λ (p : LinePlace). p.state) c.place_at.ensures))
