-- The letters so far, and those that are left.
use Rattle.std.proofs.Common.{◌∷◌, ◌++◌, [], drop, sym, ◌∙◌, ap, append_assoc}
use Rattle.std.proofs.lemmas.List.{append-nil}
use Rattle.etx_lexer.specs.Names.{Word, word_of}
use Rattle.etx_lexer.specs.Places.{rest_of}
use Rattle.etx_lexer.specs.declared.place.LinePlace.{LinePlace}
use Rattle.etx_lexer.proofs.Firsts.{word-none}
use Rattle.etx_lexer.proofs.Texts.{word_stop, word_more, behind_all}
use Rattle.etx_lexer.proofs.name.read_word.Goals as goal

pub returns-then-first-ne-LETTER : goal.returns-then-first-ne-LETTER
returns-then-first-ne-LETTER g c =
    let v = c.in-Some.ensures in
    let over = word_stop (g.C.CatOf.category c.args.cats.now) (drop c.loop-first.at c.args.line.now) c.in-Some.first.code (drop c.in-Some.first.next c.args.line.now) v.0 (λ e. c.if-first-ne-LETTER.true (v.1 ∙ e)) in (
      sym (append-nil c.loop-first.name) ∙ sym (ap (λ (w : Word). c.loop-first.name ++ w.letters) over) ∙ c.loop-first.invariant.letters,
      ap (rest_of c.args.line.now) c.place_at.ensures ∙ sym (ap (λ (w : Word). w.rest) over) ∙ c.loop-first.invariant.rest,
      ap (λ (p : LinePlace). p.state) c.place_at.ensures,
    )

pub loop-first-preserved : goal.loop-first-preserved
loop-first-preserved g c =
    let v = c.in-Some.ensures in
    let more = word_more (g.C.CatOf.category c.args.cats.now) (drop c.loop-first.at c.args.line.now) c.in-Some.first.code (drop c.in-Some.first.next c.args.line.now) v.0 (sym v.1 ∙ c.if-first-ne-LETTER.false) in
    let later = word_of (g.C.CatOf.category c.args.cats.now) (drop c.in-Some.first.next c.args.line.now) in
    record {
      letters = ap (λ n. n ++ later.letters) c.in_ok-push.ensures.ok ∙ append_assoc c.loop-first.name (c.in-Some.first.code ∷ []) later.letters ∙ sym (ap (λ (w : Word). c.loop-first.name ++ w.letters) more) ∙ c.loop-first.invariant.letters;
      rest = sym (ap (λ (w : Word). w.rest) more) ∙ c.loop-first.invariant.rest;
    }

pub returns : goal.returns
returns g c =
    let over = word-none (g.C.CatOf.category c.args.cats.now) (drop c.loop-first.at c.args.line.now) c.in_default.ensures in (
      sym (append-nil c.loop-first.name) ∙ sym (ap (λ (w : Word). c.loop-first.name ++ w.letters) over) ∙ c.loop-first.invariant.letters,
      ap (rest_of c.args.line.now) c.place_at-2.ensures ∙ behind_all c.args.line.now _ c.len.ensures.len ∙ sym (ap (λ (w : Word). w.rest) over) ∙ c.loop-first.invariant.rest,
      ap (λ (p : LinePlace). p.state) c.place_at-2.ensures,
    )
