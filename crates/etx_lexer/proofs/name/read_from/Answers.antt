-- A word, a space or another single character.
use Rattle.std.proofs.Common.{◌≡◌, ◌∷◌, ◌++◌, [], drop, sym, ◌∙◌, ap}
use Rattle.std.proofs.lemmas.Result.{IfOk-weaker}
use Rattle.etx_lexer.specs.Names.{word_of}
use Rattle.etx_lexer.specs.Places.{rest_of}
use Rattle.etx_lexer.specs.declared.place.LinePlace.{LinePlace}
use Rattle.etx_lexer.proofs.Words.{named-letter, named-space, named-symbol}
use Rattle.etx_lexer.proofs.Texts.{named_same}
use Rattle.etx_lexer.proofs.name.read_from.Goals as goal
use Rattle.etx_lexer.proofs.name.read_from.Goals.{then-first-eq-SPACE, else-first-eq-SPACE}

pub returns-then-first-eq-LETTER : goal.returns-then-first-eq-LETTER
returns-then-first-eq-LETTER g c =
    let one = c.in_ok-push.ensures.ok ∙ ap (λ n. n ++ c.args.first.code ∷ []) c.new-name.ensures in
    IfOk-weaker c.read_word.result _ _
    (λ r h. named-letter (g.C.CatOf.category c.args.cats.now) c.args.first.code (drop c.args.first.next c.args.line.now) (sym c.requires.cat ∙ c.if-first-eq-LETTER.true)
    ∙ named_same _ _ _ _ _ _ (sym (h.0 ∙ ap (λ n. n ++ (word_of (g.C.CatOf.category c.args.cats.now) (drop c.args.first.next c.args.line.now)).letters) one)) (sym h.1) (sym h.2))
    c.read_word.ensures

pub returns : goal.returns
returns g c =
    let one = c.in_ok-push.ensures.ok ∙ ap (λ n. n ++ c.args.first.code ∷ []) c.new-name.ensures in
    let not_letter = λ (e : g.C.CatOf.category c.args.cats.now c.args.first.code ≡ 11). c.if-first-eq-LETTER.false (c.requires.cat ∙ e) in
    let state = ap (λ (p : LinePlace). p.state) c.place_at.ensures in
    let place = ap (rest_of c.args.line.now) c.place_at.ensures in
    elim c.if-first-eq-SPACE.branch [
      | then-first-eq-SPACE w ↦ named-space (g.C.CatOf.category c.args.cats.now) c.args.first.code (drop c.args.first.next c.args.line.now) (sym c.requires.cat ∙ w.if-first-eq-SPACE.true)
          ∙ named_same _ _ _ _ _ _ (sym one) (sym place) (sym (state ∙ w.state-is))
      | else-first-eq-SPACE w ↦ named-symbol (g.C.CatOf.category c.args.cats.now) c.args.first.code (drop c.args.first.next c.args.line.now) not_letter (λ e. w.if-first-eq-SPACE.false (c.requires.cat ∙ e))
          ∙ named_same _ _ _ _ _ _ (sym one) (sym place) (sym (state ∙ w.state-is))
    ]
