use Rattle.std.proofs.Common.{◌+◌, sym, ◌∙◌, ap}
use Rattle.etx_tfm.proofs.Rounds.{has_round_list-here, has_round_list-on}
use Rattle.etx_tfm.proofs.checks.has_round_list.Goals as goal

pub returns-then-comes_round : goal.returns-then-comes_round
returns-then-comes_round c =
    sym (has_round_list-here c.args.font.now c.args.characters.now c.args.font.now.first c.loop-place.place (c.from-first.result + c.loop-place.place)
    c.loop-place-test.true (ap (λ n. n + c.loop-place.place) c.from-first.ensures) (sym c.comes_round.ensures ∙ c.if-comes_round.true))
    ∙ c.loop-place.invariant

pub loop-place-preserved : goal.loop-place-preserved
loop-place-preserved c =
    sym (has_round_list-on c.args.font.now c.args.characters.now c.args.font.now.first c.loop-place.place (c.from-first.result + c.loop-place.place)
    c.loop-place-test.true (ap (λ n. n + c.loop-place.place) c.from-first.ensures) (sym c.comes_round.ensures ∙ c.if-comes_round.false))
    ∙ c.loop-place.invariant
