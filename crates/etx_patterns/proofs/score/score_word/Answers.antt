use Rattle.std.proofs.Common.{◌≡◌, ◌+◌, max, length, sym, ap, ◌∙◌, arith}
use Rattle.std.specs.List.{range_with_len}
use Rattle.etx_patterns.specs.Tables.{given_digit, greatest_of, greatest_digit}
use Rattle.etx_patterns.proofs.Scoring.{none_at_all, greatest_of-range}
use Rattle.etx_patterns.proofs.score.score_word.Goals as goal

pub loop-start-preserved : goal.loop-start-preserved
loop-start-preserved c =
    λ place low.
    c.score_from.ensures place (omega arith)
    ∙ ap (λ n. max n (greatest_of (given_digit c.args.language c.args.marks.now c.loop-start.start place) c.args.patterns.now)) (c.loop-start.invariant place low)
    ∙ sym (greatest_of-range (λ start. greatest_of (given_digit c.args.language c.args.marks.now start place) c.args.patterns.now) c.loop-start.start)

pub returns-in_default : goal.returns-in_default
returns-in_default c =
    λ place low. c.requires.zero place ∙ sym (none_at_all c.args.trie.now c.args.patterns.now c.args.language c.args.marks.now c.root.result c.requires.indexed c.root.ensures.root.path_is c.in_default.ensures place)

pub returns : goal.returns
unfolding greatest_digit
returns c =
    let ends : c.loop-start.start ≡ length c.args.marks.now + 1 = omega (arith, c.loop-start-test.false) in
    λ place low.
    c.loop-start.invariant place low
    ∙ ap (λ n. greatest_of (λ start. greatest_of (given_digit c.args.language c.args.marks.now start place) c.args.patterns.now) (range_with_len 0 n)) ends
