use Rattle.std.proofs.Common.{◌+◌, ◌-◌, length, take, drop, refl, ap, arith}
use Rattle.etx_patterns.proofs.Scoring.{Scored-start, Scored-step, Scored-end, none_further_in, none_longer, walked_in, rest_is}
use Rattle.etx_patterns.proofs.score.score_from.Goals as goal

pub loop-mark-init : goal.loop-mark-init
loop-mark-init c = (
  c.requires.top_within,
  c.requires.top_path,
  Scored-step c.args.trie.now c.args.patterns.now c.args.language c.args.marks.now c.args.start c.args.top 0 _ _ _ c.requires.indexed c.requires.top_within c.requires.top_path (omega arith)
      c.score_entry.ensures c.score_entry.auto.scores (Scored-start c.args.patterns.now c.args.language c.args.marks.now c.args.start c.args.scores.now),
)

pub returns-in-None : goal.returns-in-None
returns-in-None c =
    Scored-end c.args.patterns.now c.args.language c.args.marks.now c.args.start (c.loop-mark.mark-index + 1) c.args.scores.now c.loop-mark.scores
    (none_further_in c.args.trie.now c.args.patterns.now c.args.language c.args.marks.now c.args.start c.loop-mark.at c.loop-mark.mark-index
    (take (length c.args.marks.now - c.args.start) (drop c.args.start c.args.marks.now)) _ _ (rest_is c.args.marks.now c.args.start) c.requires.indexed
    c.loop-mark.invariant.1 c.loop-mark-test.true refl c.in-None.ensures)
    c.loop-mark.invariant.2

pub loop-mark-preserved : goal.loop-mark-preserved
loop-mark-preserved c =
    let lengths = ap length (rest_is c.args.marks.now c.args.start) in
    let path = walked_in c.args.trie.now c.args.language c.loop-mark.at c.in-Some.child c.loop-mark.mark-index (drop c.args.start c.args.marks.now)
    (take (length c.args.marks.now - c.args.start) (drop c.args.start c.args.marks.now)) _ _ (rest_is c.args.marks.now c.args.start)
    c.loop-mark.invariant.1 c.loop-mark-test.true refl c.in-Some.ensures.path_is in (
      c.in-Some.ensures.within,
      path,
      Scored-step c.args.trie.now c.args.patterns.now c.args.language c.args.marks.now c.args.start c.in-Some.child (c.loop-mark.mark-index + 1) _ _ _ c.requires.indexed c.in-Some.ensures.within path (omega (arith, c.loop-mark-test.true))
          c.score_entry-in-loop-mark.ensures c.score_entry-in-loop-mark.auto.scores c.loop-mark.invariant.2,
    )

pub returns : goal.returns
returns c =
    let lengths = ap length (rest_is c.args.marks.now c.args.start) in
    Scored-end c.args.patterns.now c.args.language c.args.marks.now c.args.start (c.loop-mark.mark-index + 1) c.args.scores.now c.loop-mark.scores
    (none_longer c.args.patterns.now c.args.language c.args.marks.now c.args.start (c.loop-mark.mark-index + 1) (omega (arith, c.loop-mark-test.false)))
    c.loop-mark.invariant.2
