use Rattle.std.proofs.Common.{◌≡◌, ◌+◌, ◌<◌, take, drop}
use Rattle.etx_patterns.specs.Shapes.{path_in}
use Rattle.etx_patterns.specs.Tree.{size, path_at}
use Rattle.etx_patterns.proofs.Scoring.{Scored}
use Rattle.etx_patterns.proofs.score.score_from.Given as goal

abbrev pub invariant-loop-mark : goal.invariant-loop-mark
invariant-loop-mark l =
    (l.at < size l.trie) × (path_at l.trie l.at ≡ path_in l.language (take l.mark-index (drop l.start l.marks)))
    × Scored l.patterns l.language l.marks l.start (l.mark-index + 1) l.fn.scores l.scores
