use Rattle.std.proofs.Common.{◌≡◌, ◌≤◌, ◌<◌, drop, length}
use Rattle.etx_hyphen.specs.Words.{gathered, nothing_gathered}
use Rattle.etx_hyphen.proofs.letters.gather_word.Given as goal

abbrev pub invariant-loop-node : goal.invariant-loop-node
invariant-loop-node l = record {
  word : gathered l.params l.wanted l.word (drop l.node-index l.nodes) ≡ gathered l.params l.wanted nothing_gathered l.nodes;
  count : l.word.count ≡ l.node-index;
  few : length l.word.letters ≤ 63;
  some : 0 < length l.word.letters → 0 < l.word.count;
}
