use Rattle.std.proofs.Common.{take}
use Rattle.etx_patterns.specs.Tree.{IsOnly}
use Rattle.etx_patterns.proofs.trie.Trie.find.Given as goal

abbrev pub invariant-loop-mark : goal.invariant-loop-mark
invariant-loop-mark l = IsOnly l.self (take l.mark-index l.path) l.at
