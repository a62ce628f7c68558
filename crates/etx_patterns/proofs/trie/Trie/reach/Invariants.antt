use Rattle.std.proofs.Common.{take}
use Rattle.etx_patterns.specs.Tree.{IsOnly, Grows}
use Rattle.etx_patterns.proofs.trie.Trie.reach.Given as goal

abbrev pub invariant-loop-mark : goal.invariant-loop-mark
invariant-loop-mark l = Grows l.initial.self l.self × IsOnly l.self (take l.mark-index l.path) l.at
