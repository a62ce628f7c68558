use Rattle.std.proofs.Common.{refl, arith}
use Rattle.etx_patterns.proofs.Walks.{none_along}
use Rattle.etx_patterns.proofs.trie.Trie.find.Goals as goal

pub returns-in-None : goal.returns-in-None
returns-in-None c = none_along c.args.self.now c.args.path.now c.loop-mark.at c.loop-mark.mark-index _ _ c.loop-mark.invariant (omega arith) refl c.in-None.ensures
