use Rattle.etx_patterns.proofs.Tries.{root_only, same_sizes}
use Rattle.etx_patterns.proofs.trie.Trie.root.Goals as goal

pub returns-clause-root : goal.returns-clause-root
returns-clause-root c = rw (← c.self.view_is) (root_only c.self.inside.nodes.items c.self.inside.heads.items c.self.invariant)

pub returns-clause-sizes : goal.returns-clause-sizes
returns-clause-sizes c = rw (← c.self.view_is) (same_sizes c.self.inside.nodes.items c.self.inside.heads.items c.self.invariant)
