use Rattle.etx_patterns.proofs.Tries.{child_answer}
use Rattle.etx_patterns.proofs.trie.Trie.child.Goals as goal

pub returns : goal.returns
returns c =
    child_answer c.self.inside.nodes.items c.self.inside.heads.items c.args.at c.args.mark _ c.args.self.now c.self.view_is c.self.invariant c.requires (rw c.as_slice.ensures.value at c.find_child.ensures)
