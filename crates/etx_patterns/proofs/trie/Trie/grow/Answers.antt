use Rattle.std.proofs.Common.{◌≡◌, ◌++◌, [], ◌∷◌, ap, ◌∙◌, length, arith}
use Rattle.std.proofs.lemmas.List.{get_or_read, length_push}
use Rattle.etx_patterns.specs.Links.{head_at}
use Rattle.etx_patterns.specs.declared.trie.Head.{Head}
use Rattle.etx_patterns.proofs.Tries.{IsTrie-grown, within_nodes, unseen_nodes, grown_tree, new_node, new_head}
use Rattle.etx_patterns.proofs.trie.Trie.grow.Goals as goal

nodes_pushed : (c : goal.After-self-1) → c.push-2.new.self.items ≡ c.self.inside.nodes.items ++ new_node c.self.inside.heads.items c.args.at c.args.mark ∷ []
nodes_pushed c = cc (c.in-Ok.ensures.items, c.head_at-next.ensures)

heads_pushed : (c : goal.After-self-1) → c.push.new.self.items ≡ c.self.inside.heads.items ++ new_head ∷ []
heads_pushed c = c.in_ok-push.ensures.items

fresh_is : (c : goal.After-self-1) → c.len-fresh.result ≡ length c.self.inside.nodes.items
fresh_is c = omega (arith, c.self.inside.nodes.ok.0)

entry_is : (c : goal.After-self-1) → c.index_mut.result.now.entry ≡ (head_at c.push.new.self.items c.args.at).entry
entry_is c =
    let low = within_nodes _ _ _ _ c.self.view_is c.self.invariant c.requires.within in
    let same = c.self.invariant.same_length in
    let longer = ap length (heads_pushed c) ∙ length_push c.self.inside.heads.items new_head in
    ap (λ (it : Head). it.entry) (get_or_read c.push.new.self.items c.args.at _ (omega arith) c.index_mut.ensures.value _)

pub invariant_of-self-2 : goal.invariant_of-self-2
invariant_of-self-2 c =
    IsTrie-grown c.self.inside.nodes.items c.push-2.new.self.items c.self.inside.heads.items c.push.new.self.items c.args.at c.len-fresh.result c.args.mark _
    c.self.invariant (within_nodes _ _ _ _ c.self.view_is c.self.invariant c.requires.within)
    (unseen_nodes _ _ _ _ _ c.self.view_is c.self.invariant c.requires.fresh) (nodes_pushed c) (heads_pushed c) (fresh_is c)

pub returns-clause-grows : goal.returns-clause-grows
returns-clause-grows c =
    (grown_tree c.self.inside.nodes.items c.push-2.new.self.items c.self.inside.heads.items c.push.new.self.items c.args.at c.len-fresh.result c.args.mark c.index_mut.result.now.entry
    c.args.self.now c.self.view_is c.self.invariant c.requires.within c.requires.fresh (nodes_pushed c) (heads_pushed c) (fresh_is c) (entry_is c)).0

pub returns-clause-ok : goal.returns-clause-ok
returns-clause-ok c =
    (grown_tree c.self.inside.nodes.items c.push-2.new.self.items c.self.inside.heads.items c.push.new.self.items c.args.at c.len-fresh.result c.args.mark c.index_mut.result.now.entry
    c.args.self.now c.self.view_is c.self.invariant c.requires.within c.requires.fresh (nodes_pushed c) (heads_pushed c) (fresh_is c) (entry_is c)).1
