use Rattle.std.proofs.Common.{Some}
use Rattle.std.proofs.lemmas.List.{map-set}
use Rattle.etx_patterns.specs.Links.{entry_of}
use Rattle.etx_patterns.proofs.trie.Trie.set_entry.Goals as goal

pub returns : goal.returns
returns c =
    let heads = c.self.inside.heads.items in
    let noted = map-set entry_of heads c.args.at (record { first = c.index_mut.result.now.first; entry = Some c.args.entry }) in
    rw (← c.self.view_is) (cc)
