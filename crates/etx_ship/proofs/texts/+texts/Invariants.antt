use Rattle.std.proofs.Common.{◌≡◌, ◌++◌, drop, map}
use Rattle.etx_ship.specs.Texts.{texts_of, node_texts, joined}
use Rattle.etx_ship.proofs.texts.+texts.Given as goal

abbrev pub invariant-add_texts-loop-node : goal.invariant-add_texts-loop-node
invariant-add_texts-loop-node l =
    l.whats.items ++ joined (map node_texts (drop l.node-index l.node-items)) ≡ l.fn.whats.items ++ texts_of l.fn.it
