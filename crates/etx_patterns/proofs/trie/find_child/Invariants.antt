use Rattle.std.proofs.Common.{◌≡◌, ◌≢◌, ℕ, ◌<◌, length}
use Rattle.etx_patterns.specs.Links.{node_at}
use Rattle.etx_patterns.proofs.trie.find_child.Given as goal

abbrev pub invariant-loop-child : goal.invariant-loop-child
invariant-loop-child l =
    (l.child < length l.nodes) × (0 < l.child → (node_at l.nodes l.child).parent ≡ l.at)
    × ((node : ℕ) → 0 < node → node < length l.nodes → (node_at l.nodes node).parent ≡ l.at → l.child < node → (node_at l.nodes node).mark ≢ l.mark)

abbrev pub decreases-loop-child : goal.decreases-loop-child
decreases-loop-child l = l.child
