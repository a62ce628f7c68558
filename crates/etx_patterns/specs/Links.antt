-- How the nodes of a trie are linked.
use Rattle.std.specs.Prelude.{◌≡◌, ℕ, ◌<◌, ◌≤◌, List, [], ◌∷◌, ◌++◌, Option, None, length, slice_index_or}
use Rattle.etx_patterns.specs.declared.step.Mark.{Mark}
use Rattle.etx_patterns.specs.declared.step.Mark.TheVariants.{Boundary}
use Rattle.etx_patterns.specs.declared.trie.Node.{Node}
use Rattle.etx_patterns.specs.declared.trie.Head.{Head}

abbrev pub node_at : List Node → ℕ → Node
node_at nodes at = slice_index_or nodes at (record { parent = 0; mark = Boundary; next = 0 })

abbrev pub head_at : List Head → ℕ → Head
head_at heads at = slice_index_or heads at (record { first = 0; entry = None })

abbrev pub entry_of : Head → Option ℕ
entry_of head = head.entry

-- The paths of nodes that follow those whose paths are known: a parent's path, and the mark that leads on.
abbrev pub paths_from : List (List Mark) → List Node → List (List Mark)
paths_from known [] = known
paths_from known (node ∷ nodes) = paths_from (known ++ (slice_index_or known node.parent [] ++ node.mark ∷ []) ∷ []) nodes

-- The root, node 0, has the empty path.
abbrev pub paths_of : List Node → List (List Mark)
paths_of [] = []
paths_of (root ∷ nodes) = paths_from ([] ∷ []) nodes

-- `count` nodes, each with a parent, a mark and a path, and with its latest child and the child of its parent before it.
pub record IsLinked (count : ℕ) (parent next first : ℕ → ℕ) (mark : ℕ → Mark) (path : ℕ → List Mark) : Type 0 where
  pub root : path 0 ≡ []
  pub some : 0 < count
  pub parents : (node : ℕ) → 0 < node → node < count → parent node < node
  pub steps : (node : ℕ) → 0 < node → node < count → path node ≡ path (parent node) ++ mark node ∷ []
  pub next_before : (node : ℕ) → 0 < node → node < count → next node < node
  pub next_sibling : (node : ℕ) → 0 < node → node < count → 0 < next node → parent (next node) ≡ parent node
  pub next_latest : (node other : ℕ) → 0 < other → other < node → node < count → parent other ≡ parent node → other ≤ next node
  pub first_within : (node : ℕ) → node < count → first node < count
  pub first_child : (node : ℕ) → node < count → 0 < first node → parent (first node) ≡ node
  pub first_latest : (node other : ℕ) → node < count → 0 < other → other < count → parent other ≡ node → other ≤ first node
  pub distinct : (node other : ℕ) → node < count → other < count → path node ≡ path other → node ≡ other

pub record IsTrie (nodes : List Node) (heads : List Head) : Type 0 where
  pub same_length : length heads ≡ length nodes
  pub paths_length : length (paths_of nodes) ≡ length nodes
  pub linked :
      IsLinked (length nodes) (λ node. (node_at nodes node).parent) (λ node. (node_at nodes node).next) (λ node. (head_at heads node).first)
      (λ node. (node_at nodes node).mark) (λ node. slice_index_or (paths_of nodes) node [])
