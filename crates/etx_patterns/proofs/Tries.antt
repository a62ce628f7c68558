-- Tries: their paths, a node more, and what no child says of the paths beyond.
use Rattle.std.proofs.Common.{◌≡◌, ◌≢◌, ℕ, zero, suc, ◌+◌, ◌<◌, List, [], ◌∷◌, ◌++◌, Option, None, Some, ◌⊎◌, inl, inr, refl, ap, sym, ◌∙◌, subst, length, get_or, set, map, MatchOption, arith, append_assoc}
use Rattle.std.proofs.lemmas.Bool.{cases_lt, cases_eq}
use Rattle.std.proofs.lemmas.List.{append-nil, same_from_push, length_push, get_or_push, get_or_append_left, get_or-set_other, length-set, length-append, map_push, get_or_past, set_past, length-map}
use Rattle.std.proofs.Math.Seq.{map-set_same}
use Rattle.etx_patterns.specs.Tree.{Tree, size, path_at, IsOnly, Grows}
use Rattle.std.proofs.lemmas.Grind.{get_or-set_at}
use Rattle.etx_patterns.specs.declared.step.Mark.{Mark}
use Rattle.etx_patterns.specs.declared.trie.Node.{Node}
use Rattle.etx_patterns.specs.declared.trie.Head.{Head}
use Rattle.etx_patterns.specs.Links.{IsTrie, node_at, head_at, entry_of, paths_from, paths_of}
use Rattle.etx_patterns.proofs.Linked.{IsGrown, IsLinked-grown}

pub length-paths_from : (known : List (List Mark)) (nodes : List Node) → length (paths_from known nodes) ≡ length known + length nodes
length-paths_from known [] = omega arith
length-paths_from known (node ∷ nodes) =
    let step = slice_at known node in
    let more = length-paths_from (known ++ step ∷ []) nodes in
    let one = length_push known step in
    omega arith
  where
    slice_at : List (List Mark) → Node → List Mark
    slice_at known node = get_or known node.parent [] ++ node.mark ∷ []

pub paths_from-push : (known : List (List Mark)) (nodes : List Node) (node : Node)
    → paths_from known (nodes ++ node ∷ []) ≡ paths_from known nodes ++ (get_or (paths_from known nodes) node.parent [] ++ node.mark ∷ []) ∷ []
paths_from-push known [] node = refl
paths_from-push known (first ∷ nodes) node = paths_from-push (known ++ (get_or known first.parent [] ++ first.mark ∷ []) ∷ []) nodes node

pub paths_of-push : (nodes : List Node) (node : Node) → 0 < length nodes
    → paths_of (nodes ++ node ∷ []) ≡ paths_of nodes ++ (get_or (paths_of nodes) node.parent [] ++ node.mark ∷ []) ∷ []
paths_of-push [] node some = absurd (omega arith)
paths_of-push (root ∷ nodes) node some = paths_from-push ([] ∷ []) nodes node

abbrev pub new_node : List Head → ℕ → Mark → Node
new_node heads at mark = record { parent = at; mark = mark; next = (head_at heads at).first }

abbrev pub new_head : Head
new_head = record { first = 0; entry = None }

abbrev pub linked_head : ℕ → Option ℕ → Head
linked_head fresh entry = record { first = fresh; entry = entry }

abbrev pub paths_at : List Node → ℕ → List Mark
paths_at nodes at = get_or (paths_of nodes) at []

-- The links after a node more.
IsGrown-pushed : (nodes : List Node) (heads : List Head) (at : ℕ) (mark : Mark) (entry : Option ℕ) → IsTrie nodes heads → at < length nodes
    → IsGrown (length nodes) at mark
    (λ node. (node_at nodes node).parent) (λ node. (node_at nodes node).next) (λ node. (head_at heads node).first)
    (λ node. (node_at (nodes ++ new_node heads at mark ∷ []) node).parent)
    (λ node. (node_at (nodes ++ new_node heads at mark ∷ []) node).next)
    (λ node. (head_at (set (heads ++ new_head ∷ []) at (linked_head (length nodes) entry)) node).first)
    (λ node. (node_at nodes node).mark)
    (λ node. (node_at (nodes ++ new_node heads at mark ∷ []) node).mark)
    (λ node. paths_at nodes node)
    (λ node. paths_at (nodes ++ new_node heads at mark ∷ []) node)
IsGrown-pushed nodes heads at mark entry t within =
    let same : length heads ≡ length nodes = t.same_length in
    let lengths : length (paths_of nodes) ≡ length nodes = t.paths_length in
    let n = length nodes in
    let heads' = heads ++ new_head ∷ [] in
    let head' = linked_head n entry in
    let heads_length : length heads' ≡ n + 1 = omega (arith, length_push heads new_head) in
    let old : (node : ℕ) → node < n → node_at (nodes ++ new_node heads at mark ∷ []) node ≡ node_at nodes node =
    λ node low. get_or_append_left nodes (new_node heads at mark ∷ []) _ node low in
    let new : (node : ℕ) → node ≡ n → node_at (nodes ++ new_node heads at mark ∷ []) node ≡ new_node heads at mark =
    λ node e. get_or_push nodes (new_node heads at mark) _ node (sym e) in
    let pushed = paths_of-push nodes (new_node heads at mark) (omega arith) in
    record {
      parent_old = λ node low. ap (λ (it : Node). it.parent) (old node low);
      parent_new = λ node e. ap (λ (it : Node). it.parent) (new node e);
      next_old = λ node low. ap (λ (it : Node). it.next) (old node low);
      next_new = λ node e. ap (λ (it : Node). it.next) (new node e);
      first_other = λ node low other.
          ap (λ (it : Head). it.first) (get_or-set_other heads' at node head' _ other ∙ get_or_append_left heads (new_head ∷ []) _ node (omega arith));
      first_at = λ node e. ap (λ (it : Head). it.first) (get_or-set_at heads' at node head' _ e (omega arith));
      first_new = λ node e.
          (let apart : node ≢ at = omega arith in
          ap (λ (it : Head). it.first) (get_or-set_other heads' at node head' _ apart ∙ get_or_push heads new_head _ node (omega arith)));
      mark_old = λ node low. ap (λ (it : Node). it.mark) (old node low);
      mark_new = λ node e. ap (λ (it : Node). it.mark) (new node e);
      path_old = λ node low. ap (λ (it : List (List Mark)). get_or it node []) pushed ∙ get_or_append_left (paths_of nodes) _ [] node (omega arith);
      path_new = λ node e. ap (λ (it : List (List Mark)). get_or it node []) pushed ∙ get_or_push (paths_of nodes) _ [] node (omega arith);
    }

-- What `grow` leaves is a trie.
pub IsTrie-grown : (nodes nodes' : List Node) (heads heads' : List Head) (at fresh : ℕ) (mark : Mark) (entry : Option ℕ) → IsTrie nodes heads → at < length nodes
    → ((node : ℕ) → node < length nodes → paths_at nodes node ≢ paths_at nodes at ++ mark ∷ [])
    → nodes' ≡ nodes ++ new_node heads at mark ∷ [] → heads' ≡ heads ++ new_head ∷ [] → fresh ≡ length nodes
    → IsTrie nodes' (set heads' at (linked_head fresh entry))
IsTrie-grown nodes nodes' heads heads' at fresh mark entry t within unseen en eh ef =
    let same : length heads ≡ length nodes = t.same_length in
    let lengths : length (paths_of nodes) ≡ length nodes = t.paths_length in
    let node = new_node heads at mark in
    let pushed = paths_of-push nodes node (omega arith) in
    let one = length_push nodes node in
    let two = length_push heads new_head in
    let at_lists : IsTrie (nodes ++ node ∷ []) (set (heads ++ new_head ∷ []) at (linked_head (length nodes) entry)) =
    record {
      same_length = length-set (heads ++ new_head ∷ []) at _ ∙ omega arith;
      paths_length = ap length pushed ∙ length_push (paths_of nodes) _ ∙ omega arith;
      linked = IsLinked-grown (length nodes) at (length (nodes ++ node ∷ [])) mark _ _ _ _ _ _ _ _ _ _ t.linked
          (IsGrown-pushed nodes heads at mark entry t within) within one unseen;
    } in
    rw (en, eh, ef) at_lists

-- A list is empty or has a last item.
cases_last : {X : Type 0} (xs : List X) → (xs ≡ []) ⊎ ((front : List X) × ((last : X) × (xs ≡ front ++ last ∷ [])))
cases_last [] = inl refl
cases_last (x ∷ xs) =
    elim (cases_last xs) [
      | inl none ↦ inr ([], (x, ap (λ ys. x ∷ ys) none))
      | inr some ↦ inr (x ∷ some.0, (some.1.0, ap (λ ys. x ∷ ys) some.1.1))
    ]

not_empty : {X : Type 0} (xs ys : List X) (x : X) → [] ≡ (xs ++ x ∷ []) ++ ys → ⊥
not_empty xs ys x e =
    let lengths = ap length e in
    let a = length-append (xs ++ x ∷ []) ys in
    let b = length_push xs x in
    let c : 0 ≡ length ((xs ++ x ∷ []) ++ ys) = lengths in
    omega arith

-- No path goes on where no child of the node with this path has the mark.
pub none_beyond : (limit : ℕ) (nodes : List Node) (heads : List Head) (at : ℕ) (mark : Mark) → IsTrie nodes heads → at < length nodes
    → ((node : ℕ) → 0 < node → node < length nodes → (node_at nodes node).parent ≡ at → (node_at nodes node).mark ≢ mark)
    → (node : ℕ) → node < limit → node < length nodes → (rest : List Mark) → paths_at nodes node ≡ (paths_at nodes at ++ mark ∷ []) ++ rest → ⊥
none_beyond zero nodes heads at mark t within none node below low rest e = absurd (omega arith)
none_beyond (suc limit) nodes heads at mark t within none node below low rest e =
    elim (cases_lt 0 node) [
      | inr at_root ↦
          let is_root : node ≡ 0 = omega arith in
          not_empty (paths_at nodes at) rest mark (sym t.linked.root ∙ ap (paths_at nodes) (sym is_root) ∙ e)
      | inl pos ↦
          let parent = (node_at nodes node).parent in
          let before : parent < node = t.linked.parents node pos low in
          let step = t.linked.steps node pos low in
          (elim (cases_last rest) [
            | inl empty ↦
                let whole : paths_at nodes parent ++ (node_at nodes node).mark ∷ [] ≡ paths_at nodes at ++ mark ∷ [] =
                sym step ∙ e ∙ ap (λ ys. (paths_at nodes at ++ mark ∷ []) ++ ys) empty ∙ append-nil (paths_at nodes at ++ mark ∷ []) in
                let parts = same_from_push _ _ _ _ whole in
                none node pos low (t.linked.distinct parent at (omega arith) within parts.0) parts.1
            | inr some ↦
                let whole : paths_at nodes parent ++ (node_at nodes node).mark ∷ [] ≡ ((paths_at nodes at ++ mark ∷ []) ++ some.0) ++ some.1.0 ∷ [] =
                sym step ∙ e ∙ ap (λ ys. (paths_at nodes at ++ mark ∷ []) ++ ys) some.1.1 ∙ sym (append_assoc (paths_at nodes at ++ mark ∷ []) some.0 (some.1.0 ∷ [])) in
                none_beyond limit nodes heads at mark t within none parent (omega arith) (omega arith) some.0 (same_from_push _ _ _ _ whole).0
          ])
    ]

abbrev pub tree_of : List Node → List Head → Tree
tree_of nodes heads = record { paths = paths_of nodes; entries = map entry_of heads }

pub within_nodes : (nodes : List Node) (heads : List Head) (tree : Tree) (at : ℕ) → tree_of nodes heads ≡ tree → IsTrie nodes heads → at < size tree → at < length nodes
within_nodes nodes heads tree at e t within =
    let sizes : length (paths_of nodes) ≡ size tree = ap size e in
    let lengths : length (paths_of nodes) ≡ length nodes = t.paths_length in
    omega arith

child_of_lists : (nodes : List Node) (heads : List Head) (at : ℕ) (mark : Mark) (r : Option ℕ) → IsTrie nodes heads → at < length nodes
    → MatchOption r
    ((node : ℕ) → 0 < node → node < length nodes → (node_at nodes node).parent ≡ at → (node_at nodes node).mark ≢ mark)
    (λ node. (0 < node) × (node < length nodes) × ((node_at nodes node).parent ≡ at) × ((node_at nodes node).mark ≡ mark))
    → MatchOption r
    ((node : ℕ) (rest : List Mark) → node < size (tree_of nodes heads) → path_at (tree_of nodes heads) node ≢ (path_at (tree_of nodes heads) at ++ mark ∷ []) ++ rest)
    (λ child. IsOnly (tree_of nodes heads) (path_at (tree_of nodes heads) at ++ mark ∷ []) child)
child_of_lists nodes heads at mark None t within none =
    λ node rest low e. none_beyond (node + 1) nodes heads at mark t within none node (omega arith) (let lengths : length (paths_of nodes) ≡ length nodes = t.paths_length in omega arith) rest e
child_of_lists nodes heads at mark (Some child) t within found =
    let lengths : length (paths_of nodes) ≡ length nodes = t.paths_length in
    let step = t.linked.steps child found.0 found.1 in
    let parent = found.2 in
    let marked = found.3 in
    let path_is : paths_at nodes child ≡ paths_at nodes at ++ mark ∷ [] = cc in
    record {
      within = omega arith;
      path_is = path_is;
      only = λ other low e. t.linked.distinct other child (omega arith) found.1 (e ∙ sym path_is);
    }

-- What the chain of children says of the tree.
pub child_answer : (nodes : List Node) (heads : List Head) (at : ℕ) (mark : Mark) (r : Option ℕ) (tree : Tree) → tree_of nodes heads ≡ tree → IsTrie nodes heads → at < size tree
    → MatchOption r
    ((node : ℕ) → 0 < node → node < length nodes → (node_at nodes node).parent ≡ at → (node_at nodes node).mark ≢ mark)
    (λ node. (0 < node) × (node < length nodes) × ((node_at nodes node).parent ≡ at) × ((node_at nodes node).mark ≡ mark))
    → MatchOption r
    ((node : ℕ) (rest : List Mark) → node < size tree → path_at tree node ≢ (path_at tree at ++ mark ∷ []) ++ rest)
    (λ child. IsOnly tree (path_at tree at ++ mark ∷ []) child)
child_answer nodes heads at mark r tree e t within found =
    let low = within_nodes nodes heads tree at e t within in
    let P : Tree → Type 0 = λ it.
    MatchOption r
    ((node : ℕ) (rest : List Mark) → node < size it → path_at it node ≢ (path_at it at ++ mark ∷ []) ++ rest)
    (λ child. IsOnly it (path_at it at ++ mark ∷ []) child)
    in
    subst P e (child_of_lists nodes heads at mark r t low found)

-- One more node with a path of its own, at which nothing is noted.
abbrev pub with_path : Tree → List Mark → Tree
with_path tree path = record { paths = tree.paths ++ path ∷ []; entries = tree.entries ++ None ∷ [] }

pub Grows-with_path : (tree : Tree) (path : List Mark) → length tree.entries ≡ size tree → ((node : ℕ) → node < size tree → path_at tree node ≢ path) → Grows tree (with_path tree path)
Grows-with_path tree path same unseen =
    let one = length_push tree.paths path in
    record {
      longer = omega arith;
      paths_kept = λ node low. get_or_append_left tree.paths (path ∷ []) [] node low;
      entries_kept = λ node low. get_or_append_left tree.entries (None ∷ []) None node (omega arith);
      apart = λ node other high low other_low e.
          (let last : size tree ≡ node = omega arith in
          unseen other other_low
          (sym (get_or_append_left tree.paths (path ∷ []) [] other other_low) ∙ sym e ∙ get_or_push tree.paths path [] node last));
      none_noted = λ node high.
          elim (cases_eq (size tree) node) [
            | inl last ↦ get_or_push tree.entries None None node (same ∙ last)
            | inr past ↦ get_or_past (tree.entries ++ None ∷ []) node None (omega (arith, length_push tree.entries None))
          ];
      sizes = length_push tree.entries None ∙ ap (λ n. n + 1) same ∙ sym one;
    }

pub IsOnly-with_path : (tree : Tree) (path : List Mark) → ((node : ℕ) → node < size tree → path_at tree node ≢ path) → IsOnly (with_path tree path) path (size tree)
IsOnly-with_path tree path unseen =
    let one = length_push tree.paths path in
    record {
      within = omega arith;
      path_is = get_or_push tree.paths path [] (size tree) refl;
      only = λ other low e.
          elim (cases_lt other (size tree)) [
            | inl before ↦ absurd (unseen other before (sym (get_or_append_left tree.paths (path ∷ []) [] other before) ∙ e))
            | inr last ↦ omega arith
          ];
    }

-- The tree that `grow` leaves.
pub tree_grown : (nodes nodes' : List Node) (heads heads' : List Head) (at fresh : ℕ) (mark : Mark) (entry : Option ℕ) → IsTrie nodes heads → at < length nodes
    → nodes' ≡ nodes ++ new_node heads at mark ∷ [] → heads' ≡ heads ++ new_head ∷ [] → entry ≡ (head_at heads' at).entry
    → tree_of nodes' (set heads' at (linked_head fresh entry)) ≡ with_path (tree_of nodes heads) (paths_at nodes at ++ mark ∷ [])
tree_grown nodes nodes' heads heads' at fresh mark entry t within en eh ee =
    let paths : paths_of nodes' ≡ paths_of nodes ++ (paths_at nodes at ++ mark ∷ []) ∷ [] = ap paths_of en ∙ paths_of-push nodes (new_node heads at mark) t.linked.some in
    let entries : map entry_of (set heads' at (linked_head fresh entry)) ≡ map entry_of heads ++ None ∷ [] =
    map-set_same entry_of heads' at (linked_head fresh entry) _ ee ∙ ap (map entry_of) eh ∙ map_push entry_of heads new_head in
    cc

pub Grows-trans : (a b c : Tree) → Grows a b → Grows b c → Grows a c
Grows-trans a b c g h =
    let first = g.longer in
    let second = h.longer in
    record {
      longer = omega arith;
      paths_kept = λ node low. h.paths_kept node (omega arith) ∙ g.paths_kept node low;
      entries_kept = λ node low. h.entries_kept node (omega arith) ∙ g.entries_kept node low;
      apart = λ node other high low other_low e.
          elim (cases_lt node (size b)) [
            | inl before ↦
                g.apart node other high before other_low (sym (h.paths_kept node before) ∙ e ∙ h.paths_kept other (omega arith))
            | inr beyond ↦ h.apart node other beyond low (omega arith) e
          ];
      none_noted = λ node high.
          elim (cases_lt node (size b)) [
            | inl before ↦ h.entries_kept node before ∙ g.none_noted node high
            | inr beyond ↦ h.none_noted node beyond
          ];
      sizes = h.sizes;
    }

pub Grows-refl : (a : Tree) → length a.entries ≡ size a → Grows a a
Grows-refl a same =
    record {
      longer = omega arith;
      paths_kept = λ node low. refl;
      entries_kept = λ node low. refl;
      apart = λ node other high low. absurd (omega arith);
      none_noted = λ node high. get_or_past a.entries node None (omega arith);
      sizes = same;
    }

pub unseen_nodes : (nodes : List Node) (heads : List Head) (tree : Tree) (at : ℕ) (mark : Mark) → tree_of nodes heads ≡ tree → IsTrie nodes heads
    → ((node : ℕ) → node < size tree → path_at tree node ≢ path_at tree at ++ mark ∷ [])
    → (node : ℕ) → node < length nodes → paths_at nodes node ≢ paths_at nodes at ++ mark ∷ []
unseen_nodes nodes heads tree at mark e t unseen node low =
    let P : Tree → Type 0 = λ it. (node : ℕ) → node < size it → path_at it node ≢ path_at it at ++ mark ∷ [] in
    let lengths : length (paths_of nodes) ≡ length nodes = t.paths_length in
    let here : P (tree_of nodes heads) = subst P (sym e) unseen in
    here node (omega arith)

pub same_sizes : (nodes : List Node) (heads : List Head) → IsTrie nodes heads → length (map entry_of heads) ≡ length (paths_of nodes)
same_sizes nodes heads t = length-map heads entry_of ∙ t.same_length ∙ sym t.paths_length

-- Both facts of `grow` about the tree that it leaves.
pub grown_tree : (nodes nodes' : List Node) (heads heads' : List Head) (at fresh : ℕ) (mark : Mark) (entry : Option ℕ) (tree : Tree) → tree_of nodes heads ≡ tree → IsTrie nodes heads → at < size tree
    → ((node : ℕ) → node < size tree → path_at tree node ≢ path_at tree at ++ mark ∷ [])
    → nodes' ≡ nodes ++ new_node heads at mark ∷ [] → heads' ≡ heads ++ new_head ∷ [] → fresh ≡ length nodes → entry ≡ (head_at heads' at).entry
    → Grows tree (tree_of nodes' (set heads' at (linked_head fresh entry)))
    × IsOnly (tree_of nodes' (set heads' at (linked_head fresh entry))) (path_at tree at ++ mark ∷ []) fresh
grown_tree nodes nodes' heads heads' at fresh mark entry tree e t within unseen en eh ef ee =
    let low = within_nodes nodes heads tree at e t within in
    let grown = tree_grown nodes nodes' heads heads' at fresh mark entry t low en eh ee in
    let again : tree_of nodes' (set heads' at (linked_head fresh entry)) ≡ with_path tree (path_at tree at ++ mark ∷ []) =
    grown ∙ ap (λ (it : Tree). with_path it (path_at it at ++ mark ∷ [])) e in
    let sizes : length tree.entries ≡ size tree = subst (λ (it : Tree). length it.entries ≡ size it) e (same_sizes nodes heads t) in
    let fresh_is : size tree ≡ fresh = sym (ap size e) ∙ t.paths_length ∙ sym ef in
    let P : Tree → Type 0 = λ it. Grows tree it × IsOnly it (path_at tree at ++ mark ∷ []) fresh in
    let only : IsOnly (with_path tree (path_at tree at ++ mark ∷ [])) (path_at tree at ++ mark ∷ []) fresh =
    subst (λ (n : ℕ). IsOnly (with_path tree (path_at tree at ++ mark ∷ [])) (path_at tree at ++ mark ∷ []) n) fresh_is (IsOnly-with_path tree (path_at tree at ++ mark ∷ []) unseen) in
    subst P (sym again) (Grows-with_path tree (path_at tree at ++ mark ∷ []) sizes unseen, only)

-- A note at a node changes no path, and no chain.
pub IsTrie-noted : (nodes : List Node) (heads : List Head) (at : ℕ) (head : Head) → IsTrie nodes heads → head.first ≡ (head_at heads at).first → IsTrie nodes (set heads at head)
IsTrie-noted nodes heads at head t e =
    let firsts : (node : ℕ) → (head_at (set heads at head) node).first ≡ (head_at heads node).first = first_kept heads at head e in
    let l = t.linked in
    record {
      same_length = length-set heads at head ∙ t.same_length;
      paths_length = t.paths_length;
      linked = record {
        root = l.root;
        some = l.some;
        parents = l.parents;
        steps = l.steps;
        next_before = l.next_before;
        next_sibling = l.next_sibling;
        next_latest = l.next_latest;
        first_within = λ node low. let f = firsts node in let p = l.first_within node low in omega arith;
        first_child = λ node low some.
            (let f = firsts node in
            let old_some : 0 < (head_at heads node).first = omega arith in
            ap (λ (n : ℕ). (node_at nodes n).parent) f ∙ l.first_child node low old_some);
        first_latest = λ node other low pos other_low child. let f = firsts node in let p = l.first_latest node other low pos other_low child in omega arith;
        distinct = l.distinct;
      };
    }
  where
    first_kept : (heads : List Head) (at : ℕ) (head : Head) → head.first ≡ (head_at heads at).first → (node : ℕ) → (head_at (set heads at head) node).first ≡ (head_at heads node).first
    first_kept heads at head e node =
        elim (cases_lt at (length heads)) [
          | inl within ↦
              (elim (cases_eq node at) [
                | inl there ↦ ap (λ (it : Head). it.first) (get_or-set_at heads at node head _ there within) ∙ e ∙ ap (λ (n : ℕ). (head_at heads n).first) (sym there)
                | inr other ↦ ap (λ (it : Head). it.first) (get_or-set_other heads at node head _ other)
              ])
          | inr past ↦ ap (λ (it : List Head). (head_at it node).first) (set_past heads at head past)
        ]

pub root_only : (nodes : List Node) (heads : List Head) → IsTrie nodes heads → IsOnly (tree_of nodes heads) [] 0
root_only nodes heads t =
    let lengths : length (paths_of nodes) ≡ length nodes = t.paths_length in
    let some = t.linked.some in
    record {
      within = omega arith;
      path_is = t.linked.root;
      only = λ other low e. t.linked.distinct other 0 (omega arith) some (e ∙ sym t.linked.root);
    }
