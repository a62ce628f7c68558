-- One more node keeps the links of a trie.
use Rattle.std.proofs.Common.{◌≡◌, ◌≢◌, ℕ, ◌+◌, ◌<◌, ◌≤◌, List, [], ◌∷◌, ◌++◌, ◌⊎◌, inl, inr, arith}
use Rattle.std.proofs.lemmas.Bool.{cases_lt, cases_eq}
use Rattle.etx_patterns.specs.declared.step.Mark.{Mark}
use Rattle.etx_patterns.specs.Links.{IsLinked}

-- The links after one more node, `count`, a child of `at` by `m`.
pub record IsGrown (count at : ℕ) (m : Mark) (parent next first parent' next' first' : ℕ → ℕ) (mark mark' : ℕ → Mark) (path path' : ℕ → List Mark) : Type 0 where
  pub parent_old : (node : ℕ) → node < count → parent' node ≡ parent node
  pub parent_new : (node : ℕ) → node ≡ count → parent' node ≡ at
  pub next_old : (node : ℕ) → node < count → next' node ≡ next node
  pub next_new : (node : ℕ) → node ≡ count → next' node ≡ first at
  pub first_other : (node : ℕ) → node < count → node ≢ at → first' node ≡ first node
  pub first_at : (node : ℕ) → node ≡ at → first' node ≡ count
  pub first_new : (node : ℕ) → node ≡ count → first' node ≡ 0
  pub mark_old : (node : ℕ) → node < count → mark' node ≡ mark node
  pub mark_new : (node : ℕ) → node ≡ count → mark' node ≡ m
  pub path_old : (node : ℕ) → node < count → path' node ≡ path node
  pub path_new : (node : ℕ) → node ≡ count → path' node ≡ path at ++ m ∷ []

module _ (count at more : ℕ) (m : Mark) (parent next first parent' next' first' : ℕ → ℕ) (mark mark' : ℕ → Mark) (path path' : ℕ → List Mark)
    (l : IsLinked count parent next first mark path)
    (g : IsGrown count at m parent next first parent' next' first' mark mark' path path')
    (within : at < count) (plus : more ≡ count + 1)
    (fresh : (node : ℕ) → node < count → path node ≢ path at ++ m ∷ []) where
  split : (node : ℕ) → node < more → (node < count) ⊎ (node ≡ count)
  split node h =
      elim (cases_lt node count) [
        | inl low ↦ inl low
        | inr high ↦ inr (omega arith)
      ]

  parents' : (node : ℕ) → 0 < node → node < more → parent' node < node
  parents' node pos h =
      elim (split node h) [
        | inl low ↦ let e = g.parent_old node low in let p = l.parents node pos low in omega arith
        | inr same ↦ let e = g.parent_new node same in omega arith
      ]

  steps' : (node : ℕ) → 0 < node → node < more → path' node ≡ path' (parent' node) ++ mark' node ∷ []
  steps' node pos h =
      elim (split node h) [
        | inl low ↦
            let e1 = g.parent_old node low in
            let before = l.parents node pos low in
            let lt : parent' node < count = omega arith in
            let e2 = g.path_old (parent' node) lt in
            let e3 = g.path_old node low in
            let e4 = l.steps node pos low in
            let e5 = g.mark_old node low in
            cc
        | inr same ↦
            let e1 = g.parent_new node same in
            let lt : parent' node < count = omega arith in
            let e2 = g.path_old (parent' node) lt in
            let e3 = g.path_new node same in
            let e5 = g.mark_new node same in
            cc
      ]

  next_before' : (node : ℕ) → 0 < node → node < more → next' node < node
  next_before' node pos h =
      elim (split node h) [
        | inl low ↦ let e = g.next_old node low in let p = l.next_before node pos low in omega arith
        | inr same ↦ let e = g.next_new node same in let p = l.first_within at within in omega arith
      ]

  next_sibling' : (node : ℕ) → 0 < node → node < more → 0 < next' node → parent' (next' node) ≡ parent' node
  next_sibling' node pos h some =
      elim (split node h) [
        | inl low ↦
            let e1 = g.next_old node low in
            let before = l.next_before node pos low in
            let lt : next' node < count = omega arith in
            let some_old : 0 < next node = omega arith in
            let e2 = l.next_sibling node pos low some_old in
            let e3 = g.parent_old (next' node) lt in
            let e4 = g.parent_old node low in
            cc
        | inr same ↦
            let e1 = g.next_new node same in
            let before = l.first_within at within in
            let lt : next' node < count = omega arith in
            let some_old : 0 < first at = omega arith in
            let e2 = l.first_child at within some_old in
            let e3 = g.parent_old (next' node) lt in
            let e4 = g.parent_new node same in
            cc
      ]

  next_latest' : (node other : ℕ) → 0 < other → other < node → node < more → parent' other ≡ parent' node → other ≤ next' node
  next_latest' node other pos before h siblings =
      let other_low : other < count = omega arith in
      let e1 = g.parent_old other other_low in
      elim (split node h) [
        | inl low ↦
            let e2 = g.parent_old node low in
            let e3 : parent other ≡ parent node = cc in
            let e4 = l.next_latest node other pos before low e3 in
            let e5 = g.next_old node low in
            omega arith
        | inr same ↦
            let e2 = g.parent_new node same in
            let e3 : parent other ≡ at = cc in
            let e4 = l.first_latest at other within pos other_low e3 in
            let e5 = g.next_new node same in
            omega arith
      ]

  first_within' : (node : ℕ) → node < more → first' node < more
  first_within' node h =
      elim (split node h) [
        | inl low ↦
            (elim (cases_eq node at) [
              | inl there ↦ let e = g.first_at node there in omega arith
              | inr other ↦ let e = g.first_other node low other in let p = l.first_within node low in omega arith
            ])
        | inr same ↦ let e = g.first_new node same in omega arith
      ]

  first_child' : (node : ℕ) → node < more → 0 < first' node → parent' (first' node) ≡ node
  first_child' node h some =
      elim (split node h) [
        | inl low ↦
            (elim (cases_eq node at) [
              | inl there ↦ let e = g.first_at node there in let p = g.parent_new (first' node) e in cc
              | inr other ↦
                  let e1 = g.first_other node low other in
                  let before = l.first_within node low in
                  let lt : first' node < count = omega arith in
                  let some_old : 0 < first node = omega arith in
                  let e2 = l.first_child node low some_old in
                  let e3 = g.parent_old (first' node) lt in
                  cc
            ])
        | inr same ↦ let e = g.first_new node same in absurd (omega arith)
      ]

  first_latest' : (node other : ℕ) → node < more → 0 < other → other < more → parent' other ≡ node → other ≤ first' node
  first_latest' node other h pos other_h child =
      elim (split other other_h) [
        | inl low ↦
            let e1 = g.parent_old other low in
            let before = l.parents other pos low in
            let node_low : node < count = omega arith in
            (elim (cases_eq node at) [
              | inl there ↦ let e = g.first_at node there in omega arith
              | inr apart ↦
                  let e2 = g.first_other node node_low apart in
                  let e3 : parent other ≡ node = cc in
                  let e4 = l.first_latest node other node_low pos low e3 in
                  omega arith
            ])
        | inr same ↦
            let e1 = g.parent_new other same in
            let there : node ≡ at = cc in
            let e2 = g.first_at node there in
            omega arith
      ]

  distinct' : (node other : ℕ) → node < more → other < more → path' node ≡ path' other → node ≡ other
  distinct' node other h other_h e =
      elim (split node h) [
        | inl low ↦
            let e1 = g.path_old node low in
            (elim (split other other_h) [
              | inl other_low ↦
                  let e2 = g.path_old other other_low in
                  let e3 : path node ≡ path other = cc in
                  l.distinct node other low other_low e3
              | inr other_same ↦
                  let e2 = g.path_new other other_same in
                  let e3 : path node ≡ path at ++ m ∷ [] = cc in
                  absurd (fresh node low e3)
            ])
        | inr same ↦
            let e1 = g.path_new node same in
            (elim (split other other_h) [
              | inl other_low ↦
                  let e2 = g.path_old other other_low in
                  let e3 : path other ≡ path at ++ m ∷ [] = cc in
                  absurd (fresh other other_low e3)
              | inr other_same ↦ omega arith
            ])
      ]

  pub IsLinked-grown : IsLinked more parent' next' first' mark' path'
  IsLinked-grown = record {
    root = let e = g.path_old 0 l.some in let r = l.root in cc;
    some = omega arith;
    parents = parents';
    steps = steps';
    next_before = next_before';
    next_sibling = next_sibling';
    next_latest = next_latest';
    first_within = first_within';
    first_child = first_child';
    first_latest = first_latest';
    distinct = distinct';
  }
