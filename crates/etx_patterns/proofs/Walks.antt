-- Walking along a path.
use Rattle.std.proofs.Common.{◌≡◌, ◌≢◌, ℕ, ◌+◌, ◌<◌, List, [], ◌∷◌, ◌++◌, sym, ◌∙◌, subst, length, get_or, take, drop}
use Rattle.std.proofs.lemmas.List.{take_more, take-append-drop}
use Rattle.etx_patterns.specs.declared.step.Mark.{Mark}
use Rattle.etx_patterns.specs.Tree.{Tree, size, path_at, IsOnly}

-- The child by the next mark has a path that is one mark longer, in the tree as it was or as it has grown.
pub along : (tree new : Tree) (whole : List Mark) (at child i : ℕ) (mark d : Mark) → IsOnly tree (take i whole) at → i < length whole → mark ≡ get_or whole i d
    → IsOnly new (path_at tree at ++ mark ∷ []) child → IsOnly new (take (i + 1) whole) child
along tree new whole at child i mark d here low m there =
    let step = take_more whole i d low in
    let same : path_at tree at ++ mark ∷ [] ≡ take (i + 1) whole = let p = here.path_is in cc in
    subst (λ (it : List Mark). IsOnly new it child) same there

-- Where no child has the next mark, no node has the whole path.
pub none_along : (tree : Tree) (whole : List Mark) (at i : ℕ) (mark d : Mark) → IsOnly tree (take i whole) at → i < length whole → mark ≡ get_or whole i d
    → ((node : ℕ) (rest : List Mark) → node < size tree → path_at tree node ≢ (path_at tree at ++ mark ∷ []) ++ rest)
    → (node : ℕ) → node < size tree → path_at tree node ≢ whole
none_along tree whole at i mark d here low m none node node_low e =
    let step = take_more whole i d low in
    let parts = take-append-drop (i + 1) whole in
    let p = here.path_is in
    let q : (path_at tree at ++ mark ∷ []) ++ drop (i + 1) whole ≡ whole = cc in
    none node (drop (i + 1) whole) node_low (e ∙ sym q)
