-- Parts of lists whose items carry right nestings.
use Rattle.std.proofs.Common.{◌≡◌, ℕ, ◌+◌, ◌<◌, List, [], ◌∷◌, ◌++◌, length, take, drop, get_or, refl, sym, subst, ap, ◌∙◌, arith}
use Rattle.std.proofs.lemmas.List.{take-append-drop, at_drop_more}
use Rattle.etx_matter.specs.declared.node.Node.{Node}
use Rattle.etx_matter.specs.Nests.{IsNested, AreNested, list_depth}
use Rattle.etx_matter.proofs.Nestings.{nested-append, nested-back}

nested_drop : (n : ℕ) (nodes : List Node) → AreNested nodes → AreNested (drop n nodes)
nested_drop n nodes h = nested-back (take n nodes) (drop n nodes) (subst AreNested (sym (take-append-drop n nodes)) h)

nested_first : (node : Node) (nodes : List Node) → AreNested (node ∷ nodes) → IsNested node
unfolding IsNested AreNested list_depth
nested_first node nodes h = omega (arith, h)

-- an item of such a list
pub nested_item : (nodes : List Node) (i : ℕ) (node : Node) → AreNested nodes → i < length nodes → node ≡ get_or nodes i node → IsNested node
nested_item nodes i node h within e =
    let here : drop i nodes ≡ node ∷ drop (i + 1) nodes =
    at_drop_more (λ (xs : List Node). xs) nodes i node within ∙ ap (λ (x : Node). x ∷ drop (i + 1) nodes) (sym e) in
    nested_first node (drop (i + 1) nodes) (subst AreNested here (nested_drop i nodes h))

pub nested_both : (nodes tail more : List Node) → AreNested nodes → AreNested tail → more ≡ nodes ++ tail → AreNested more
nested_both nodes tail more h g e = subst AreNested (sym e) (nested-append nodes tail h g)

pub nested_none : AreNested []
unfolding AreNested list_depth
nested_none = refl
