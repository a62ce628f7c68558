-- The depths of lists put together.
use Rattle.std.proofs.Common.{◌≡◌, ap, ℕ, ◌+◌, max, List, [], ◌∷◌, ◌++◌, map, arith}
use Rattle.std.proofs.lemmas.List.{map-append}
use Rattle.etx_matter.specs.declared.node.Node.{Node}
use Rattle.etx_matter.specs.Nests.{Depth, all_beside, node_depth, list_depth, list_nesting, AreNested}

levels-append : (ds es : List Depth) → (all_beside (ds ++ es)).levels ≡ max (all_beside ds).levels (all_beside es).levels
levels-append [] es = omega arith
levels-append (d ∷ ds) es = omega (arith, levels-append ds es)

wrong-append : (ds es : List Depth) → (all_beside (ds ++ es)).wrong ≡ (all_beside ds).wrong + (all_beside es).wrong
wrong-append [] es = omega arith
wrong-append (d ∷ ds) es = omega (arith, wrong-append ds es)

pub list_nesting-append : (ms ns : List Node) → list_nesting (ms ++ ns) ≡ max (list_nesting ms) (list_nesting ns)
unfolding list_nesting list_depth
list_nesting-append ms ns =
    omega (arith, ap (λ ds. (all_beside ds).levels) (map-append node_depth ms ns), levels-append (map node_depth ms) (map node_depth ns))

pub wrong-lists-append : (ms ns : List Node) → (list_depth (ms ++ ns)).wrong ≡ (list_depth ms).wrong + (list_depth ns).wrong
unfolding list_depth
wrong-lists-append ms ns =
    omega (arith, ap (λ ds. (all_beside ds).wrong) (map-append node_depth ms ns), wrong-append (map node_depth ms) (map node_depth ns))

-- lists whose items carry right nestings are put together, and come apart again
pub nested-append : (ms ns : List Node) → AreNested ms → AreNested ns → AreNested (ms ++ ns)
unfolding AreNested
nested-append ms ns m n = omega (arith, wrong-lists-append ms ns, m, n)

pub nested-front : (ms ns : List Node) → AreNested (ms ++ ns) → AreNested ms
unfolding AreNested
nested-front ms ns h = omega (arith, wrong-lists-append ms ns, h)

pub nested-back : (ms ns : List Node) → AreNested (ms ++ ns) → AreNested ns
unfolding AreNested
nested-back ms ns h = omega (arith, wrong-lists-append ms ns, h)
