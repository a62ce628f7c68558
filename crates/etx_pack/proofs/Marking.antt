-- A list keeps the nestings of its lists when a node is put behind it.
use Rattle.std.proofs.Common.{◌≡◌, List, [], ◌∷◌, ◌++◌, sym, subst, arith}
use Rattle.etx_matter.specs.declared.node.Node.{Node}
use Rattle.etx_matter.specs.Nests.{list_depth, IsNested, AreNested}
use Rattle.etx_matter.proofs.Nestings.{nested-append}

nested_alone : (node : Node) → IsNested node → AreNested (node ∷ [])
unfolding IsNested AreNested list_depth
nested_alone node h = omega (arith, h)

pub nested_more : (nodes : List Node) (node : Node) (more : List Node) → AreNested nodes → IsNested node → more ≡ nodes ++ node ∷ [] → AreNested more
nested_more nodes node more h g e = subst AreNested (sym e) (nested-append nodes (node ∷ []) h (nested_alone node g))
