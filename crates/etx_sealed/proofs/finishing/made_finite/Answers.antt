use Rattle.std.proofs.Common.{◌∙◌, List, [], ◌∷◌, ◌++◌, map, ap, sym}
use Rattle.std.proofs.lemmas.List.{map_push}
use Rattle.etx_matter.specs.declared.node.Node.{Node}
use Rattle.etx_matter.proofs.Nestings.{nested-front}
use Rattle.etx_sealed.specs.Paragraphs.{finite_node}
use Rattle.etx_sealed.proofs.Ending.{nested_more, nested_last}
use Rattle.etx_sealed.proofs.finishing.made_finite.Goals as goal

pub loop-node-preserved : goal.loop-node-preserved
loop-node-preserved c = (
  c.in_ok-push.ensures.ok
      ∙ ap (λ (xs : List Node). xs ++ c.finite_node.result ∷ []) c.loop-node.invariant.0
      ∙ ap (λ (n : Node). map finite_node c.loop-node.yielded ++ n ∷ []) c.finite_node.ensures.value
      ∙ sym (map_push finite_node c.loop-node.yielded c.in-Some.node),
  λ h. nested_more c.loop-node.made c.finite_node.result _
      (c.loop-node.invariant.1 (nested-front c.loop-node.yielded (c.in-Some.node ∷ []) h))
      (c.finite_node.ensures.nested (nested_last c.loop-node.yielded c.in-Some.node h))
      c.in_ok-push.ensures.ok,
)
