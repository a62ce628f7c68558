use Rattle.etx_matter.specs.Nests.{AreNested}
use Rattle.etx_texts.proofs.items.list.Given as goal

abbrev pub invariant-loop-item : goal.invariant-loop-item
invariant-loop-item l = AreNested l.nodes
