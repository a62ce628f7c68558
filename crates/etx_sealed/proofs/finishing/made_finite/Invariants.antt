use Rattle.std.proofs.Common.{◌≡◌, map}
use Rattle.etx_matter.specs.Nests.{AreNested}
use Rattle.etx_sealed.specs.Paragraphs.{finite_node}
use Rattle.etx_sealed.proofs.finishing.made_finite.Given as goal

abbrev pub invariant-loop-node : goal.invariant-loop-node
invariant-loop-node l = (l.made ≡ map finite_node l.yielded) × (AreNested l.yielded → AreNested l.made)
