use Rattle.etx_matter.specs.Nests.{AreNested}
use Rattle.etx_data_tests.proofs.nodes.nested.Given as goal

abbrev pub invariant-loop : goal.invariant-loop
invariant-loop l = AreNested l.list
