use Rattle.std.proofs.Common.{length}
use Rattle.etx_matter.specs.Nests.{AreNested}
use Rattle.etx_hyphen.specs.Hyphenations.{walk_start, HyphenatesOn}
use Rattle.etx_hyphen.proofs.hyphenating.hyphenated.Given as goal

abbrev pub invariant-loop-node : goal.invariant-loop-node
invariant-loop-node l = record {
  comes : HyphenatesOn l.params (walk_start l.params) l.list l.walk l.out l.rest;
  out : AreNested l.out;
  rest : AreNested l.rest;
}

abbrev pub decreases-loop-node : goal.decreases-loop-node
decreases-loop-node l = length l.rest
