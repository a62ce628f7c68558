use Rattle.std.proofs.Common.{◌≡◌, drop}
use Rattle.etx_hyphen.specs.Words.{may_follow}
use Rattle.etx_hyphen.proofs.letters.may_follow.Given as goal

abbrev pub invariant-loop-node : goal.invariant-loop-node
invariant-loop-node l = may_follow (drop l.node-index l.nodes) ≡ may_follow l.nodes
