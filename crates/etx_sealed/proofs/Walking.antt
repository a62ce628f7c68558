-- Where a walk over the breaks begins.
use Rattle.std.proofs.Common.{List, refl, arith}
use Rattle.etx_matter.specs.declared.node.Node.{Node}
use Rattle.etx_sealed.specs.Sums.{none, measure_all}
use Rattle.etx_sealed.specs.Walks.{IsRunning}
use Rattle.etx_sealed.proofs.Summing.{none_is_small}

pub running_first : (nodes : List Node) → IsRunning nodes (record { at = 0; sums = none })
unfolding measure_all
running_first nodes = record { within = omega arith; sums = refl; small = none_is_small }
