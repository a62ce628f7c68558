use Rattle.etx_tfm.specs.Machine.{no_edges, edged}
use Rattle.etx_tfm.proofs.Loops.{Goes}
use Rattle.etx_tfm.proofs.Ending.{left_to_do}
use Rattle.etx_tfm.proofs.runs.push_ligkern.Given as goal

abbrev pub invariant-steps : goal.invariant-steps
invariant-steps l = Goes l.font l.initial.out no_edges (edged l.fn.chars l.fn.left l.fn.right) l.out l.edges l.rest.items

abbrev pub decreases-steps : goal.decreases-steps
decreases-steps l = left_to_do l.font l.rest.items
