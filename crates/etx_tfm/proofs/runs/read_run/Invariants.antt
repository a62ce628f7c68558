use Rattle.std.proofs.Common.{[], length}
use Rattle.etx_tfm.specs.Machine.{no_edges, between}
use Rattle.etx_tfm.specs.Cleans.{ReadsOn}
use Rattle.etx_tfm.proofs.Ending.{left_to_do}
use Rattle.etx_tfm.proofs.runs.read_run.Given as goal

abbrev pub invariant-steps : goal.invariant-steps
invariant-steps l = ReadsOn l.font (length l.chars) 0 [] no_edges (between l.chars l.fn.left l.fn.right) [] l.rest.touched l.nodes l.edges l.rest.items l.places

abbrev pub decreases-steps : goal.decreases-steps
decreases-steps l = left_to_do l.font l.rest.items
