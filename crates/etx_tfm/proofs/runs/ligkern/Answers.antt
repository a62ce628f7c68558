use Rattle.etx_tfm.proofs.runs.ligkern.Goals as goal

pub returns : goal.returns
returns c = rw c.in_ok-out.ensures at c.in_ok-push_ligkern.ensures.ok
