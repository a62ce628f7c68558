use Rattle.etx_hyphen.proofs.Plain.{stays_unbroken}
use Rattle.etx_hyphen.proofs.law.hyphens_change_nothing.Goals as goal

pub returns : goal.returns
returns c = stays_unbroken c.args.params.now
