use Rattle.etx_linebreak.proofs.Finding.{later_found}
use Rattle.etx_linebreak.proofs.passes.later_breaks.Goals as goal

pub returns-clause-found : goal.returns-clause-found
returns-clause-found c = later_found c.args.sealed.now c.in_ok-breaks.breaks.items c.in_ok-breaks.ensures
