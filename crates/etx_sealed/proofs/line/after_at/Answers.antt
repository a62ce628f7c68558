use Rattle.etx_sealed.proofs.Nesting.{nested_nothing}
use Rattle.etx_sealed.proofs.line.after_at.Goals as goal

pub returns-in-None-clause-nested : goal.returns-in-None-clause-nested
returns-in-None-clause-nested c = λ h. nested_nothing
