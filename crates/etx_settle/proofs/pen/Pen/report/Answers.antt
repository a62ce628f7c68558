use Rattle.std.proofs.Common.{refl}
use Rattle.etx_outside.proofs.Outsides.{front_none}
use Rattle.etx_settle.proofs.pen.Pen.report.Goals as goal

pub returns-in_err-text-clause-front : goal.returns-in_err-text-clause-front
returns-in_err-text-clause-front g c = λ _ _. front_none _ refl
