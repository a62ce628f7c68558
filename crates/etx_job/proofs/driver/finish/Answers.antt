use Rattle.std.proofs.Common.{◌∙◌, ap}
use Rattle.etx_outside.proofs.Outsides.{front_all}
use Rattle.etx_settle.specs.Deeds.{JournalState}
use Rattle.etx_job.proofs.Turns.{cut_over}
use Rattle.etx_job.proofs.Ends.{settled}
use Rattle.etx_job.proofs.driver.finish.Goals as goal

pub returns-in-Err-WriteFault-clause-cut : goal.returns-in-Err-WriteFault-clause-cut
returns-in-Err-WriteFault-clause-cut g c = λ a b start first over. cut_over over (c.in-Err-WriteFault.ensures.front a b)

pub returns-in-Err-OutOfMemory-clause-cut : goal.returns-in-Err-OutOfMemory-clause-cut
returns-in-Err-OutOfMemory-clause-cut g c = λ a b start first over. cut_over over (c.in-Err-OutOfMemory.ensures.front a b)

pub returns-in-Ok-clause-whole : goal.returns-in-Ok-clause-whole
returns-in-Ok-clause-whole g c = λ a b start first over. settled over (c.in-Ok.ensures.ok a b) (c.has_erred.ensures ∙ ap (λ (j : JournalState). j.pen.has_erred) c.in-Ok.ensures.journal)

pub returns-in-Ok-clause-cut : goal.returns-in-Ok-clause-cut
returns-in-Ok-clause-cut g c = λ a b start first over. cut_over over (front_all (c.in-Ok.ensures.ok a b))
