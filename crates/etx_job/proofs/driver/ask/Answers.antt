use Rattle.etx_job.proofs.Turns.{cut_flush, cut_load, read_at, answered, going_is}
use Rattle.std.proofs.Common.{rules}
use Rattle.etx_job.proofs.driver.ask.Goals as goal

pub returns-in_err-flush-clause-cut : goal.returns-in_err-flush-clause-cut
returns-in_err-flush-clause-cut g c = λ a b start first errors files asks. cut_flush asks (c.in_err-flush.ensures.front a b)

pub returns-in_err-resume-clause-cut : goal.returns-in_err-resume-clause-cut
returns-in_err-resume-clause-cut g c = λ a b start first errors files asks. cut_load asks (c.in_ok-flush.ensures.ok a b) (c.in-Ok.ensures.front a)

pub returns-clause-going : goal.returns-clause-going
returns-clause-going g c = λ a b start first errors files asks.
    going_is
    (answered asks (c.in_ok-flush.ensures.ok a b) c.in-Ok.loaded files (c.in-Ok.ensures.ok a) (c.in-Ok.ensures.answer a))
    c.in_ok-resume.ensures.now
    c.in_ok-flush.ensures.journal

pub returns-clause-cut : goal.returns-clause-cut
returns-clause-cut g c = λ a b start first errors files asks. cut_load asks (c.in_ok-flush.ensures.ok a b) (c.in-Ok.ensures.front a)

pub returns-in-Err-Failed-clause-cut : goal.returns-in-Err-Failed-clause-cut
returns-in-Err-Failed-clause-cut g c = λ a b start first errors files asks. cut_load asks (c.in_ok-flush.ensures.ok a b) (c.in-Err-Failed.ensures.front a)

pub returns-in-Err-OutOfMemory-clause-cut : goal.returns-in-Err-OutOfMemory-clause-cut
returns-in-Err-OutOfMemory-clause-cut g c = λ a b start first errors files asks. cut_load asks (c.in_ok-flush.ensures.ok a b) (c.in-Err-OutOfMemory.ensures.front a)

pub returns-in-Err-Failed-clause-read_at : goal.returns-in-Err-Failed-clause-read_at
returns-in-Err-Failed-clause-read_at g c = λ _ a b start first errors asks. read_at asks (c.in_ok-flush.ensures.ok a b) (c.in-Err-Failed.ensures.failed (search rules) a)
