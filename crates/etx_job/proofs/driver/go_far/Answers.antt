use Rattle.etx_mouth.specs.Mouths.{state_of}
use Rattle.etx_job.proofs.Turns.{over_of}
use Rattle.etx_job.proofs.driver.go_far.Goals as goal

pub returns-in-Err-clause-read_at : goal.returns-in-Err-clause-read_at
returns-in-Err-clause-read_at g c = λ fails a b start first files budget going. c.in-Err.ensures.read_at fails a b start first budget (c.free.invariant.going a b start first files budget going)

pub returns-in-Ok-Some-clause-going : goal.returns-in-Ok-Some-clause-going
returns-in-Ok-Some-clause-going g c = λ a b start first files budget going.
    over_of start first (state_of c.go_on.new.mouth) c.go_on.new.errors _ _ c.in-Ok-Some.field-0-is (c.in-Ok-Some.ensures.going a b start first files budget (c.free.invariant.going a b start first files budget going))
