use Rattle.etx_mouth.specs.Mouths.{state_of}
use Rattle.etx_job.proofs.Turns.{over_of}
use Rattle.etx_job.proofs.driver.go_to_end.Goals as goal

pub returns-in-Ok-Some-clause-going : goal.returns-in-Ok-Some-clause-going
returns-in-Ok-Some-clause-going g c = λ a b start first files budget going.
    over_of start first (state_of c.go_far.new.mouth) c.go_far.new.errors _ _ c.in-Ok-Some.field-0-is (c.in-Ok-Some.ensures.going a b start first files budget (c.counts.invariant.going a b start first files budget going))
