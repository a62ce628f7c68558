use Rattle.etx_job.proofs.typeset.say_usage.Goals as goal

pub returns-in-Ok-clause-front : goal.returns-in-Ok-clause-front
returns-in-Ok-clause-front g c = λ tells. (100, c.in-Ok.ensures.ok tells)
