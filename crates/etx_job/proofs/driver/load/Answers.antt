use Rattle.std.proofs.Common.{refl, ⊎_elim, rules}
use Rattle.etx_outside.specs.Outside.{outside_of}
use Rattle.etx_outside.proofs.Outsides.{asked_for, kept, front_all, front_none}
use Rattle.etx_job.proofs.driver.load.Goals as goal

pub returns-in-Ok-clause-answer : goal.returns-in-Ok-clause-answer
unfolding outside_of
returns-in-Ok-clause-answer g c = c.in-Ok.ensures.answer

pub returns-in-Ok-clause-ok : goal.returns-in-Ok-clause-ok
returns-in-Ok-clause-ok g c = λ tells. asked_for _ _ _ c.args.name.now c.args.tree.now _ _ (c.in-Ok.ensures.files tells) (c.in-Ok.ensures.asked tells)

pub returns-in-Ok-clause-front : goal.returns-in-Ok-clause-front
returns-in-Ok-clause-front g c = λ tells. front_all (returns-in-Ok-clause-ok g c tells)

pub returns-in-Err-Failed-clause-failed : goal.returns-in-Err-Failed-clause-failed
returns-in-Err-Failed-clause-failed g c = λ _ tells. asked_for _ _ _ c.args.name.now c.args.tree.now _ _ (c.in-Err-Failed.ensures.files tells) (c.in-Err-Failed.ensures.asked_failed (search rules) tells)

pub returns-in-Err-Failed-clause-front : goal.returns-in-Err-Failed-clause-front
returns-in-Err-Failed-clause-front g c = λ tells. front_all (returns-in-Err-Failed-clause-failed g c refl tells)

pub returns-in-Err-OutOfMemory-clause-front : goal.returns-in-Err-OutOfMemory-clause-front
returns-in-Err-OutOfMemory-clause-front g c = λ tells.
    let same = c.in-Err-OutOfMemory.ensures.files tells in
    ⊎_elim
    (λ not_asked. front_none _ (kept _ _ _ c.args.tree.now _ _ same not_asked))
    (λ was_asked. front_all (asked_for _ _ _ c.args.name.now c.args.tree.now _ _ same was_asked))
    (c.in-Err-OutOfMemory.ensures.asked_err tells)
