use Rattle.std.proofs.Common.{refl, rules}
use Rattle.etx_job.proofs.Meanings.{for_start, whole_for, front_for}
use Rattle.etx_job.proofs.typeset.typeset_job.Goals as goal

pub returns-in-Ok-clause-whole : goal.returns-in-Ok-clause-whole
returns-in-Ok-clause-whole g c = λ ends a b. whole_for _ _ _ c.args.job _ _ _ _ c.in-Ok.ending.end c.in-Ok.ending.has_erred _ (c.in-Ok.ensures.whole a b _ (for_start _ _ _ c.args.job _ _) refl) c.find_status.ensures.status

pub returns-in-Ok-clause-front : goal.returns-in-Ok-clause-front
returns-in-Ok-clause-front g c = λ a b. front_for _ _ _ c.args.job _ _ _ _ (c.in-Ok.ensures.cut a b _ (for_start _ _ _ c.args.job _ _) refl)

pub returns-in-Err-ReadFault-clause-front : goal.returns-in-Err-ReadFault-clause-front
returns-in-Err-ReadFault-clause-front g c = λ a b. front_for _ _ _ c.args.job _ _ _ _ (c.in-Err-ReadFault.ensures.cut a b _ (for_start _ _ _ c.args.job _ _) refl)

pub returns-in-Err-ReadFault-clause-read_at : goal.returns-in-Err-ReadFault-clause-read_at
returns-in-Err-ReadFault-clause-read_at g c = λ _ a b. c.in-Err-ReadFault.ensures.read_at (search rules) a b _ (for_start _ _ _ c.args.job _ _) refl

pub returns-in-Err-WriteFault-clause-front : goal.returns-in-Err-WriteFault-clause-front
returns-in-Err-WriteFault-clause-front g c = λ a b. front_for _ _ _ c.args.job _ _ _ _ (c.in-Err-WriteFault.ensures.cut a b _ (for_start _ _ _ c.args.job _ _) refl)

pub returns-in-Err-OutOfMemory-clause-front : goal.returns-in-Err-OutOfMemory-clause-front
returns-in-Err-OutOfMemory-clause-front g c = λ a b. front_for _ _ _ c.args.job _ _ _ _ (c.in-Err-OutOfMemory.ensures.cut a b _ (for_start _ _ _ c.args.job _ _) refl)
