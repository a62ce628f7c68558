-- Deeds that wait, in two parts.
use Rattle.std.proofs.Common.{◌≡◌, List, ◌++◌, ◌∙◌, ap, append_assoc}
use Rattle.etx_matter.specs.declared.deed.Deed.{Deed}
use Rattle.etx_settle.specs.Deeds.{JournalState}
use Rattle.etx_job.specs.Going.{more_waiting}

pub more_waiting-append : (j : JournalState) (xs ys : List Deed) → more_waiting (more_waiting j xs) ys ≡ more_waiting j (xs ++ ys)
more_waiting-append j xs ys = ap (λ (ds : List Deed). record j { waiting = ds }) (append_assoc j.waiting xs ys)

-- one part waits, and then another
pub more_waiting_on : (j : JournalState) {k l : JournalState} (xs ys : List Deed) → k ≡ more_waiting j xs → l ≡ more_waiting k ys → l ≡ more_waiting j (xs ++ ys)
more_waiting_on j {k} {l} xs ys first then = then ∙ ap (λ (i : JournalState). more_waiting i ys) first ∙ more_waiting-append j xs ys
