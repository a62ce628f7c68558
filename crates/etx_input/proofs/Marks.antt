-- Histories, one after another.
use Rattle.std.proofs.Common.{◌≡◌, refl, ◌∙◌}
use Rattle.etx_stack.specs.Undoing as history
use Rattle.etx_stack.specs.declared.stack.Mark as stack
use Rattle.etx_input.specs.declared.levels.Levels.{Levels}
use Rattle.etx_input.specs.declared.mark.Mark.{Mark}
use Rattle.etx_input.specs.Marks.{IsKept, Keeps}

module _ {T : Type 0} where
  since_then : (m : stack.Mark) (first old new : history.Stacked T) → history.IsSince m first old → history.Keeps old new → history.IsSince m first new
  since_then m first old new since keeps = let next = keeps m since.live in record { live = next.live; same = next.same ∙ since.same }

  pub keeps_then : (a b c : history.Stacked T) → history.Keeps a b → history.Keeps b c → history.Keeps a c
  keeps_then a b c ab bc m live = since_then m a b c (ab m live) bc

pub keeps_by : (old new : Levels) → history.Keeps old.levels new.levels → Keeps old new
unfolding IsKept
keeps_by old new keeps m first since = since_then m.levels first.levels old.levels new.levels since keeps

-- where the input is still what it was in first, one can go back from it to the mark
pub kept_live : (m : Mark) (first l : Levels) → IsKept m first l → IsKept m l l
unfolding IsKept
kept_live m first l since = record { live = since.live; same = refl }
