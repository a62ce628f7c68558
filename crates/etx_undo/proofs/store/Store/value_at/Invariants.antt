use Rattle.std.proofs.Common.{◌≡◌, drop, map}
use Rattle.etx_undo.specs.History.{at, first_saved, present}
use Rattle.etx_undo.proofs.store.Store.value_at.Given as goal

abbrev pub invariant-loop-saved : goal.invariant-loop-saved
invariant-loop-saved g l =
    first_saved l.slot (map (λ e. (e.slot, e.before)) (drop l.saved-index l.saved-items)) (present l.self l.slot) ≡ at l.self l.fn.mark.place l.slot
