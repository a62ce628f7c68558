use Rattle.std.proofs.Common.{◌≢◌, ◌<◌, ℕ, List, get_or}
use Rattle.etx_outside.proofs.memory.place.Given as goal

abbrev pub invariant-loop-i : goal.invariant-loop-i
invariant-loop-i l = (k : ℕ) (d : List ℕ × List ℕ) → k < l.i → (get_or l.files k d).0 ≢ l.name
