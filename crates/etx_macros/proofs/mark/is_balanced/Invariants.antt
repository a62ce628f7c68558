use Rattle.std.proofs.Common.{◌≡◌, ◌≤◌, Some, drop}
use Rattle.etx_macros.specs.Marks.{behind_all}
use Rattle.etx_macros.proofs.mark.is_balanced.Given as goal

abbrev pub invariant-loop-token : goal.invariant-loop-token
invariant-loop-token l = (l.depth ≤ l.token-index) × (behind_all (Some l.depth) (drop l.token-index l.text) ≡ behind_all (Some 0) l.text)
