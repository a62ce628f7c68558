use Rattle.std.proofs.Common.{◌≡◌, ◌≤◌, length, take, reverse}
use Rattle.etx_input.specs.Levels.{line_in}
use Rattle.etx_input.proofs.levels.Levels.line.Given as goal

abbrev pub invariant-loop-at : goal.invariant-loop-at
invariant-loop-at l =
    (l.at ≤ length l.self.levels.items) × (line_in (reverse (take l.at l.self.levels.items)) l.self.left ≡ line_in (reverse l.self.levels.items) l.self.left)

abbrev pub decreases-loop-at : goal.decreases-loop-at
decreases-loop-at l = l.at
