use Rattle.std.proofs.Common.{◌≡◌, ℕ, ◌+◌, ◌<◌, length, drop, max, get_or}
use Rattle.etx_patterns.specs.Shapes.{shape, digit_from}
use Rattle.etx_patterns.proofs.score.raise.Given as goal

abbrev pub invariant-loop-step : goal.invariant-loop-step
invariant-loop-step l =
    (l.here + length (shape (drop l.step-index l.steps)) ≡ l.start + length (shape l.steps))
    × (length l.scores ≡ length l.initial.scores)
    × ((place : ℕ) → place < length l.initial.scores
    → max (get_or l.scores place 0) (digit_from (drop l.step-index l.steps) l.here place) ≡ max (get_or l.initial.scores place 0) (digit_from l.steps l.start place))
