use Rattle.std.proofs.Common.{◌≡◌, ◌+◌, ◌-◌, ◌≤◌, get_or, filter}
use Rattle.etx_patterns.specs.Shapes.{is_odd}
use Rattle.std.specs.List.{range_with_len}
use Rattle.etx_patterns.proofs.places.odd_places.Given as goal

abbrev pub invariant-loop-place : goal.invariant-loop-place
invariant-loop-place l = (l.place - 1 ≤ l.letters - 1) × (l.places.items ≡ filter (λ place. is_odd (get_or l.scores (place + 1) 0)) (range_with_len 1 (l.place - 1)))
