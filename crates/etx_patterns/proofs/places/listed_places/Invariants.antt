use Rattle.std.proofs.Common.{◌≡◌, ◌-◌, ◌≤◌, filter}
use Rattle.std.specs.Prelude.{◌==◌}
use Rattle.std.specs.List.{range_with_len, list_any}
use Rattle.etx_patterns.proofs.places.listed_places.Given as goal

abbrev pub invariant-loop-place : goal.invariant-loop-place
invariant-loop-place l = (l.place - 1 ≤ l.letters - 1) × (l.places.items ≡ filter (λ place. list_any (λ k. k == place) l.listed) (range_with_len 1 (l.place - 1)))
