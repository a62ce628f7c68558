use Rattle.std.proofs.Common.{◌≡◌, ◌++◌, map, drop}
use Rattle.etx_sealed.specs.Stops.{stop_at, stops}
use Rattle.etx_sealed.specs.Walks.{IsWalk}
use Rattle.etx_sealed.proofs.sealed.Sealed.stops.Given as goal

abbrev pub invariant-loop-place : goal.invariant-loop-place
invariant-loop-place l =
    (l.stops.items ++ map (stop_at l.self) (drop l.place-index l.place-items) ≡ stops l.self) × IsWalk l.self.list l.walk
