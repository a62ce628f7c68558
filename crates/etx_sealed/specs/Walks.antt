-- What a walk over the breaks of a paragraph carries along. Only contracts of private functions cite it.
use Rattle.std.specs.Prelude.{◌≡◌, ◌≤◌, ◌+◌, List, length, take, drop}
use Rattle.std.specs.List.{prefix_len}
use Rattle.etx_matter.specs.declared.node.Node.{Node}
use Rattle.etx_sealed.specs.declared.stops.Running.{Running}
use Rattle.etx_sealed.specs.declared.stops.Run.{Run}
use Rattle.etx_sealed.specs.declared.stops.Walk.{Walk}
use Rattle.etx_sealed.specs.Lines.{is_dropped}
use Rattle.etx_sealed.specs.Sums.{IsSmall, measure_all}

-- the sums over so many first items
pub record IsRunning (nodes : List Node) (r : Running) : Type 0 where
  pub within : r.at ≤ length nodes
  pub sums : r.sums ≡ measure_all (take r.at nodes)
  pub small : IsSmall r.at r.sums

-- items that are dropped, from one place to another behind which there is none
pub record IsRun (nodes : List Node) (r : Run) : Type 0 where
  pub ends : r.to ≡ r.from + prefix_len is_dropped (drop r.from nodes)

pub record IsWalk (nodes : List Node) (w : Walk) : Type 0 where
  pub ends : IsRunning nodes w.ends
  pub starts : IsRunning nodes w.starts
  pub run : IsRun nodes w.run
