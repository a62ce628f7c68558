use Rattle.std.proofs.Common.{◌≡◌, drop, map}
use Rattle.etx_ship.specs.Hands.{drawn}
use Rattle.etx_ship.specs.Places.{along, repeated, copy_at, box_shown, node_moves, places_of, filled}
use Rattle.etx_ship.proofs.+drawing.Given as goal

abbrev pub invariant-draw::draw_box-loop-node : goal.invariant-draw::draw_box-loop-node
invariant-draw::draw_box-loop-node l =
    drawn (along (map node_moves (drop l.node-index l.node-items)) l.frame l.spot) l.pen ≡ drawn (places_of l.fn.it l.fn.at) l.fn.pen

abbrev pub invariant-leaders::draw_filled-loop-row : goal.invariant-leaders::draw_filled-loop-row
invariant-leaders::draw_filled-loop-row l =
    drawn (repeated (copy_at (box_shown l.fn.it) l.fn.frame) l.row.step l.row.count l.row.first) l.pen
    ≡ drawn (filled l.fn.kind (box_shown l.fn.it) l.fn.frame l.fn.start l.fn.end) l.fn.pen

abbrev pub decreases-leaders::draw_filled-loop-row : goal.decreases-leaders::draw_filled-loop-row
decreases-leaders::draw_filled-loop-row l = l.row.count
