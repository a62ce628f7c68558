use Rattle.std.proofs.Common.{sym, ◌∙◌, arith}
use Rattle.etx_ship.specs.Places.{copy_at, box_shown}
use Rattle.etx_ship.proofs.Drawing.{row_step, no_more, list_step}
use Rattle.etx_ship.proofs.+drawing.Goals as goal

pub draw::draw_box-loop-node-preserved : goal.draw::draw_box-loop-node-preserved
draw::draw_box-loop-node-preserved t c =
    list_step c.as_slice-node-items.result.now c.loop-node.node-index c.node-item.result c.in_ok-frame.frame c.loop-node.spot c.in_ok-spot.spot
    c.loop-node.pen c.draw_node.new.pen c.loop-node-test.true c.node-item.is c.in_ok-spot.ensures
    ∙ c.loop-node.invariant

pub leaders::draw_filled-loop-row-preserved : goal.leaders::draw_filled-loop-row-preserved
leaders::draw_filled-loop-row-preserved t c =
    row_step (copy_at (box_shown c.args.it.now) c.args.frame.now) c.loop-row.row c.in_ok-row-2.row c.loop-row.pen c.draw_copy.new.pen c.loop-row-test.true
    c.in_ok-draw_copy.ensures c.in_ok-row-2.ensures
    ∙ c.loop-row.invariant

pub leaders::draw_filled-returns : goal.leaders::draw_filled-returns
leaders::draw_filled-returns t c =
    sym (no_more (copy_at (box_shown c.args.it.now) c.args.frame.now) c.loop-row.row.step c.loop-row.row.count c.loop-row.row.first c.loop-row.pen (omega (arith, c.loop-row-test.false)))
    ∙ c.loop-row.invariant
