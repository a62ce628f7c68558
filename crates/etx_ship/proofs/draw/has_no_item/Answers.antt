use Rattle.etx_ship.proofs.Drawing.{is_empty_as}
use Rattle.etx_ship.proofs.draw.has_no_item.Goals as goal

pub returns : goal.returns
returns c = is_empty_as c.args.nodes.now _ c.is_empty.ensures
