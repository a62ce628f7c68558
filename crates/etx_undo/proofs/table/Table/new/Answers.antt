use Rattle.etx_undo.proofs.Tables.{look_none}
use Rattle.etx_undo.proofs.table.Table.new.Goals as goal

pub returns : goal.returns
returns g c = look_none _ c.new.ensures c.new-2.ensures c.new-3.ensures.empty
