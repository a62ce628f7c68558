use Rattle.std.proofs.Common.{◌<◌, length, ◌∙◌}
use Rattle.etx_undo.proofs.Rows.{at_index}
use Rattle.etx_undo.proofs.row.Row.replace.Goals as goal

pub returns-clause-before : goal.returns-clause-before
returns-clause-before g c =
    let h : c.args.at < length c.self.inside.cells.items = rw c.self.view_is c.requires in
    rw (← c.self.view_is) (c.replace.ensures.value ∙ c.index_mut.ensures.value ∙ at_index c.self.inside.cells.items _ _ h)
