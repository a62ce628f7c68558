use Rattle.std.proofs.Common.{refl, sym, ◌∙◌}
use Rattle.etx_undo.proofs.Tables.{look_large, put_large}
use Rattle.etx_undo.proofs.table.Table.put_large.Goals as goal

pub returns-clause-before : goal.returns-clause-before
returns-clause-before g c = rw (← c.self.view_is) (c.in_ok-before.ensures.old ∙ sym (look_large _ c.args.slot c.requires))

pub returns-clause-now : goal.returns-clause-now
returns-clause-now g c = rw (← c.self.view_is) (put_large _ _ c.args.slot _ c.requires refl refl c.in_ok-before.ensures.updates.0)
