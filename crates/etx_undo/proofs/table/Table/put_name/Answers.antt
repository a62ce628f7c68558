use Rattle.std.proofs.Common.{refl, sym, ◌∙◌}
use Rattle.etx_undo.proofs.Tables.{look_name, put_name}
use Rattle.etx_undo.proofs.table.Table.put_name.Goals as goal

pub returns-clause-before : goal.returns-clause-before
returns-clause-before g c = rw (← c.self.view_is) (c.in_ok-before.ensures.before ∙ sym (look_name _ c.args.slot c.requires.kind c.requires.small))

pub returns-clause-now : goal.returns-clause-now
returns-clause-now g c = rw (← c.self.view_is) (put_name _ _ c.args.slot _ c.requires.kind c.requires.small refl refl c.in_ok-before.ensures.now)
