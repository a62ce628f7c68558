use Rattle.std.proofs.Common.{IsSome, refl, sym, subst}
use Rattle.etx_undo.specs.Tables.{Entries, look}
use Rattle.etx_undo.proofs.Tables.{put_name, name_within}
use Rattle.etx_undo.proofs.table.Table.restore_name.Goals as goal

pub restore-requires : goal.restore-requires
restore-requires g c = name_within _ c.args.slot c.requires.kind c.requires.small (subst (λ (e : Entries g.row.V.Denot). IsSome (look e c.args.slot)) (sym c.self.view_is) c.requires.some)

pub returns : goal.returns
returns g c = rw (← c.self.view_is) (put_name _ _ c.args.slot _ c.requires.kind c.requires.small refl refl c.restore.ensures)
