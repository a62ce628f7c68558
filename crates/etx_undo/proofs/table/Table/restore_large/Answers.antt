use Rattle.std.proofs.Common.{IsSome, refl, sym, subst}
use Rattle.etx_undo.specs.Tables.{Entries, look}
use Rattle.etx_undo.proofs.Tables.{put_large, large_some}
use Rattle.etx_undo.proofs.table.Table.restore_large.Goals as goal

pub restore_in-requires : goal.restore_in-requires
restore_in-requires g c = large_some _ c.args.slot c.requires.large (subst (λ (e : Entries g.row.V.Denot). IsSome (look e c.args.slot)) (sym c.self.view_is) c.requires.some)

pub returns : goal.returns
returns g c = rw (← c.self.view_is) (put_large _ _ c.args.slot _ c.requires.large refl refl c.restore_in.ensures)
