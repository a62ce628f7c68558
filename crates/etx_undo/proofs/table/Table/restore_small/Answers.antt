use Rattle.std.proofs.Common.{◌<◌, ℕ, length, IsSome, refl, sym, subst}
use Rattle.etx_undo.specs.Tables.{Entries, look}
use Rattle.etx_undo.proofs.Tables.{put_small, small_within, small_len}
use Rattle.etx_undo.proofs.table.Table.restore_small.Goals as goal

pub place-requires : goal.place-requires
place-requires g c = subst (λ (n : ℕ). c.args.slot.at < n) (small_len _ c.requires.kind) c.requires.small

pub restore-requires : goal.restore-requires
restore-requires g c =
    subst (λ (n : ℕ). n < length c.self.inside.small) (sym c.place.ensures.place)
    (small_within _ c.args.slot c.requires.kind c.requires.small (subst (λ (e : Entries g.row.V.Denot). IsSome (look e c.args.slot)) (sym c.self.view_is) c.requires.some))

pub returns : goal.returns
returns g c = rw (← c.self.view_is) (put_small _ _ c.args.slot _ c.requires.kind c.requires.small refl refl (rw c.place.ensures.place at c.restore.ensures))
