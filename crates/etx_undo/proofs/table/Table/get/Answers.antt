use Rattle.std.proofs.Common.{◌<◌, ℕ, sym, ◌∙◌, ap, subst}
use Rattle.etx_undo.specs.Rows.{value_at}
use Rattle.etx_undo.proofs.Tables.{look_name, look_small, look_large, small_len}
use Rattle.etx_undo.proofs.table.Table.get.Goals as goal

pub place-requires : goal.place-requires
place-requires g c = subst (λ (n : ℕ). c.args.slot.at < n) (small_len _ c.if-slot-eq0.false) (rw c.row_len.ensures at c.if-slot-row_len.false)

pub returns-then-slot-row_len : goal.returns-then-slot-row_len
returns-then-slot-row_len g c = rw (← c.self.view_is) (c.get.ensures.value ∙ sym (look_large _ c.args.slot (rw c.row_len.ensures at c.if-slot-row_len.true)))

pub returns-then-slot-eq0 : goal.returns-then-slot-eq0
returns-then-slot-eq0 g c = rw (← c.self.view_is) (c.get-then-slot-eq0.ensures ∙ sym (look_name _ c.args.slot c.if-slot-eq0.true (rw c.row_len.ensures at c.if-slot-row_len.false)))

pub returns : goal.returns
returns g c =
    rw (← c.self.view_is) (c.get-2.ensures ∙ ap (value_at c.self.inside.small) c.place.ensures.place ∙ sym (look_small _ c.args.slot c.if-slot-eq0.false (rw c.row_len.ensures at c.if-slot-row_len.false)))
