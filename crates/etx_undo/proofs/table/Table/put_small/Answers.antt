use Rattle.std.proofs.Common.{◌<◌, ℕ, refl, sym, ◌∙◌, ap, subst}
use Rattle.etx_undo.specs.Rows.{value_at}
use Rattle.etx_undo.proofs.Tables.{look_small, put_small, small_len}
use Rattle.etx_undo.proofs.table.Table.put_small.Goals as goal

pub place-requires : goal.place-requires
place-requires g c = subst (λ (n : ℕ). c.args.slot.at < n) (small_len _ c.requires.kind) c.requires.small

pub returns-clause-before : goal.returns-clause-before
returns-clause-before g c = rw (← c.self.view_is) (c.in_ok-before.ensures.before ∙ ap (value_at c.self.inside.small) c.place.ensures.place ∙ sym (look_small _ c.args.slot c.requires.kind c.requires.small))

pub returns-clause-now : goal.returns-clause-now
returns-clause-now g c = rw (← c.self.view_is) (put_small _ _ c.args.slot _ c.requires.kind c.requires.small refl refl (rw c.place.ensures.place at c.in_ok-before.ensures.now))
