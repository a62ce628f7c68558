use Rattle.std.proofs.Common.{◌≡◌, ◌≢◌, ◌+◌, ◌-◌, ◌<◌, ◌≤◌, ℕ, List, ◌∷◌, Some, refl, sym, ◌∙◌, ap, subst, arith}
use Rattle.etx_state.proofs.Words.{is_here, is_saved, is_global, is_change, is_begun, is_noted, is_unnoted, is_ended, is_kind, is_kind_in, is_after, is_got, is_got_at, is_level, ties_here, ties_saved, ties_over, deep, at_kept, back_values, back_sound, back_kept, live_place, live_stack, marked_same, marked_values, marked_kept, before_marked, forgot_values, forgot_sound, sound_new, values_new, fits_held, fits_at}
use Rattle.etx_state.proofs.groups.assign.Goals as goal

pub put_cell-requires-clause-tied : goal.put_cell-requires-clause-tied
put_cell-requires-clause-tied c = ties_here _ _ _ c.requires.sound (sym c.level.ensures ∙ c.if-level.true) refl

pub returns-then-level-clause-ok : goal.returns-then-level-clause-ok
returns-then-level-clause-ok c = is_here _ _ c.requires.sound _ _ (sym c.level.ensures ∙ c.if-level.true) refl c.in_ok-put_cell.ensures.items c.in_ok-put_cell.ensures.cells

pub push-requires-clause-tied : goal.push-requires-clause-tied
push-requires-clause-tied c =
    let ne = c.if-level.false in
    rw c.in_ok-cell.ensures (ties_saved c.args.parts.now c.args.key c.requires.sound (λ e. ne (c.level.ensures ∙ e)))

pub push-requires-clause-fits : goal.push-requires-clause-fits
push-requires-clause-fits c = rw c.in_ok-cell.ensures (fits_held c.args.parts.now c.args.key c.requires.sound)

pub put_cell-requires-2-clause-tied : goal.put_cell-requires-2-clause-tied
put_cell-requires-2-clause-tied c =
    let ne = c.if-level.false in
    ties_over c.args.parts.now _ _ _ c.requires.sound (λ e. ne (c.level.ensures ∙ e)) refl
    (rw c.in_ok-cell.ensures at c.in_ok-push.ensures.items) c.in_ok-push.ensures.cells

pub returns-clause-ok : goal.returns-clause-ok
returns-clause-ok c =
    let ne = c.if-level.false in
    is_saved c.args.parts.now _ c.requires.sound _ _ (deep c.args.parts.now c.args.key c.requires.sound (λ e. ne (c.level.ensures ∙ e))) refl
    (c.in_ok-put_cell-2.ensures.items ∙ (rw c.in_ok-cell.ensures at c.in_ok-push.ensures.items))
    (rw c.in_ok-push.ensures.cells at c.in_ok-put_cell-2.ensures.cells)
