use Rattle.std.proofs.Common.{◌≡◌, ◌≢◌, ◌+◌, ◌-◌, ◌<◌, ◌≤◌, ℕ, List, ◌∷◌, Some, refl, sym, ◌∙◌, ap, subst, arith}
use Rattle.etx_state.proofs.Words.{is_here, is_saved, is_global, is_change, is_begun, is_noted, is_unnoted, is_ended, is_kind, is_kind_in, is_after, is_got, is_got_at, is_level, ties_here, ties_saved, ties_over, deep, at_kept, back_values, back_sound, back_kept, live_place, live_stack, marked_same, marked_values, marked_kept, before_marked, forgot_values, forgot_sound, sound_new, values_new, fits_held, fits_at}
use Rattle.etx_state.proofs.groups.after.Goals as goal

pub returns-then-parts-eq0-clause-ok : goal.returns-then-parts-eq0-clause-ok
returns-then-parts-eq0-clause-ok c = is_unnoted _ _ c.requires c.if-parts-eq0.true

pub returns-clause-ok : goal.returns-clause-ok
returns-clause-ok c =
    let ne = c.if-parts-eq0.false in
    is_noted c.args.parts.now _ c.requires _ (omega arith) c.in_ok-push.ensures.items c.in_ok-push.ensures.cells
