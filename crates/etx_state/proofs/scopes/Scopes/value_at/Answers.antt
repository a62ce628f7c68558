use Rattle.std.proofs.Common.{◌≡◌, ◌≢◌, ◌+◌, ◌-◌, ◌<◌, ◌≤◌, ℕ, List, ◌∷◌, Some, refl, sym, ◌∙◌, ap, subst, arith}
use Rattle.etx_state.proofs.Words.{is_here, is_saved, is_global, is_change, is_begun, is_noted, is_unnoted, is_ended, is_kind, is_kind_in, is_after, is_got, is_got_at, is_level, ties_here, ties_saved, ties_over, deep, at_kept, back_values, back_sound, back_kept, live_place, live_stack, marked_same, marked_values, marked_kept, before_marked, forgot_values, forgot_sound, sound_new, values_new, fits_held, fits_at}
use Rattle.etx_state.proofs.scopes.Scopes.value_at.Goals as goal

pub returns-clause-value : goal.returns-clause-value
returns-clause-value c = c.held_at.ensures ∙ is_got_at _ _ _ c.requires

pub returns-clause-fits : goal.returns-clause-fits
returns-clause-fits c = rw c.held_at.ensures (fits_at _ _ c.args.key c.requires)
