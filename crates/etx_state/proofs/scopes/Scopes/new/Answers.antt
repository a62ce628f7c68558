use Rattle.std.proofs.Common.{◌≡◌, ◌≢◌, ◌+◌, ◌-◌, ◌<◌, ◌≤◌, ℕ, List, ◌∷◌, Some, refl, sym, ◌∙◌, ap, subst, arith}
use Rattle.etx_state.proofs.Words.{is_here, is_saved, is_global, is_change, is_begun, is_noted, is_unnoted, is_ended, is_kind, is_kind_in, is_after, is_got, is_got_at, is_level, ties_here, ties_saved, ties_over, deep, at_kept, back_values, back_sound, back_kept, live_place, live_stack, marked_same, marked_values, marked_kept, before_marked, forgot_values, forgot_sound, sound_new, values_new, fits_held, fits_at}
use Rattle.etx_state.proofs.scopes.Scopes.new.Goals as goal

pub invariant_of-result : goal.invariant_of-result
invariant_of-result c = sound_new _ c.new-3.ensures c.new-2.ensures.empty refl

pub returns : goal.returns
returns c = values_new _ c.new-3.ensures c.new-2.ensures.empty
