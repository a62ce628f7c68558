use Rattle.std.proofs.Common.{◌≡◌, ◌≢◌, ◌+◌, ◌-◌, ◌<◌, ◌≤◌, ℕ, List, ◌∷◌, Some, refl, sym, ◌∙◌, ap, subst, arith}
use Rattle.etx_state.proofs.Words.{is_here, is_saved, is_global, is_change, is_begun, is_noted, is_unnoted, is_ended, is_kind, is_kind_in, is_after, is_got, is_got_at, is_level, ties_here, ties_saved, ties_over, deep, at_kept, back_values, back_sound, back_kept, live_place, live_stack, marked_same, marked_values, marked_kept, before_marked, forgot_values, forgot_sound, sound_new, values_new, fits_held, fits_at}
use Rattle.etx_state.proofs.groups.end.Goals as goal

pub returns-clause-kind : goal.returns-clause-kind
returns-clause-kind c = c.in_ok-kind.ensures.kind ∙ is_kind _ _

pub returns-clause-ok : goal.returns-clause-ok
returns-clause-ok c = is_ended _ _ c.requires _ c.in_ok-kind.ensures.items c.in_ok-kind.ensures.cells

pub returns-clause-after : goal.returns-clause-after
returns-clause-after c = c.in_ok-kind.ensures.input ∙ is_after _ _ c.requires
