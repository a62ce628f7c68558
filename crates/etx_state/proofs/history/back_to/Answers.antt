use Rattle.std.proofs.Common.{◌≡◌, ◌≢◌, ◌+◌, ◌-◌, ◌<◌, ◌≤◌, ℕ, List, ◌∷◌, Some, refl, sym, ◌∙◌, ap, subst, arith}
use Rattle.etx_state.proofs.Words.{is_here, is_saved, is_global, is_change, is_begun, is_noted, is_unnoted, is_ended, is_kind, is_kind_in, is_after, is_got, is_got_at, is_level, ties_here, ties_saved, ties_over, deep, at_kept, back_values, back_sound, back_kept, live_place, live_stack, marked_same, marked_values, marked_kept, before_marked, forgot_values, forgot_sound, sound_new, values_new, fits_held, fits_at}
use Rattle.etx_state.proofs.history.back_to.Goals as goal

pub back_to-requires : goal.back_to-requires
back_to-requires c = live_place _ _ _ c.requires

pub back_to-requires-2 : goal.back_to-requires-2
back_to-requires-2 c = live_stack _ _ _ c.requires

pub returns-clause-sound : goal.returns-clause-sound
returns-clause-sound c = back_sound c.args.parts.now _ c.args.mark c.back_to-2.ensures.now c.back_to.ensures.now c.requires refl

pub returns-clause-values : goal.returns-clause-values
returns-clause-values c = back_values c.args.parts.now _ c.args.mark c.back_to-2.ensures.now c.back_to.ensures.now

pub returns-clause-kept : goal.returns-clause-kept
returns-clause-kept c = λ m first b k. back_kept c.args.parts.now _ m c.args.mark first c.back_to.ensures.place c.back_to.ensures.same c.back_to-2.ensures.kept b k
