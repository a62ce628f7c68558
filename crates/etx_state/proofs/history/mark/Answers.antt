use Rattle.std.proofs.Common.{◌≡◌, ◌≢◌, ◌+◌, ◌-◌, ◌<◌, ◌≤◌, ℕ, List, ◌∷◌, Some, refl, sym, ◌∙◌, ap, subst, arith}
use Rattle.etx_state.proofs.Stored.{cells_set, cells_same, items_same, items_pushed, items_top_is, items_dropped, top_deep, sound_by, whole_put, whole_push, whole_drop, top_fits, keeps_set, keeps_self, keeps_stack, tied_end, tied_token, tied_undone, tied_backed, kind_all, kind_here, kind_step}
use Rattle.etx_state.proofs.Words.{is_here, is_saved, is_global, is_change, is_begun, is_noted, is_unnoted, is_ended, is_kind, is_kind_in, is_after, is_got, is_got_at, is_level, ties_here, ties_saved, ties_over, deep, at_kept, back_values, back_sound, back_kept, live_place, live_stack, marked_same, marked_values, marked_kept, before_marked, forgot_values, forgot_sound, sound_new, values_new, fits_held, fits_at}
use Rattle.etx_state.proofs.history.mark.Goals as goal

pub returns-clause-sound : goal.returns-clause-sound
returns-clause-sound c = forgot_sound c.args.parts.now _ c.mark-saves.ensures.same (λ q. refl) refl c.requires

pub returns-clause-same : goal.returns-clause-same
returns-clause-same c = forgot_values c.args.parts.now _ c.mark-saves.ensures.same (λ q. refl)

pub returns-clause-live : goal.returns-clause-live
returns-clause-live c = marked_kept c.args.parts.now _ _ c.requires refl c.mark-saves.ensures.same c.mark-values.ensures.place refl c.mark-saves.ensures.live c.mark-saves.ensures.now

pub returns-clause-values : goal.returns-clause-values
returns-clause-values c = marked_values c.args.parts.now _ _ c.requires refl c.mark-saves.ensures.same c.mark-values.ensures.place refl c.mark-saves.ensures.live c.mark-saves.ensures.now

pub returns-clause-kept : goal.returns-clause-kept
returns-clause-kept c = keeps_stack c.args.parts.now _ refl c.mark-saves.ensures.kept

pub returns-clause-before : goal.returns-clause-before
returns-clause-before c = λ m first k. before_marked c.args.parts.now m _ first c.mark-values.ensures.place c.mark-saves.ensures.last k
