use Rattle.std.proofs.Common.{◌≡◌, ◌≢◌, ◌+◌, ◌-◌, ◌<◌, ◌≤◌, ℕ, List, ◌∷◌, Some, refl, sym, ◌∙◌, ap, subst, arith}
use Rattle.etx_state.proofs.Refine.{back_here, back_other, tied_begin, tied_global, tied_change}
use Rattle.etx_state.proofs.Words.{is_here, is_saved, is_global, is_change, is_begun, is_noted, is_unnoted, is_ended, is_kind, is_kind_in, is_after, is_got, is_got_at, is_level, ties_here, ties_saved, ties_over, deep, at_kept, back_values, back_sound, back_kept, live_place, live_stack, marked_same, marked_values, marked_kept, before_marked, forgot_values, forgot_sound, sound_new, values_new, fits_held, fits_at}
use Rattle.etx_state.proofs.groups.change.Goals as goal

pub put_cell-requires-clause-tied : goal.put_cell-requires-clause-tied
put_cell-requires-clause-tied c = tied_change _ _ _ _ c.level-level.ensures c.requires.sound.tied

pub returns-clause-ok : goal.returns-clause-ok
returns-clause-ok c = is_change _ _ c.requires.sound _ _ c.level-level.ensures c.in_ok-put_cell.ensures.items c.in_ok-put_cell.ensures.cells
