use Rattle.std.proofs.Common.{◌≡◌, ◌≢◌, ◌+◌, ◌-◌, ◌<◌, ◌≤◌, ℕ, List, ◌∷◌, Some, refl, sym, ◌∙◌, ap, subst, arith}
use Rattle.etx_state.specs.Saves.{cells_of, cells_at, items_of, depth_of, tail_of, values_in, IsTied}
use Rattle.etx_state.proofs.Stored.{cells_set, cells_same, items_same, items_pushed, items_top_is, items_dropped, top_deep, sound_by, whole_put, whole_push, whole_drop, top_fits, keeps_set, keeps_self, keeps_stack, tied_end, tied_token, tied_undone, tied_backed, kind_all, kind_here, kind_step}
use Rattle.etx_state.proofs.saves.undo.Goals as goal

pub drop_top-requires-clause-tied : goal.drop_top-requires-clause-tied
drop_top-requires-clause-tied c =
    rw (c.in_ok-put_back.ensures.items, c.in_ok-put_back.ensures.cells) (tied_undone _ _ _ _ c.requires.sound.tied c.requires.top)
