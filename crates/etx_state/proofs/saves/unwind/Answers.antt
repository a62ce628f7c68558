use Rattle.std.proofs.Common.{◌≡◌, ◌≢◌, ◌+◌, ◌-◌, ◌<◌, ◌≤◌, ℕ, List, ◌∷◌, Some, refl, sym, ◌∙◌, ap, subst, arith}
use Rattle.etx_state.proofs.Stored.{cells_set, cells_same, items_same, items_pushed, items_top_is, items_dropped, top_deep, sound_by, whole_put, whole_push, whole_drop, top_fits, keeps_set, keeps_self, keeps_stack, tied_end, tied_token, tied_undone, tied_backed, kind_all, kind_here, kind_step}
use Rattle.etx_state.proofs.saves.unwind.Goals as goal

pub drop_top-requires-clause-tied : goal.drop_top-requires-clause-tied
drop_top-requires-clause-tied c = tied_end _ _ _ c.loop-item.invariant.sound.tied (sym c.in_ok-item.ensures ∙ c.in-Some.is ∙ ap Some c.in-Begin.is)

pub drop_top-requires-in-After-clause-tied : goal.drop_top-requires-in-After-clause-tied
drop_top-requires-in-After-clause-tied c = tied_token _ _ _ c.loop-item.invariant.sound.tied (sym c.in_ok-item.ensures ∙ c.in-Some.is ∙ ap Some c.in-After.is)
