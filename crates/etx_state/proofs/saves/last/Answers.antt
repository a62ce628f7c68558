use Rattle.std.proofs.Common.{◌≡◌, ◌≢◌, ◌+◌, ◌-◌, ◌<◌, ◌≤◌, ℕ, List, ◌∷◌, Some, refl, sym, ◌∙◌, ap, subst, arith}
use Rattle.etx_state.proofs.Stored.{cells_set, cells_same, items_same, items_pushed, items_top_is, items_dropped, top_deep, sound_by, whole_put, whole_push, whole_drop, top_fits, keeps_set, keeps_self, keeps_stack, tied_end, tied_token, tied_undone, tied_backed, kind_all, kind_here, kind_step}
use Rattle.etx_state.proofs.saves.last.Goals as goal

pub returns : goal.returns
returns c = c.last.ensures ∙ items_top_is c.args.parts.now
