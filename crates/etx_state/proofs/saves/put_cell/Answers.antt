use Rattle.std.proofs.Common.{◌≡◌, ◌≢◌, ◌+◌, ◌-◌, ◌<◌, ◌≤◌, ℕ, List, ◌∷◌, Some, refl, sym, ◌∙◌, ap, subst, arith}
use Rattle.etx_state.specs.Saves.{cells_of, cells_at, items_of, depth_of, tail_of, values_in, IsTied}
use Rattle.etx_state.proofs.Stored.{cells_set, cells_same, items_same, items_pushed, items_top_is, items_dropped, top_deep, sound_by, whole_put, whole_push, whole_drop, top_fits, keeps_set, keeps_self, keeps_stack, tied_end, tied_token, tied_undone, tied_backed, kind_all, kind_here, kind_step}
use Rattle.etx_state.proofs.saves.put_cell.Goals as goal

pub returns-clause-cells : goal.returns-clause-cells
returns-clause-cells c = cells_set c.args.parts.now _ c.args.key c.args.cell (rw c.slot.ensures at c.in_ok-set.ensures.ok)

pub returns-clause-items : goal.returns-clause-items
returns-clause-items c = items_same c.args.parts.now _ refl

pub returns-clause-sound : goal.returns-clause-sound
returns-clause-sound c =
    sound_by _ _ _ (items_same c.args.parts.now _ refl) (cells_set c.args.parts.now _ c.args.key c.args.cell (rw c.slot.ensures at c.in_ok-set.ensures.ok))
    (whole_put _ _ _ _ _ c.requires.sound c.requires.tied c.requires.fits)

pub returns-clause-kept : goal.returns-clause-kept
returns-clause-kept c = keeps_set c.args.parts.now _ _ c.args.cell c.in_ok-set.ensures.ok refl

pub returns-in_err-set-clause-sound : goal.returns-in_err-set-clause-sound
returns-in_err-set-clause-sound c = sound_by _ _ _ (items_same c.args.parts.now _ refl) (cells_same c.args.parts.now _ c.in_err-set.ensures.err) c.requires.sound
