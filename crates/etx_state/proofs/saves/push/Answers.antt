use Rattle.std.proofs.Common.{◌≡◌, ◌≢◌, ◌+◌, ◌-◌, ◌<◌, ◌≤◌, ℕ, List, ◌∷◌, Some, refl, sym, ◌∙◌, ap, subst, arith}
use Rattle.etx_stack.specs.Undoing.{Stacked}
use Rattle.etx_state.specs.declared.cell.Item.{Item}
use Rattle.etx_state.specs.Saves.{cells_of, cells_at, items_of, depth_of, tail_of, values_in, IsTied}
use Rattle.etx_state.proofs.Stored.{cells_set, cells_same, items_same, items_pushed, items_top_is, items_dropped, top_deep, sound_by, whole_put, whole_push, whole_drop, top_fits, keeps_set, keeps_self, keeps_stack, tied_end, tied_token, tied_undone, tied_backed, kind_all, kind_here, kind_step}
use Rattle.etx_state.proofs.saves.push.Goals as goal

pub returns-clause-items : goal.returns-clause-items
returns-clause-items c = items_pushed c.args.parts.now _ c.args.item c.in_ok-push.ensures.ok

pub returns-clause-cells : goal.returns-clause-cells
returns-clause-cells c = cells_same c.args.parts.now _ refl

pub returns-clause-sound : goal.returns-clause-sound
returns-clause-sound c =
    sound_by _ _ _ (items_pushed c.args.parts.now _ c.args.item c.in_ok-push.ensures.ok) (cells_same c.args.parts.now _ refl)
    (whole_push _ _ _ _ c.args.item c.deeper-depth.ensures c.requires.sound c.requires.tied c.requires.fits)

pub returns-clause-kept : goal.returns-clause-kept
returns-clause-kept c = keeps_stack c.args.parts.now _ refl c.in_ok-push.ensures.kept

pub returns-in_err-push-clause-sound : goal.returns-in_err-push-clause-sound
returns-in_err-push-clause-sound c =
    sound_by _ _ _ (items_same c.args.parts.now _ (ap (λ (s : Stacked Item). s.items) c.in_err-push.ensures.err)) (cells_same c.args.parts.now _ refl) c.requires.sound
