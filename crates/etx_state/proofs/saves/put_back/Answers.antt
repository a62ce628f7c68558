use Rattle.std.proofs.Common.{◌≡◌, ◌≢◌, ◌+◌, ◌-◌, ◌<◌, ◌≤◌, ℕ, List, ◌∷◌, Some, refl, sym, ◌∙◌, ap, subst, arith}
use Rattle.etx_state.specs.Saves.{cells_of, cells_at, items_of, depth_of, tail_of, values_in, IsTied}
use Rattle.etx_state.proofs.Stored.{cells_set, cells_same, items_same, items_pushed, items_top_is, items_dropped, top_deep, sound_by, whole_put, whole_push, whole_drop, top_fits, keeps_set, keeps_self, keeps_stack, tied_end, tied_token, tied_undone, tied_backed, kind_all, kind_here, kind_step}
use Rattle.etx_state.proofs.Refine.{back_here, back_other, tied_begin, tied_global, tied_change}
use Rattle.etx_state.proofs.saves.put_back.Goals as goal

pub returns-then-level-parts-clause-cells : goal.returns-then-level-parts-clause-cells
returns-then-level-parts-clause-cells c =
    let ne = c.if-level-parts.true in
    sym (back_other (depth_of (items_of c.args.parts.now)) _ _ _ (λ e. ne (c.level.ensures ∙ e ∙ sym c.requires.sound.counted)))

pub put_cell-requires-clause-tied : goal.put_cell-requires-clause-tied
put_cell-requires-clause-tied c =
    let lev : (cells_of c.args.parts.now c.args.key).level ≡ depth_of (items_of c.args.parts.now) = sym c.level.ensures ∙ c.if-level-parts.false ∙ c.requires.sound.counted in
    subst (IsTied (items_of c.args.parts.now)) (back_here _ _ _ c.args.was lev) (tied_backed _ _ _ _ c.requires.sound.tied c.requires.top)

pub put_cell-requires-clause-fits : goal.put_cell-requires-clause-fits
put_cell-requires-clause-fits c = top_fits _ _ _ c.requires.sound.items c.requires.top

pub returns-clause-cells : goal.returns-clause-cells
returns-clause-cells c =
    let lev : (cells_of c.args.parts.now c.args.key).level ≡ depth_of (items_of c.args.parts.now) = sym c.level.ensures ∙ c.if-level-parts.false ∙ c.requires.sound.counted in
    c.in_ok-put_cell.ensures.cells ∙ sym (back_here _ _ _ c.args.was lev)
