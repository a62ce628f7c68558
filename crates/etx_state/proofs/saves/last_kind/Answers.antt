use Rattle.std.proofs.Common.{◌≡◌, ◌≢◌, ◌+◌, ◌-◌, ◌<◌, ◌≤◌, ℕ, List, ◌∷◌, Some, refl, sym, ◌∙◌, ap, subst, arith}
use Rattle.etx_state.proofs.Stored.{cells_set, cells_same, items_same, items_pushed, items_top_is, items_dropped, top_deep, sound_by, whole_put, whole_push, whole_drop, top_fits, keeps_set, keeps_self, keeps_stack, tied_end, tied_token, tied_undone, tied_backed, kind_all, kind_here, kind_step}
use Rattle.etx_state.proofs.saves.last_kind.Goals as goal

pub loop-count-init : goal.loop-count-init
loop-count-init c = record {
  within = omega (arith, c.len-count.ensures);
  same = kind_all c.args.parts.now _ c.len-count.ensures;
}

pub returns-in-Begin : goal.returns-in-Begin
returns-in-Begin c =
    kind_here _ c.loop-count.count (c.loop-count.count - 1) c.in-Begin.kind (omega (arith, c.loop-count-test.true)) (c.get.ensures ∙ ap Some c.in-Begin.is)
    ∙ c.loop-count.invariant.same

pub loop-count-preserved : goal.loop-count-preserved
loop-count-preserved c = record {
  within = omega (arith, c.loop-count.invariant.within);
  same = kind_step _ c.loop-count.count (c.loop-count.count - 1) c.get.result.now (omega (arith, c.loop-count-test.true)) c.get.ensures c.in_default.not-Begin ∙ c.loop-count.invariant.same;
}
