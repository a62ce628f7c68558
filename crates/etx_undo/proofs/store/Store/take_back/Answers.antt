use Rattle.std.proofs.Common.{Option}
use Rattle.etx_undo.specs.declared.slot.Slot.{Slot}
use Rattle.etx_undo.specs.declared.store.Saved.{Saved}
use Rattle.etx_undo.proofs.Histories.{IsSome-back, IsBacked-back, SameUpTo-back, map-pushed}
use Rattle.etx_undo.proofs.store.Store.take_back.Goals as goal

pub restore-requires : goal.restore-requires
restore-requires g c =
    let f : Saved g.row.V.Denot → Slot × Option g.row.V.Denot = λ e. (e.slot, e.before) in
    IsSome-back (record { entries = _; saved = _ }) _ _ (map-pushed f _ _ _ c.in-Some.ensures.items) c.self.invariant

pub invariant_of-self : goal.invariant_of-self
invariant_of-self g c =
    let f : Saved g.row.V.Denot → Slot × Option g.row.V.Denot = λ e. (e.slot, e.before) in
    IsBacked-back (record { entries = _; saved = _ }) (record { entries = _; saved = _ }) _ (map-pushed f _ _ _ c.in-Some.ensures.items) c.restore.ensures c.self.invariant

pub returns-in-Some-clause-same : goal.returns-in-Some-clause-same
returns-in-Some-clause-same g c =
    let f : Saved g.row.V.Denot → Slot × Option g.row.V.Denot = λ e. (e.slot, e.before) in
    rw (← c.self.view_is) (SameUpTo-back (record { entries = _; saved = _ }) (record { entries = _; saved = _ }) _ (map-pushed f _ _ _ c.in-Some.ensures.items) c.restore.ensures)
