use Rattle.std.proofs.Common.{◌≡◌, ◌∙◌, ap, ◌++◌, ◌∷◌, [], List, Option}
use Rattle.etx_undo.specs.declared.slot.Slot.{Slot}
use Rattle.etx_undo.specs.declared.store.Saved.{Saved}
use Rattle.etx_undo.proofs.Histories.{IsSet-put, IsBacked-put, map-pushed}
use Rattle.etx_undo.proofs.store.Store.set.Goals as goal

pub invariant_of-self-2 : goal.invariant_of-self-2
invariant_of-self-2 g c =
    let f : Saved g.row.V.Denot → Slot × Option g.row.V.Denot = λ e. (e.slot, e.before) in
    let last : Saved g.row.V.Denot = record { slot = c.args.slot; before = c.in_ok-before.before } in
    let items : c.push_reserved.new.self.items ≡ c.self.inside.saved.items ++ last ∷ []
    = c.push_reserved.ensures.items ∙ ap (λ (l : List (Saved g.row.V.Denot)). l ++ last ∷ []) c.in_ok-reserve.ensures.items in
    IsBacked-put (record { entries = _; saved = _ }) (record { entries = _; saved = _ }) c.args.slot c.args.value _ c.in_ok-before.ensures.before (map-pushed f _ _ last items) c.in_ok-before.ensures.now c.self.invariant

pub returns-clause-ok : goal.returns-clause-ok
returns-clause-ok g c =
    let f : Saved g.row.V.Denot → Slot × Option g.row.V.Denot = λ e. (e.slot, e.before) in
    let last : Saved g.row.V.Denot = record { slot = c.args.slot; before = c.in_ok-before.before } in
    let items : c.push_reserved.new.self.items ≡ c.self.inside.saved.items ++ last ∷ []
    = c.push_reserved.ensures.items ∙ ap (λ (l : List (Saved g.row.V.Denot)). l ++ last ∷ []) c.in_ok-reserve.ensures.items in
    rw (← c.self.view_is) (IsSet-put (record { entries = _; saved = _ }) (record { entries = _; saved = _ }) c.args.slot c.args.value _ c.in_ok-before.ensures.before (map-pushed f _ _ last items) c.in_ok-before.ensures.now)
