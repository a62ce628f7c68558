use Rattle.std.proofs.Common.{◌≡◌, ℕ, ◌+◌, ◌-◌, ◌≤◌, ◌<◌, List, [], ◌∷◌, ◌++◌, length, take, drop, map, refl, sym, ◌∙◌, ap, subst, arith}
use Rattle.std.proofs.lemmas.List.{take-append-le, take-take, take_all, length-map}
use Rattle.etx_stack.specs.declared.stack.Taken.{Taken}
use Rattle.etx_stack.specs.Undoing.{IsGuarded, AreBelow}
use Rattle.etx_stack.proofs.Histories.{Keeps-above, Keeps-needed, Keeps-marked, live-marked, at-marked, before-marked, guarded-more, guarded-pop, guarded-needed, guard-put_back, below-more, below-pop, below-last, below-needed, put_back-last, put_back-other, set-last, take-set, Same-back, Same-self, Same-then, Same-less, back-guard, back-guarded, back-items, map-pushed}
use Rattle.etx_stack.proofs.stack.Stack.mark.Goals as goal

pub invariant_of-self : goal.invariant_of-self
invariant_of-self g c =
    let n : c.len-self-inside.result ≡ length c.self.inside.items.items = omega (arith, c.len-self-inside.ensures, c.self.inside.items.ok.0) in
    (omega arith, guarded-more _ c.self.inside.guard _ (omega (arith, c.self.invariant.0)) c.self.invariant.1, c.self.invariant.2)

pub returns-clause-live : goal.returns-clause-live
returns-clause-live g c =
    let n : c.len-self-inside.result ≡ length c.self.inside.items.items = omega (arith, c.len-self-inside.ensures, c.self.inside.items.ok.0) in
    live-marked _ _ (c.len.ensures ∙ c.self.inside.taken.ok.0 ∙ sym (length-map _ _)) (c.len-2.ensures ∙ sym c.len-self-inside.ensures)
    (guarded-more _ c.self.inside.guard _ (omega (arith, c.self.invariant.0)) c.self.invariant.1)

pub returns-clause-now : goal.returns-clause-now
returns-clause-now g c =
    let f : Taken g.row.T.Denot → ℕ × g.row.T.Denot = λ e. (e.at, e.item) in
    at-marked (record { items = c.self.inside.items.items; taken = map f c.self.inside.taken.items; guard = c.len-self-inside.result }) _ (c.len.ensures ∙ c.self.inside.taken.ok.0 ∙ sym (length-map _ _)) (c.len-2.ensures ∙ c.self.inside.items.ok.0)

pub returns-clause-kept : goal.returns-clause-kept
returns-clause-kept g c =
    rw (← c.self.view_is) (Keeps-marked _ _ refl refl (omega (arith, c.self.invariant.0, c.len-self-inside.ensures, c.self.inside.items.ok.0)))

pub returns-clause-last : goal.returns-clause-last
returns-clause-last g c =
    rw (← c.self.view_is) (λ m. before-marked _ m _ (c.len.ensures ∙ c.self.inside.taken.ok.0 ∙ sym (length-map _ _)) (omega (arith, c.self.invariant.0, c.len-2.ensures, c.self.inside.items.ok.0)))
