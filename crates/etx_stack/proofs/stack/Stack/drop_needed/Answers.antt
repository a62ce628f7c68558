use Rattle.std.proofs.Common.{◌≡◌, ℕ, ◌+◌, ◌-◌, ◌≤◌, ◌<◌, List, [], ◌∷◌, ◌++◌, length, take, drop, map, refl, sym, ◌∙◌, ap, subst, arith}
use Rattle.std.proofs.lemmas.List.{take-append-le, take-take, take_all, length-map}
use Rattle.etx_stack.specs.declared.stack.Taken.{Taken}
use Rattle.etx_stack.specs.Undoing.{Stacked, IsGuarded, AreBelow}
use Rattle.etx_stack.proofs.Histories.{Keeps-above, Keeps-needed, Keeps-marked, live-marked, at-marked, before-marked, guarded-more, guarded-pop, guarded-needed, guard-put_back, below-more, below-pop, below-last, below-needed, put_back-last, put_back-other, set-last, take-set, Same-back, Same-self, Same-then, Same-less, back-guard, back-guarded, back-items, map-pushed}
use Rattle.etx_stack.proofs.stack.Stack.drop_needed.Goals as goal

pub invariant_of-self-in-Some : goal.invariant_of-self-in-Some
invariant_of-self-in-Some g c =
    let f : Taken g.row.T.Denot → ℕ × g.row.T.Denot = λ e. (e.at, e.item) in
    let old : length c.self.inside.items.items ≤ c.self.inside.guard = subst (λ (s : Stacked g.row.T.Denot). length s.items ≤ s.guard) (sym c.self.view_is) c.requires in
    let n : c.len-at.result ≡ length c.pop.new.self.items = c.len-at.ensures ∙ c.pop.new.self.ok.0 in
    let one : c.len-at.result + 1 ≡ length c.self.inside.items.items = omega (arith, c.in-Some.ensures.len, c.len-at.ensures, c.self.inside.items.ok.0) in
    let pushed = map-pushed f _ _ _ (c.push_reserved.ensures.items ∙ ap (λ (l : List (Taken g.row.T.Denot)). l ++ record { at = c.len-at.result; item = c.in-Some.before } ∷ []) c.in_ok-reserve.ensures.items) in (
      omega arith,
      guarded-needed _ _ _ c.self.inside.guard pushed (omega (arith, c.self.invariant.0)) c.self.invariant.1,
      below-needed _ _ _ c.self.inside.items.cap _ pushed (omega (arith, c.in-Some.ensures.capacity)) (omega (arith, c.in-Some.ensures.capacity, c.self.inside.items.ok.0, c.self.inside.items.ok.1)) c.self.invariant.2,
    )

pub returns-in-Some-clause-kept : goal.returns-in-Some-clause-kept
returns-in-Some-clause-kept g c =
    let f : Taken g.row.T.Denot → ℕ × g.row.T.Denot = λ e. (e.at, e.item) in
    let old : length c.self.inside.items.items ≤ c.self.inside.guard = subst (λ (s : Stacked g.row.T.Denot). length s.items ≤ s.guard) (sym c.self.view_is) c.requires in
    let n : c.len-at.result ≡ length c.pop.new.self.items = c.len-at.ensures ∙ c.pop.new.self.ok.0 in
    let one : c.len-at.result + 1 ≡ length c.self.inside.items.items = omega (arith, c.in-Some.ensures.len, c.len-at.ensures, c.self.inside.items.ok.0) in
    let pushed = map-pushed f _ _ _ (c.push_reserved.ensures.items ∙ ap (λ (l : List (Taken g.row.T.Denot)). l ++ record { at = c.len-at.result; item = c.in-Some.before } ∷ []) c.in_ok-reserve.ensures.items) in
    rw (← c.self.view_is) (Keeps-needed _ _ _ pushed (omega (arith, c.self.invariant.0))
    (put_back-last _ _ _ c.in-Some.before c.in-Some.before c.in-Some.ensures.items (omega arith) refl))
