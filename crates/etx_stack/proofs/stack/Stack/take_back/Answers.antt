use Rattle.std.proofs.Common.{◌≡◌, ℕ, ◌+◌, ◌-◌, ◌≤◌, ◌<◌, ◌^◌, List, [], ◌∷◌, ◌++◌, length, take, drop, map, refl, sym, ◌∙◌, ap, subst, arith}
use Rattle.std.proofs.lemmas.List.{take-append-le, take-take, take_all, length-map}
use Rattle.etx_stack.specs.declared.stack.Taken.{Taken}
use Rattle.etx_stack.specs.Undoing.{IsGuarded, AreBelow}
use Rattle.etx_stack.proofs.Histories.{Keeps-above, Keeps-needed, Keeps-marked, live-marked, at-marked, before-marked, guarded-more, guarded-pop, guarded-needed, guard-put_back, below-more, below-pop, below-last, below-needed, put_back-last, put_back-other, set-last, take-set, Same-back, Same-self, Same-then, Same-less, back-guard, back-guarded, back-items, map-pushed}
use Rattle.etx_stack.proofs.stack.Stack.take_back.Goals as goal

pub invariant_of-self : goal.invariant_of-self
invariant_of-self g c =
    let f : Taken g.row.T.Denot → ℕ × g.row.T.Denot = λ e. (e.at, e.item) in
    let popped = map-pushed f _ _ _ c.in-Some.ensures.items in
    let guarded = subst (IsGuarded c.self.inside.guard) popped c.self.invariant.1 in
    let below = subst (AreBelow c.self.inside.items.cap) popped c.self.invariant.2 in (
      subst (λ (xs : List g.row.T.Denot). c.in-Some.last.at + 1 ≤ length xs)
          (sym (c.push_reserved.ensures.items ∙ ap (λ (xs : List g.row.T.Denot). xs ++ c.in-Some.last.item ∷ []) c.truncate.ensures.items))
          (guard-put_back _ (f c.in-Some.last) _ c.self.inside.items.items guarded c.self.invariant.0),
      guarded-pop _ _ _ guarded,
      below-more _ c.self.inside.items.cap _ (omega (arith, c.push_reserved.ensures.capacity, c.truncate.ensures.capacity)) (below-pop _ _ _ below),
    )

pub returns-in-Some-clause-same : goal.returns-in-Some-clause-same
returns-in-Some-clause-same g c =
    let f : Taken g.row.T.Denot → ℕ × g.row.T.Denot = λ e. (e.at, e.item) in
    let popped = map-pushed f _ _ _ c.in-Some.ensures.items in
    rw (← c.self.view_is) (Same-back _ _ (f c.in-Some.last) popped
    (c.push_reserved.ensures.items ∙ ap (λ (xs : List g.row.T.Denot). xs ++ c.in-Some.last.item ∷ []) c.truncate.ensures.items) refl)

pub push_reserved-requires : goal.push_reserved-requires
push_reserved-requires g c =
    let f : Taken g.row.T.Denot → ℕ × g.row.T.Denot = λ e. (e.at, e.item) in
    let popped = map-pushed f _ _ _ c.in-Some.ensures.items in
    let below = below-last _ (f c.in-Some.last) _ (subst (AreBelow c.self.inside.items.cap) popped c.self.invariant.2) in
    omega (arith, c.truncate.ensures.capacity, c.truncate.ensures.len)

pub overflow_add-self : goal.overflow_add-self
overflow_add-self g c =
    let f : Taken g.row.T.Denot → ℕ × g.row.T.Denot = λ e. (e.at, e.item) in
    let popped = map-pushed f _ _ _ c.in-Some.ensures.items in
    let below : c.in-Some.last.at < c.self.inside.items.cap = below-last _ (f c.in-Some.last) _ (subst (AreBelow c.self.inside.items.cap) popped c.self.invariant.2) in
    let small : c.self.inside.items.cap < 2 ^ 63 = c.self.inside.items.small in
    omega arith
