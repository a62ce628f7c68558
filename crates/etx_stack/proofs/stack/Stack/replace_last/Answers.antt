use Rattle.std.proofs.Common.{◌≡◌, ℕ, ◌+◌, ◌-◌, ◌≤◌, ◌<◌, List, [], ◌∷◌, ◌++◌, length, take, drop, map, slice_set, refl, sym, ◌∙◌, ap, subst, arith}
use Rattle.std.proofs.lemmas.List.{take-append-le, take-take, take_all, length-map}
use Rattle.etx_stack.specs.declared.stack.Taken.{Taken}
use Rattle.etx_stack.specs.Undoing.{Stacked, IsGuarded, AreBelow}
use Rattle.etx_stack.proofs.Histories.{Keeps-above, Keeps-needed, Keeps-marked, live-marked, at-marked, before-marked, guarded-more, guarded-pop, guarded-needed, guard-put_back, below-more, below-pop, below-last, below-needed, put_back-last, put_back-other, set-last, take-set, Same-back, Same-self, Same-then, Same-less, back-guard, back-guarded, back-items, map-pushed}
use Rattle.etx_stack.proofs.stack.Stack.replace_last.Goals as goal

pub returns-clause-ok : goal.returns-clause-ok
returns-clause-ok g c =
    let some : 0 < length c.self.inside.items.items = subst (λ (s : Stacked g.row.T.Denot). 0 < length s.items) (sym c.self.view_is) c.requires in
    let n : c.len-at.result ≡ length c.self.inside.items.items = c.len-at.ensures ∙ c.self.inside.items.ok.0 in
    rw (← c.self.view_is) (subst (λ (m : ℕ). slice_set c.self.inside.items.items (c.len-at.result - 1) c.args.item ≡ take (m - 1) c.self.inside.items.items ++ c.args.item ∷ []) n
    (set-last c.self.inside.items.items (c.len-at.result - 1) c.args.item (omega arith)))

pub returns-clause-kept : goal.returns-clause-kept
returns-clause-kept g c = rw (← c.self.view_is) (Keeps-above _ _ refl refl c.self.invariant.1
    (take-set c.self.inside.items.items c.self.inside.guard _ _ (omega (arith, c.if-at-self.false))))
