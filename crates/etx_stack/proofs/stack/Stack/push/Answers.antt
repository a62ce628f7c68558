use Rattle.std.proofs.Common.{◌≡◌, ℕ, ◌+◌, ◌-◌, ◌≤◌, ◌<◌, List, [], ◌∷◌, ◌++◌, length, take, drop, map, refl, sym, ◌∙◌, ap, subst, arith}
use Rattle.std.proofs.lemmas.List.{take-append-le, take-take, take_all, length-map}
use Rattle.etx_stack.specs.declared.stack.Taken.{Taken}
use Rattle.etx_stack.specs.Undoing.{IsGuarded, AreBelow}
use Rattle.etx_stack.proofs.Histories.{Keeps-above, Keeps-needed, Keeps-marked, live-marked, at-marked, before-marked, guarded-more, guarded-pop, guarded-needed, guard-put_back, below-more, below-pop, below-last, below-needed, put_back-last, put_back-other, set-last, take-set, Same-back, Same-self, Same-then, Same-less, back-guard, back-guarded, back-items, map-pushed}
use Rattle.etx_stack.proofs.stack.Stack.push.Goals as goal

pub invariant_of-self : goal.invariant_of-self
invariant_of-self g c = (omega (arith, c.self.invariant.0, c.push.ensures.lower_bound, c.push.new.self.ok.0, c.self.inside.items.ok.0), c.self.invariant.1, below-more _ c.self.inside.items.cap _ c.push.ensures.capacity c.self.invariant.2)

pub invariant_of-self-2 : goal.invariant_of-self-2
invariant_of-self-2 g c = (omega (arith, c.self.invariant.0, c.push.ensures.lower_bound, c.push.new.self.ok.0, c.self.inside.items.ok.0), c.self.invariant.1, below-more _ c.self.inside.items.cap _ c.push.ensures.capacity c.self.invariant.2)

pub returns-clause-kept : goal.returns-clause-kept
returns-clause-kept g c = rw (← c.self.view_is) (Keeps-above _ _ refl refl c.self.invariant.1
    (ap (take c.self.inside.guard) c.in_ok-push.ensures.items ∙ take-append-le c.self.inside.guard _ _ c.self.invariant.0))
