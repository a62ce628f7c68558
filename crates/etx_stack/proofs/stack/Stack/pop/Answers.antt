use Rattle.std.proofs.Common.{◌≡◌, ℕ, ◌+◌, ◌-◌, ◌≤◌, ◌<◌, List, [], ◌∷◌, ◌++◌, length, take, drop, map, refl, sym, ◌∙◌, ap, subst, arith}
use Rattle.std.proofs.lemmas.List.{take-append-le, take-take, take_all, length-map}
use Rattle.etx_stack.specs.declared.stack.Taken.{Taken}
use Rattle.etx_stack.specs.Undoing.{IsGuarded, AreBelow}
use Rattle.etx_stack.proofs.Histories.{Keeps-above, Keeps-needed, Keeps-marked, live-marked, at-marked, before-marked, guarded-more, guarded-pop, guarded-needed, guard-put_back, below-more, below-pop, below-last, below-needed, put_back-last, put_back-other, set-last, take-set, Same-back, Same-self, Same-then, Same-less, back-guard, back-guarded, back-items, map-pushed}
use Rattle.etx_stack.proofs.stack.Stack.pop.Goals as goal

pub returns-then-len-self-clause-kept : goal.returns-then-len-self-clause-kept
returns-then-len-self-clause-kept g c = rw (← c.self.view_is) (Keeps-above _ _ refl refl c.self.invariant.1
    (ap (take c.self.inside.guard) c.pop.ensures.rest ∙ take-take c.self.inside.guard _ _ (omega (arith, c.len-len.ensures, c.if-len-self.true))))
