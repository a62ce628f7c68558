use Rattle.std.proofs.lemmas.Bool.Decides.{nat_tests}
use Rattle.std.proofs.Common.{true, ◌≡◌, ◌<◌, nat_lt, length, take, refl, sym, ◌∙◌, ap, subst, arith}
use Rattle.std.proofs.lemmas.List.{take-take}
use Rattle.etx_stack.specs.Undoing.{Stacked, is_free}
use Rattle.etx_stack.proofs.Histories.{Keeps-above}
use Rattle.etx_stack.proofs.stack.Stack.drop_free.Goals as goal

pub returns-clause-kept : goal.returns-clause-kept
returns-clause-kept g c =
    let free : nat_lt c.self.inside.guard (length c.self.inside.items.items) ≡ true = subst (λ (s : Stacked g.row.T.Denot). is_free s ≡ true) (sym c.self.view_is) c.requires in
    let less : c.self.inside.guard < length c.self.inside.items.items = grind (arith, nat_tests) in
    rw (← c.self.view_is) (Keeps-above _ _ refl refl c.self.invariant.1
    (ap (take c.self.inside.guard) c.pop.ensures.rest ∙ take-take c.self.inside.guard _ _ (omega (arith, c.self.inside.items.ok.0))))
