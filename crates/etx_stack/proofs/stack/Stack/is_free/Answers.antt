use Rattle.std.proofs.lemmas.Bool.Decides.{nat_tests}
use Rattle.std.proofs.Common.{true, ◌≡◌, ◌-◌, ◌<◌, ◌≤◌, nat_lt, length, refl, sym, subst, arith}
use Rattle.etx_stack.specs.Undoing.{Stacked, is_free}
use Rattle.etx_stack.proofs.Histories.{Keeps-above, take-set}
use Rattle.etx_stack.proofs.stack.Stack.is_free.Goals as goal

pub returns-clause-changes : goal.returns-clause-changes
returns-clause-changes g c = λ yes item.
    let v = c.self.inside.items in
    let free : nat_lt c.self.inside.guard (length v.items) ≡ true = subst (λ (s : Stacked g.row.T.Denot). is_free s ≡ true) (sym c.self.view_is) yes in
    let less : c.self.inside.guard < length v.items = grind (arith, nat_tests) in
    let low : c.self.inside.guard ≤ length v.items - 1 = omega arith in
    rw (← c.self.view_is) (Keeps-above _ _ refl refl c.self.invariant.1 (take-set v.items c.self.inside.guard (length v.items - 1) item low))
