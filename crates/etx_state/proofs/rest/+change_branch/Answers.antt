use Rattle.std.proofs.Common.{◌≡◌, Option, Some, IsSome, ◌++◌, sym, ◌∙◌, ap, subst}
use Rattle.std.specs.Option.{option_to_list}
use Rattle.std.proofs.lemmas.Result.{on_ok_weaker}
use Rattle.etx_state.specs.declared.condition.Condition.{Condition}
use Rattle.etx_state.proofs.Conditions.{branch_none, branch_here, branch_outside}
use Rattle.etx_state.proofs.rest.+change_branch.Goals as goal

pub returns-in_default-clause-ok : goal.returns-in_default-clause-ok
returns-in_default-clause-ok t c =
    branch_none c.args.number c.args.branch c.args.conditions.now.items c.pop.new.self.items
    (c.in_ok-condition.ensures.ok ∙ ap (λ (o : Option Condition). c.pop.new.self.items ++ option_to_list o) c.in_default.is)
    (λ some. absurd (let is : IsSome (c.in_ok-condition.field-0) = c.in_ok-condition.ensures.none.1 some in let no = subst (λ (o : Option Condition). IsSome o) c.in_default.is is in cc))

pub returns-then-len-number-clause-ok : goal.returns-then-len-number-clause-ok
returns-then-len-number-clause-ok t c =
    on_ok_weaker c.push.result
    (λ put. branch_here c.args.number c.args.branch c.args.conditions.now.items c.pop.new.self.items c.push.new.self.items c.in-Some.condition
    (c.in_ok-condition.ensures.ok ∙ ap (λ (o : Option Condition). c.pop.new.self.items ++ option_to_list o) c.in-Some.is) (sym c.len-len.ensures ∙ c.if-len-number.true) put)
    c.push.ensures.ok

pub returns-clause-ok : goal.returns-clause-ok
returns-clause-ok t c =
    on_ok_weaker c.push-2.result
    (λ put. branch_outside c.args.number c.args.branch c.args.conditions.now.items c.pop.new.self.items c.change_branch.new.conditions.items c.push-2.new.self.items c.in-Some.condition
    (c.in_ok-condition.ensures.ok ∙ ap (λ (o : Option Condition). c.pop.new.self.items ++ option_to_list o) c.in-Some.is) (λ e. c.if-len-number.false (c.len-len.ensures ∙ e)) c.in_ok-change_branch.ensures.ok put)
    c.push-2.ensures.ok
