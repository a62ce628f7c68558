use Rattle.std.proofs.Common.{◌≡◌, refl, sym, ◌∙◌, ap, subst}
use Rattle.etx_stack.specs.declared.stack.Mark.{Mark}
use Rattle.etx_stack.specs.Undoing as undoing
use Rattle.etx_state.proofs.Marks.{marked_rest, marked_live, marked_before}
use Rattle.etx_state.proofs.rest.Rest.mark.Goals as goal

pub returns-clause-live : goal.returns-clause-live
returns-clause-live c = marked_live c.args.self.now _ _ refl (c.mark.ensures.names ∙ c.len-names.ensures.len) (rw c.mark.ensures.conditions c.mark-conditions.ensures.live) c.mark.ensures.live

pub returns-clause-rest : goal.returns-clause-rest
returns-clause-rest c = marked_rest c.args.self.now (record { alloc = c.args.self.now.alloc; scopes = c.mark.new.self; names = c.args.self.now.names; conditions = c.mark-conditions.new.self; job = c.args.self.now.job; mag = c.args.self.now.mag }) c.mark.result refl (c.mark.ensures.names ∙ c.len-names.ensures.len) (ap (λ (k : Mark). undoing.at c.mark-conditions.new.self k) c.mark.ensures.conditions ∙ c.mark-conditions.ensures.now) c.mark.ensures.mag c.mark.ensures.values

pub returns-clause-before : goal.returns-clause-before
returns-clause-before c = marked_before c.args.self.now _ (c.mark.ensures.names ∙ c.len-names.ensures.len) (rw c.mark.ensures.conditions c.mark-conditions.ensures.last) c.mark.ensures.before
