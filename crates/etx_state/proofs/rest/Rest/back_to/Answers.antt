use Rattle.std.proofs.Common.{◌≡◌, refl, ◌∙◌}
use Rattle.etx_state.proofs.Marks.{rest_kept, back_rest, back_before}
use Rattle.etx_state.proofs.rest.Rest.back_to.Goals as goal

pub back_to-requires : goal.back_to-requires
back_to-requires c = c.requires.scopes

pub back_to-requires-2 : goal.back_to-requires-2
back_to-requires-2 c = c.requires.conditions.live

pub returns-clause-rest : goal.returns-clause-rest
returns-clause-rest c = back_rest c.args.self.now (record { alloc = c.args.self.now.alloc; scopes = c.back_to.new.self; names = c.truncate.new.self; conditions = c.back_to-2.new.self; job = c.args.self.now.job; mag = c.args.mark.mag }) c.args.mark c.truncate.ensures c.back_to-2.ensures.now refl refl c.back_to.ensures.values

pub returns-clause-first : goal.returns-clause-first
returns-clause-first c = λ first h. back_rest c.args.self.now (record { alloc = c.args.self.now.alloc; scopes = c.back_to.new.self; names = c.truncate.new.self; conditions = c.back_to-2.new.self; job = c.args.self.now.job; mag = c.args.mark.mag }) c.args.mark c.truncate.ensures c.back_to-2.ensures.now refl refl c.back_to.ensures.values ∙ rest_kept c.args.mark first c.args.self.now h

pub returns-clause-kept : goal.returns-clause-kept
returns-clause-kept c = back_before c.args.self.now _ c.args.mark c.truncate.ensures refl c.requires.named c.back_to-2.ensures.kept c.back_to.ensures.kept
