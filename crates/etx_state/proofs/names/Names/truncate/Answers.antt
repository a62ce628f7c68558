use Rattle.etx_state.proofs.Naming.{taken, taken_invariant}
use Rattle.etx_state.proofs.names.Names.truncate.Goals as goal

pub invariant_of-self : goal.invariant_of-self
invariant_of-self c = taken_invariant (λ t. t.items) 1048576 c.args.len c.self.inside.texts.keys c.truncate.new.self.keys c.truncate.ensures.keys c.self.invariant

pub returns : goal.returns
returns c = rw (← c.self.view_is) (taken (λ t. t.items) c.args.len c.self.inside.texts.keys c.truncate.new.self.keys c.truncate.ensures.keys)
