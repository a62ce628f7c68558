use Rattle.std.proofs.Common.{sym}
use Rattle.etx_state.proofs.state.State.mark.Goals as goal

pub returns-clause-same : goal.returns-clause-same
returns-clause-same c = λ i. record {
  rest = c.mark-rest.ensures.same i;
  input = c.mark-input.ensures.same i;
  entries = c.args.self.now.entries;
  spent = c.args.self.now.spent;
}

pub returns-clause-live : goal.returns-clause-live
returns-clause-live c = record { rest = c.mark-rest.ensures.live; input = c.mark-input.ensures.live }

pub returns-clause-mouth : goal.returns-clause-mouth
returns-clause-mouth c = λ i. record {
  rest = c.mark-rest.ensures.rest i;
  input = c.mark-input.ensures.now i;
  entries = sym c.requires i;
  spent = c.args.self.now.spent;
}

pub returns-clause-kept : goal.returns-clause-kept
returns-clause-kept c = λ m first h. record { rest = c.mark-rest.ensures.kept m.rest first.rest h.rest; input = c.mark-input.ensures.kept _ first.input h.input }

pub returns-clause-before : goal.returns-clause-before
returns-clause-before c = λ m first h. record { rest = c.mark-rest.ensures.before m.rest first.rest h.rest; input = c.mark-input.ensures.before _ first.input h.input }
