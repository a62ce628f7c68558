use Rattle.etx_state.proofs.state.State.back_to.Goals as goal

pub back_to-requires : goal.back_to-requires
back_to-requires c = c.requires.rest

pub back_to-requires-2 : goal.back_to-requires-2
back_to-requires-2 c = c.requires.input

pub returns-clause-mouth : goal.returns-clause-mouth
returns-clause-mouth c = λ i. record {
  rest = c.back_to.ensures.rest i;
  input = c.back_to-2.ensures.input c.args.self.now.input c.requires.input i;
  entries = c.clear.ensures i;
  spent = c.args.mark.spent;
}

pub returns-clause-first : goal.returns-clause-first
returns-clause-first c = λ first h i. record {
  rest = c.back_to.ensures.first first.rest h.rest i;
  input = c.back_to-2.ensures.input first.input h.input i;
  entries = c.clear.ensures i;
  spent = c.args.mark.spent;
}

pub returns-clause-kept : goal.returns-clause-kept
returns-clause-kept c = λ m first b h. record { rest = c.back_to.ensures.kept m.rest first.rest b.rest h.rest; input = c.back_to-2.ensures.kept _ first.input b.input h.input }
