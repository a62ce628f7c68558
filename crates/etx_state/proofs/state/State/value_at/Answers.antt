use Rattle.etx_state.proofs.state.State.value_at.Goals as goal

pub value_at-requires : goal.value_at-requires
value_at-requires c = c.requires.rest
