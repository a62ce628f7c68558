-- Calls that keep what the state was at marks.
use Rattle.std.proofs.Common.{◌≡◌, sym, subst}
use Rattle.etx_input.specs.Marks as inputs
use Rattle.etx_state.specs.declared.state.State.{State}
use Rattle.etx_state.specs.Rests as rests
use Rattle.etx_state.specs.Mouths.{Keeps}

-- a call of the input alone
pub keeps_input : (old new : State) → new.rest ≡ old.rest → inputs.Keeps old.input new.input → Keeps old new
keeps_input old new e input m first h = record { rest = subst (rests.IsKept m.rest first.rest) (sym e) h.rest; input = input _ first.input h.input }

-- a call of the rest alone
pub keeps_rest : (old new : State) → rests.Keeps old.rest new.rest → new.input ≡ old.input → Keeps old new
keeps_rest old new rest e m first h = record { rest = rest m.rest first.rest h.rest; input = subst (inputs.IsKept _ first.input) (sym e) h.input }
