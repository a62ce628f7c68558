-- The mouth of a job, as contracts see it: what it reads from, and its machine.
use Rattle.etx_state.specs.declared.state.State.{State}
use Rattle.etx_state.specs.Mouths.{Mouth, mouth_of}
use Rattle.etx_mouth.specs.declared.mouth.Source.{Source}

pub record MouthState : Type 0 where
  pub source : Source
  pub machine : Mouth

abbrev pub mouth_at : Source → Mouth → MouthState
mouth_at source m = record { source = source; machine = m }

-- what the mouth of the program holds
pub data Held : Type 0 where
  hold : Source → State → Held

-- what it stands for
unfoldable pub state_of : Held → MouthState
state_of (hold source state) = mouth_at source (mouth_of state)
