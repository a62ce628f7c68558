-- The state, as contracts see it: the mouth that it stands for.
use Rattle.std.specs.Prelude.{ℕ, List, []}
use Rattle.etx_input.specs.Levels.{InputState, Given, no_input, given_of}
use Rattle.etx_input.specs.Marks.{input_of, input_at}
use Rattle.etx_input.specs.Marks as inputs
use Rattle.etx_input.specs.declared.mark.Mark.{Mark}
use Rattle.etx_prims.specs.declared.parameters.IntParam.TheVariants.{EndLineChar}
use Rattle.etx_state.specs.declared.state.State.{State}
use Rattle.etx_state.specs.declared.scan.Entry.{Entry}
use Rattle.etx_state.specs.Reading.{category_in, int_in}
use Rattle.etx_state.specs.Rests.{RestState, rest_of, rest_at, first_rest}
use Rattle.etx_state.specs.Rests as rests
use Rattle.etx_undo.specs.declared.state_mark.StateMark.{StateMark}

-- A mouth: all that is not scanning; what is read; what it is in the middle of, the top first; and the number of steps that were
-- taken.
pub record Mouth : Type 0 where
  pub rest : RestState
  pub input : InputState
  pub entries : List Entry
  pub spent : ℕ

-- THE MEANING of a state
abbrev pub mouth_of : State → Mouth
mouth_of s = record { rest = rest_of s.rest; input = input_of s.input; entries = s.entries; spent = s.spent }

-- a mouth with one part changed
abbrev pub with_rest : RestState → Mouth → Mouth
with_rest r m = record m { rest = r }

abbrev pub with_input : InputState → Mouth → Mouth
with_input i m = record m { input = i }

abbrev pub with_entries : List Entry → Mouth → Mouth
with_entries es m = record m { entries = es }

-- INITEX's mouth at the start of a job: nothing is read yet
abbrev pub first_mouth : List ℕ → Mouth
first_mouth job = record { rest = first_rest job; input = no_input; entries = []; spent = 0 }

-- what is read next, under the categories and the \endlinechar that hold now
abbrev pub given : Mouth → Given
given m = given_of (category_in m.rest.values) (int_in m.rest.values EndLineChar) m.input

-- the part of a mark that is of what is read
abbrev pub input_mark : StateMark → Mark
input_mark m = record { levels = m.input.levels; left = m.input.left }

-- THE MEANING at a mark, where nothing was in progress
abbrev pub mouth_at : State → StateMark → Mouth
mouth_at s m = record { rest = rest_at s.rest m.rest; input = input_at s.input (input_mark m); entries = []; spent = m.spent }

-- at the mark m the state is still what it was in first, and one can go back to it
pub record IsKept (m : StateMark) (first s : State) : Type 0 where
  pub rest : rests.IsKept m.rest first.rest s.rest
  pub input : inputs.IsKept (input_mark m) first.input s.input

-- at every mark that was taken before, the state is still what it was
abbrev pub Keeps : State → State → Type 0
Keeps old new = (m : StateMark) (first : State) → IsKept m first old → IsKept m first new

-- m was taken before n
pub record IsBefore (m n : StateMark) : Type 0 where
  pub rest : rests.IsBefore m.rest n.rest
  pub input : inputs.IsBefore (input_mark m) (input_mark n)
