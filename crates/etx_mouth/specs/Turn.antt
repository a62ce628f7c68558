-- One turn of the mouth of a job: it asks for the main file, and then its machine reads it.
use Rattle.std.specs.Prelude.{ℕ, List, ◌++◌, codes}
use Rattle.etx_outside.specs.Names.{job_name_of}
use Rattle.etx_outside.specs.declared.tree.Loaded.{Loaded}
use Rattle.etx_outside.specs.declared.tree.Loaded.TheVariants as loaded
use Rattle.etx_matter.specs.declared.deed.Audience.TheVariants.{LogAndTerminal}
use Rattle.etx_matter.specs.declared.deed.Deed.TheVariants.{Error}
use Rattle.etx_matter.specs.declared.end.End.TheVariants.{Fatal}
use Rattle.etx_matter.specs.declared.end.FatalError.TheVariants.{FileError}
use Rattle.etx_input.specs.Files.{unread}
use Rattle.etx_input.specs.Levels.{with_file, line_number}
use Rattle.etx_state.specs.Mouths.{Mouth, first_mouth as first_machine, with_input}
use Rattle.etx_answers.specs.declared.plan.Turned.{Turned as Came}
use Rattle.etx_answers.specs.declared.plan.Turned.TheVariants as came
use Rattle.etx_expand.specs.Moves.{After}
use Rattle.etx_mouth.specs.declared.mouth.Source.{Source}
use Rattle.etx_mouth.specs.declared.mouth.Source.TheVariants.{Unasked, Absent, Refused, Reading}
use Rattle.etx_mouth.specs.declared.yields.Yield.{Yield}
use Rattle.etx_mouth.specs.declared.yields.Yield.TheVariants.{Quiet, Act, Load, Done}
use Rattle.etx_mouth.specs.Mouths.{MouthState, mouth_at}
use Rattle.etx_mouth.specs.Machine.{machine_turn}

-- the mouth behind a turn, and what the turn yields
pub record Turned : Type 0 where
  pub now : MouthState
  pub did : Yield

abbrev pub turned : MouthState → Yield → Turned
turned v did = record { now = v; did = did }

-- the mouth of INITEX, which is to read the main file
unfoldable pub first_mouth : List ℕ → MouthState
first_mouth name = mouth_at (Unasked name) (first_machine (job_name_of name))

-- the number of the line that was read last, or 0
unfoldable pub line_number_of : MouthState → ℕ
line_number_of v = line_number v.machine.input

-- what a turn of the machine yields
abbrev pub yield_of : Came → Yield
yield_of came.Again = Quiet
yield_of (came.Deed d) = Act d
yield_of (came.End e) = Done e

abbrev pub machine_turned : After → Turned
machine_turned a = turned (mouth_at Reading a.now) (yield_of a.turned)

abbrev pub cant_find : List ℕ → List ℕ
cant_find name = codes "I can't find file `" ++ name ++ codes "'"

-- A line for each source. The main file is asked for first; what it holds comes by its answer.
abbrev pub source_turn : Source → Mouth → Turned
source_turn (Unasked name) m = turned (mouth_at Reading m) (Load name)
source_turn (Absent name) m = turned (mouth_at Refused m) (Act (Error (cant_find name) 0 LogAndTerminal))
source_turn Refused m = turned (mouth_at Refused m) (Done (Fatal FileError))
source_turn Reading m = machine_turned (machine_turn m)

unfoldable pub turn_of : MouthState → Turned
turn_of v = source_turn v.source v.machine

-- the answer of the load of this name: a text is read before all else, from its beginning
abbrev pub answered : List ℕ → Loaded → Mouth → MouthState
answered name loaded.Absent m = mouth_at (Absent name) m
answered name loaded.TooLong m = mouth_at Refused m
answered name (loaded.Bytes text) m = mouth_at Reading (with_input (with_file (unread text) m.input) m)

-- the mouth takes the answer of the load of a name
unfoldable pub resumed : List ℕ → MouthState → Loaded → MouthState
resumed name v loaded = answered name loaded v.machine
