-- What each turn makes smaller, so that each job ends: a turn that takes no step and reports no error makes the mouth's weight
-- less.
use Rattle.std.specs.Prelude.{◌≡◌, ℕ, true, ◌+◌, ◌<◌, ◌≤◌, ◌⊎◌}
use Rattle.etx_expand.specs.Measure.{file_weight, turn_weight, weight as machine_weight}
use Rattle.etx_mouth.specs.Errors.{is_error}
use Rattle.etx_mouth.specs.Turn.{Turned}
use Rattle.etx_mouth.specs.Mouths.{MouthState}
use Rattle.etx_mouth.specs.declared.mouth.Source.{Source}
use Rattle.etx_mouth.specs.declared.mouth.Source.TheVariants.{Unasked, Absent, Refused, Reading}
use Rattle.etx_mouth.specs.declared.yields.Yield.{Yield}
use Rattle.etx_mouth.specs.declared.yields.Yield.TheVariants.{Quiet, Act, Load, Done}

-- The weight of what the mouth reads from: how many turns it may give before the machine makes one. The answer of a load adds a file,
-- or the error that there is none.
abbrev pub source_weight : Source → ℕ
source_weight (Unasked name) = turn_weight
source_weight (Absent name) = file_weight
source_weight Refused = 0
source_weight Reading = 0

abbrev pub weight : MouthState → ℕ
weight v = source_weight v.source + machine_weight v.machine

-- a step was taken, or the weight fell by this much at least
abbrev pub Falls : ℕ → MouthState → MouthState → Type 0
Falls n old new = (old.machine.spent < new.machine.spent) ⊎ ((new.machine.spent ≡ old.machine.spent) × (weight new + n ≤ weight old))

-- where a file is asked for, by more than the answer adds
abbrev pub least : Yield → ℕ
least Quiet = 1
least (Act d) = 1
least (Load name) = turn_weight
least (Done e) = 1

abbrev pub Ends : Yield → Type 0
Ends Quiet = ⊥
Ends (Act d) = ⊥
Ends (Load name) = ⊥
Ends (Done e) = Unit {0}

abbrev pub Errs : Yield → Type 0
Errs Quiet = ⊥
Errs (Act d) = is_error d ≡ true
Errs (Load name) = ⊥
Errs (Done e) = ⊥

-- a turn ends the job, reports an error and gives no step back, takes a step, or makes the weight less
abbrev pub Goes : MouthState → Turned → Type 0
Goes old t = Ends t.did ⊎ (Errs t.did × (old.machine.spent ≤ t.now.machine.spent)) ⊎ Falls (least t.did) old t.now

-- with the errors counted before and after: a step was taken, or an error was counted, or the weight fell
abbrev pub GoesOn : MouthState → ℕ → MouthState → ℕ → Type 0
GoesOn old errors new count =
    (old.machine.spent < new.machine.spent) ⊎ ((new.machine.spent ≡ old.machine.spent) × (errors < count)) ⊎ ((new.machine.spent ≡ old.machine.spent) × (count ≡ errors) × (weight new < weight old))

-- a step was taken, or an error was counted
abbrev pub CountsOn : MouthState → ℕ → MouthState → ℕ → Type 0
CountsOn old errors new count = (old.machine.spent < new.machine.spent) ⊎ ((new.machine.spent ≡ old.machine.spent) × (errors < count))

-- an answer takes no step, and adds no more than a file weighs
pub record IsAnswered (old new : MouthState) : Type 0 where
  pub spent : new.machine.spent ≡ old.machine.spent
  pub weight : weight new ≤ weight old + file_weight
