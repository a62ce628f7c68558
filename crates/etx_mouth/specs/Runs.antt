-- Quiet turns of the mouth, one after the other, each within a budget, and the turn at which they halt.
use Rattle.std.specs.Prelude.{◌≡◌, ℕ, zero, suc, ◌<◌, ◌≤◌}
use Rattle.etx_matter.specs.declared.end.End.TheVariants as end
use Rattle.etx_mouth.specs.declared.yields.Yield.{Yield}
use Rattle.etx_mouth.specs.declared.yields.Yield.TheVariants.{Quiet, Act, Load, Done}
use Rattle.etx_mouth.specs.declared.yields.Halt.{Halt}
use Rattle.etx_mouth.specs.declared.yields.Halt.TheVariants as halt
use Rattle.etx_mouth.specs.Mouths.{MouthState}
use Rattle.etx_mouth.specs.Turn.{Turned, turned, turn_of}
use Rattle.etx_mouth.specs.Measure.{Goes}

-- one turn that yields nothing and stays within the budget
pub record IsQuiet (budget : ℕ) (old new : MouthState) : Type 0 where
  pub did : (turn_of old).did ≡ Quiet
  pub within : (turn_of old).now.machine.spent ≤ budget
  pub now : new ≡ (turn_of old).now

abbrev pub RunsIn : ℕ → ℕ → MouthState → MouthState → Type 0
RunsIn budget zero old new = new ≡ old
RunsIn budget (suc n) old new = (mid : MouthState) × (RunsIn budget n old mid × IsQuiet budget mid new)

-- some number of quiet turns lead from one mouth to the other
pub record Runs (budget : ℕ) (old new : MouthState) : Type 0 where
  pub turns : ℕ
  pub run : RunsIn budget turns old new

-- why a run halts at a turn: the turn passes the budget, or it isn't quiet
abbrev pub HaltsAt : ℕ → Turned → Halt → Type 0
HaltsAt budget t halt.Spent = budget < t.now.machine.spent
HaltsAt budget t (halt.Act d) = (t.now.machine.spent ≤ budget) × (t.did ≡ Act d)
HaltsAt budget t (halt.Load name) = (t.now.machine.spent ≤ budget) × (t.did ≡ Load name)
HaltsAt budget t (halt.Done e) = (t.now.machine.spent ≤ budget) × (t.did ≡ Done e)

-- quiet turns, and then the one at which they halt
pub record Advances (budget : ℕ) (old new : MouthState) (why : Halt) : Type 0 where
  pub last : MouthState
  pub runs : Runs budget old last
  pub now : new ≡ (turn_of last).now
  pub halts : HaltsAt budget (turn_of last) why

-- what a halt yields: a budget that is spent ends the job
abbrev pub yield_at : Halt → Yield
yield_at halt.Spent = Done end.Spent
yield_at (halt.Act d) = Act d
yield_at (halt.Load name) = Load name
yield_at (halt.Done e) = Done e

-- a run ends the job, reports an error and gives no step back, takes a step, or makes the weight less
abbrev pub RunGoes : MouthState → MouthState → Halt → Type 0
RunGoes old new why = Goes old (turned new (yield_at why))
