-- What the words of the command line mean: a history and a status.
use Rattle.std.specs.Prelude.{◌≡◌, ℕ, suc, Bool, true, false, List, [], ◌∷◌, ◌++◌, Some, MatchOption, codes}
use Rattle.etx_outside.specs.Entries.{Files, Asked, History, shown}
use Rattle.etx_outside.specs.Outside.{Outside, after, Faults}
use Rattle.etx_outside.specs.Faults.{Rose}
use Rattle.etx_matter.specs.Jobs.{JobState}
use Rattle.etx_matter.specs.declared.end.End.{End}
use Rattle.etx_matter.specs.declared.end.End.TheVariants as end
use Rattle.etx_matter.specs.declared.end.Status.{Status}
use Rattle.etx_matter.specs.declared.end.Status.TheVariants.{Clean, Errors, Stopped, Spent, Usage, ReadFault, WriteFault, OutOfMemory}
use Rattle.etx_job.specs.Chain.{Start, World, chain, IsMean}
use Rattle.etx_job.specs.Words.{job_asked}

pub record Meaning : Type 0 where
  pub history : History
  pub status : Status

abbrev pub ended_status : Bool → Status
ended_status true = Errors
ended_status false = Clean

-- the answer for an end, with or without an error before it
abbrev pub status_of : End → Bool → Status
status_of end.Ended has_erred = ended_status has_erred
status_of (end.Fatal why) has_erred = Stopped
status_of end.Hundred has_erred = Stopped
status_of (end.Capacity limit) has_erred = Stopped
status_of end.Spent has_erred = Spent
status_of end.Unbuilt has_erred = Stopped

-- no fault and not want of memory
abbrev pub IsEnding : Status → Type 0
IsEnding Clean = Unit {0}
IsEnding Errors = Unit {0}
IsEnding Stopped = Unit {0}
IsEnding Spent = Unit {0}
IsEnding Usage = Unit {0}
IsEnding ReadFault = ⊥
IsEnding WriteFault = ⊥
IsEnding OutOfMemory = ⊥

-- an answer to words of no known form
abbrev pub IsRefusal : Status → Type 0
IsRefusal Clean = ⊥
IsRefusal Errors = ⊥
IsRefusal Stopped = ⊥
IsRefusal Spent = ⊥
IsRefusal Usage = Unit {0}
IsRefusal ReadFault = ⊥
IsRefusal WriteFault = Unit {0}
IsRefusal OutOfMemory = Unit {0}

-- none of the three counts of faults rose
pub record NoneRose (old new : Faults) : Type 0 where
  pub reads : Rose old.reads new.reads → ⊥
  pub writes : Rose old.writes new.writes → ⊥
  pub says : Rose old.says new.says → ⊥

abbrev pub usage_line : List ℕ
usage_line = codes "usage: etx run|alone [--workers N] [--steps N] FILE, etx gen N\n"

abbrev pub start_of : JobState → Files → Start
start_of job files = record { job = job; files = files }

-- words of no known form: the usage line is shown, and nothing else happens
abbrev pub usage : Meaning
usage = record { history = shown usage_line; status = Usage }

-- a job: what its last world has done, and how it ended
pub record IsMeaningOfJob (start : Start) (m : Meaning) : Type 0 where
  pub world : World
  pub mean : IsMean start world
  pub end : End
  pub ends : world.end ≡ Some end
  pub is : m ≡ record { history = world.trace; status = status_of end world.pen.has_erred }

-- the meaning of these words over these files
abbrev pub IsMeaning : List (List ℕ) → Files → Meaning → Type 0
IsMeaning words files m = MatchOption (job_asked words) (m ≡ usage) (λ job. IsMeaningOfJob (start_of job files) m)

-- all that a world of the chain has done was done, and then the name was asked for that its next step asks for
pub record AtAsk (start : Start) (first now : Outside) : Type 0 where
  pub turns : ℕ
  pub name : List ℕ
  pub asks : (chain start (suc turns)).trace ≡ (chain start turns).trace ++ Asked name ∷ []
  pub now_is : now ≡ after ((chain start turns).trace ++ Asked name ∷ []) first
