-- How far the program has come with the chain of its job. The proofs need these words; nothing that is promised stands here.
use Rattle.std.specs.Prelude.{◌≡◌, Bool, ℕ, suc, List, ◌++◌, Option, Some, None}
use Rattle.etx_outside.specs.Entries.{History}
use Rattle.etx_outside.specs.Outside.{Outside, after, Front}
use Rattle.etx_settle.specs.Deeds.{JournalState, entries, pen_after_all}
use Rattle.etx_matter.specs.declared.deed.Deed.{Deed}
use Rattle.etx_matter.specs.declared.end.End.{End}
use Rattle.etx_mouth.specs.Mouths.{MouthState}
use Rattle.etx_mouth.specs.declared.yields.Yield.TheVariants.{Act, Load}
use Rattle.etx_job.specs.Chain.{Start, World, IsMean, handled, chain}

-- the journal has these deeds more to write
abbrev pub more_waiting : JournalState → List Deed → JournalState
more_waiting journal ds = record journal { waiting = journal.waiting ++ ds }

-- the world that a mouth, a count of errors and a journal stand for, where this much was written before what waits
abbrev pub world_of : MouthState → ℕ → JournalState → History → Option End → World
world_of mouth errors journal done end = record { mouth = mouth; errors = errors; pen = pen_after_all journal.pen journal.waiting; trace = done ++ entries journal.pen journal.waiting; end = end }

-- The mouth, the count of errors and the journal stand for a world of the chain, but for what waits: so far the outside has what came before.
pub record Going (start : Start) (first : Outside) (mouth : MouthState) (errors : ℕ) (journal : JournalState) (now : Outside) : Type 0 where
  pub turns : ℕ
  pub done : History
  pub at : chain start turns ≡ world_of mouth errors journal done None
  pub now_is : now ≡ after done first

-- the journal stands for the last world of the chain, which has ended so, but for what waits
pub record Over (start : Start) (first : Outside) (journal : JournalState) (end : End) (now : Outside) : Type 0 where
  pub turns : ℕ
  pub mouth : MouthState
  pub errors : ℕ
  pub done : History
  pub at : chain start turns ≡ world_of mouth errors journal done (Some end)
  pub now_is : now ≡ after done first

-- what stands after a turn
abbrev pub AfterTurn : Option End → Start → Outside → MouthState → ℕ → JournalState → Outside → Type 0
AfterTurn None start first mouth errors journal now = Going start first mouth errors journal now
AfterTurn (Some end) start first mouth errors journal now = Over start first journal end now

-- the job's files are those with which it began
abbrev pub IsFor : Start → Outside → Type 0
IsFor start first = start.files ≡ first.files

-- the mouth has made a turn that asks for a name, and the world's next step answers it
pub record Asks (start : Start) (first : Outside) (mouth : MouthState) (errors : ℕ) (journal : JournalState) (name : List ℕ) (now : Outside) : Type 0 where
  pub turns : ℕ
  pub done : History
  pub next : chain start (suc turns) ≡ handled start (world_of mouth errors journal done None) (Load name)
  pub now_is : now ≡ after done first
  pub at : (chain start turns).trace ≡ done ++ entries journal.pen journal.waiting

-- the mouth has made a turn that yields a deed, and the world's next step does it
pub record Acts (start : Start) (first : Outside) (mouth : MouthState) (errors : ℕ) (journal : JournalState) (deed : Deed) (now : Outside) : Type 0 where
  pub turns : ℕ
  pub done : History
  pub next : chain start (suc turns) ≡ handled start (world_of mouth errors journal done None) (Act deed)
  pub now_is : now ≡ after done first

-- some first entries of a world of the chain were written
pub record Cut (start : Start) (first now : Outside) : Type 0 where
  pub turns : ℕ
  pub front : Front (chain start turns).trace first now

-- the chain has ended so, with or without an error, and all that it did was done
pub record Settled (start : Start) (end : End) (has_erred : Bool) (first now : Outside) : Type 0 where
  pub world : World
  pub mean : IsMean start world
  pub end_is : world.end ≡ Some end
  pub erred_is : world.pen.has_erred ≡ has_erred
  pub now_is : now ≡ after world.trace first
