-- The plain meaning of a job: a chain of worlds, each the step of the one before, up to an end.
use Rattle.std.specs.Prelude.{◌≡◌, ℕ, zero, suc, ◌+◌, Bool, true, false, List, [], ◌∷◌, ◌++◌, Option, Some, None, IsSome, nat_lt, if◌then◌else◌, codes}
use Rattle.etx_outside.specs.Entries.{Files, Asked, History, files_after}
use Rattle.etx_outside.specs.Loading.{load_of}
use Rattle.etx_settle.specs.Deeds.{PenState, first_pen, entries, pen_after_all}
use Rattle.etx_matter.specs.Ends.{fatal_text, limit_text}
use Rattle.etx_matter.specs.declared.deed.Audience.TheVariants.{LogAndTerminal}
use Rattle.etx_matter.specs.declared.deed.Deed.{Deed}
use Rattle.etx_matter.specs.declared.deed.Deed.TheVariants.{Fresh, Text, Error, Create}
use Rattle.etx_matter.specs.declared.end.FatalError.{FatalError}
use Rattle.etx_matter.specs.declared.end.Limit.{Limit}
use Rattle.etx_matter.specs.declared.end.End.{End}
use Rattle.etx_matter.specs.declared.end.End.TheVariants.{Ended, Fatal, Hundred, Capacity, Spent, Unbuilt}
use Rattle.etx_matter.specs.Jobs.{JobState}
use Rattle.etx_mouth.specs.Mouths.{MouthState}
use Rattle.etx_mouth.specs.declared.yields.Yield.{Yield}
use Rattle.etx_mouth.specs.declared.yields.Yield.TheVariants.{Quiet, Act, Load, Done}
use Rattle.etx_mouth.specs.Errors.{is_error}
use Rattle.etx_job.specs.Errors.{most_errors}
use Rattle.etx_mouth.specs.Turn.{turn_of, resumed, first_mouth, line_number_of}
use Rattle.etx_job.specs.Words.{log_name}

-- what there is at the beginning: the job, and what each file holds
pub record Start : Type 0 where
  pub job : JobState
  pub files : Files

-- a job between two steps: its mouth, the errors since the last paragraph ended, the pen, all that it has done to the outside,
-- and its end, if it has ended
pub record World : Type 0 where
  pub mouth : MouthState
  pub errors : ℕ
  pub pen : PenState
  pub trace : History
  pub end : Option End

-- some deeds are done
abbrev pub with_deeds : List Deed → World → World
with_deeds ds w = record w { pen = pen_after_all w.pen ds; trace = w.trace ++ entries w.pen ds }

abbrev pub printed : List ℕ → Deed
printed text = Text text LogAndTerminal

abbrev pub fresh : Deed
fresh = Fresh LogAndTerminal

-- the last line of each transcript
abbrev pub last_line : List Deed
last_line = fresh ∷ printed (codes "No pages of output.\n") ∷ []

-- a line of its own, and the last line
abbrev pub closing_by : List ℕ → List Deed
closing_by text = fresh ∷ printed text ∷ last_line

abbrev pub reason_of : FatalError → List ℕ
reason_of why = codes "*** (" ++ fatal_text why ++ codes ")\n"

-- the error that ends a job, its reason, and the last line
abbrev pub closing_fatally : FatalError → ℕ → List Deed
closing_fatally why line = Error (codes "Emergency stop") line LogAndTerminal ∷ printed (reason_of why) ∷ last_line

-- the text of a limit that would have been passed
abbrev pub full_text : Limit → List ℕ
full_text limit = codes "TeX capacity exceeded, sorry [" ++ limit_text limit ++ codes "]"

-- its error, and the last line
abbrev pub closing_full : Limit → ℕ → List Deed
closing_full limit line = Error (full_text limit) line LogAndTerminal ∷ last_line

-- what an end adds, where the line that was read last has this number
abbrev pub closing : End → ℕ → List Deed
closing Ended line = last_line
closing (Fatal why) line = closing_fatally why line
closing Hundred line = closing_by (codes "(That makes 100 errors; please try again.)\n")
closing (Capacity limit) line = closing_full limit line
closing Spent line = closing_by (codes "*** (step budget spent)\n")
closing Unbuilt line = closing_by (codes "*** (not built yet)\n")

abbrev pub ended : End → World → World
ended e w = record (with_deeds (closing e (line_number_of w.mouth)) w) { end = Some e }

-- the last error that a job may have ends it
abbrev pub unless_last : World → World
unless_last w = if nat_lt w.errors most_errors then w else ended Hundred w

abbrev pub with_error : World → World
with_error w = record w { errors = w.errors + 1 }

-- a deed is counted if it is an error
abbrev pub counted : Bool → World → World
counted false w = w
counted true w = unless_last (with_error w)

-- what a yield makes of a world: a deed is done, and then counted if it is an error
abbrev pub handled : Start → World → Yield → World
handled start w Quiet = w
handled start w (Act d) = counted (is_error d) (with_deeds (d ∷ []) w)
handled start w (Load name) = record w { mouth = resumed name w.mouth (load_of (files_after w.trace start.files name)); trace = w.trace ++ Asked name ∷ [] }
handled start w (Done e) = ended e w

-- the mouth has made a turn
abbrev pub turned_on : World → World
turned_on w = record w { mouth = (turn_of w.mouth).now }

-- a turn that would pass the budget is not made
abbrev pub step_open : Start → World → World
step_open start w = if nat_lt start.job.budget (turn_of w.mouth).now.machine.spent then ended Spent w else handled start (turned_on w) (turn_of w.mouth).did

abbrev pub step_from : Start → World → Option End → World
step_from start w None = step_open start w
step_from start w (Some e) = w

unfoldable pub step : Start → World → World
step start w = step_from start w w.end

-- the log is created, and then the main file is asked for
unfoldable pub opening : Start → World
opening start = with_deeds (Create (log_name start.job.name) ∷ []) (record {
  mouth = first_mouth start.job.name;
  errors = 0;
  pen = first_pen;
  trace = [];
  end = None;
})

unfoldable pub chain : Start → ℕ → World
chain start zero = opening start
chain start (suc n) = step start (chain start n)

-- the last world of the chain, at which the job has ended
pub record IsMean (start : Start) (w : World) : Type 0 where
  pub turns : ℕ
  pub reached : chain start turns ≡ w
  pub has_ended : IsSome w.end
