use Rattle.std.proofs.Common.{◌≡◌, ◌<◌, ◌≤◌, ◌-◌, ◌+◌, ◌*◌}
use Rattle.etx_outside.specs.Outside.{Outside, outside_of, faults_of, NoneFell}
use Rattle.etx_settle.specs.Deeds.{AllOpen}
use Rattle.etx_mouth.specs.Mouths.{state_of}
use Rattle.etx_job.specs.Chain.{Start}
use Rattle.etx_job.specs.Going.{IsFor, Going}
use Rattle.etx_job.proofs.driver.go_to_end.Given as goal

abbrev pub invariant-counts : goal.invariant-counts
invariant-counts g l =
    let seen = outside_of g.F.Tree.files g.F.Tree.asked g.T.Terminal.text in
    let faults = faults_of g.F.Tree.faults g.T.Terminal.faults in
    record {
      within : (state_of l.mouth).machine.spent ≤ l.budget;
      few : l.errors < 100;
      opened : AllOpen (g.F.Tree.is_open l.tree) l.journal.pen.created;
      later : NoneFell (faults l.fn.tree l.fn.terminal) (faults l.tree l.terminal);
      steady : g.F.Tree.counts_only_faults → g.T.Terminal.counts_only_faults → faults l.tree l.terminal ≡ faults l.fn.tree l.fn.terminal;
      going : g.F.Tree.tells → g.T.Terminal.tells → (start : Start) (first : Outside) → IsFor start first → start.job.budget ≡ l.budget → Going start first (state_of l.fn.mouth) l.fn.errors l.fn.journal (seen l.fn.tree l.fn.terminal) → Going start first (state_of l.mouth) l.errors l.journal (seen l.tree l.terminal);
    }

-- a step outweighs all errors that may still come
abbrev pub decreases-counts : goal.decreases-counts
decreases-counts g l = (l.budget - (state_of l.mouth).machine.spent) * 101 + (100 - l.errors)
