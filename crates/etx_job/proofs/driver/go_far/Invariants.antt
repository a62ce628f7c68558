use Rattle.std.proofs.Common.{◌≡◌, ◌<◌, ◌≤◌}
use Rattle.etx_outside.specs.Outside.{Outside, outside_of, faults_of, NoneFell}
use Rattle.etx_settle.specs.Deeds.{AllOpen}
use Rattle.etx_mouth.specs.Mouths.{state_of}
use Rattle.etx_mouth.specs.Measure.{weight}
use Rattle.etx_job.specs.Chain.{Start}
use Rattle.etx_job.specs.Going.{IsFor, Going}
use Rattle.etx_job.proofs.driver.go_far.Given as goal

abbrev pub invariant-free : goal.invariant-free
invariant-free g l =
    let seen = outside_of g.F.Tree.files g.F.Tree.asked g.T.Terminal.text in
    let faults = faults_of g.F.Tree.faults g.T.Terminal.faults in
    record {
      same : (state_of l.mouth).machine.spent ≡ l.before;
      uncounted : l.errors ≡ l.counted;
      since : l.before ≡ (state_of l.fn.mouth).machine.spent;
      counted : l.counted ≡ l.fn.errors;
      within : (state_of l.mouth).machine.spent ≤ l.budget;
      few : l.errors < 100;
      opened : AllOpen (g.F.Tree.is_open l.tree) l.journal.pen.created;
      later : NoneFell (faults l.fn.tree l.fn.terminal) (faults l.tree l.terminal);
      steady : g.F.Tree.counts_only_faults → g.T.Terminal.counts_only_faults → faults l.tree l.terminal ≡ faults l.fn.tree l.fn.terminal;
      going : g.F.Tree.tells → g.T.Terminal.tells → (start : Start) (first : Outside) → IsFor start first → start.job.budget ≡ l.budget → Going start first (state_of l.fn.mouth) l.fn.errors l.fn.journal (seen l.fn.tree l.fn.terminal) → Going start first (state_of l.mouth) l.errors l.journal (seen l.tree l.terminal);
    }

abbrev pub decreases-free : goal.decreases-free
decreases-free g l = weight (state_of l.mouth)
