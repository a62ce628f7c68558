use Rattle.std.proofs.Common.{◌≡◌, ◌++◌, drop, List, length}
use Rattle.etx_outside.specs.Entries.{History}
use Rattle.etx_outside.specs.Outside.{outside_of, after, faults_of, NoneFell}
use Rattle.etx_settle.specs.Deeds.{entries, pen_after_all, AllOpen}
use Rattle.etx_settle.proofs.Flushing.{Settling}
use Rattle.etx_settle.proofs.journal.settle_all.Given as goal

abbrev pub invariant-loop-deed : goal.invariant-loop-deed
invariant-loop-deed g l =
    let seen = outside_of g.F.Tree.files g.F.Tree.asked g.T.Terminal.text in
    let faults = faults_of g.F.Tree.faults g.T.Terminal.faults in
    record {
      pen : pen_after_all l.pen (drop l.deed-index l.deeds) ≡ pen_after_all l.fn.pen l.deeds;
      opened : AllOpen (g.F.Tree.is_open l.tree) l.pen.created;
      later : NoneFell (faults l.fn.tree l.fn.terminal) (faults l.tree l.terminal);
      steady : g.F.Tree.counts_only_faults → g.T.Terminal.counts_only_faults → faults l.tree l.terminal ≡ faults l.fn.tree l.fn.terminal;
      written : g.F.Tree.tells → g.T.Terminal.tells → Settling (entries l.fn.pen l.deeds) (entries l.pen (drop l.deed-index l.deeds)) (seen l.fn.tree l.fn.terminal) (seen l.tree l.terminal);
    }
