use Rattle.etx_patterns.proofs.Lookups.{no_exception_nowhere, exception_here}
use Rattle.std.proofs.Common.{sym}
use Rattle.etx_patterns.proofs.exception_list.ExceptionList.entry.Goals as goal

pub returns-in_err-at : goal.returns-in_err-at
returns-in_err-at c =
    rw (c.from_residual.ensures, ← c.self.view_is)
    (no_exception_nowhere c.self.inside.trie c.self.inside.exceptions.items c.args.path.now c.self.invariant.indexed c.in_err-at.ensures)

pub returns : goal.returns
returns c =
    rw (← c.self.view_is)
    (exception_here c.self.inside.trie c.self.inside.exceptions.items c.args.path.now c.in_ok-at.at c.entry.result c.self.invariant.indexed c.in_ok-at.ensures (sym c.entry.ensures))
