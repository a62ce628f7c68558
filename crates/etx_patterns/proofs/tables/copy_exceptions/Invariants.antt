use Rattle.std.proofs.Common.{◌≡◌, take}
use Rattle.etx_patterns.proofs.tables.copy_exceptions.Given as goal

abbrev pub invariant-loop-exception : goal.invariant-loop-exception
invariant-loop-exception l = l.copies.items ≡ take l.exception-index l.exceptions
