-- A fault at a write, as a flush tells it.
use Rattle.etx_outside.specs.declared.tree.TreeFault.{TreeFault}
use Rattle.etx_outside.specs.declared.terminal.TermFault.{TermFault}
use Rattle.etx_settle.specs.declared.fault.FlushFault.{FlushFault}
use Rattle.etx_settle.specs.declared.fault.FlushFault.TheVariants.{WriteFault, OutOfMemory}
use Rattle.etx_outside.specs.declared.tree.TreeFault.TheVariants as tree
use Rattle.etx_outside.specs.declared.terminal.TermFault.TheVariants as terminal

abbrev pub of_tree : TreeFault → FlushFault
of_tree tree.Failed = WriteFault
of_tree tree.OutOfMemory = OutOfMemory

abbrev pub of_terminal : TermFault → FlushFault
of_terminal terminal.Failed = WriteFault
of_terminal terminal.OutOfMemory = OutOfMemory
