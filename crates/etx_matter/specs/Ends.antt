-- The texts and the numbers of ends.
use Rattle.std.specs.Prelude.{ℕ, List, codes}
use Rattle.etx_matter.specs.declared.end.FatalError.{FatalError}
use Rattle.etx_matter.specs.declared.end.FatalError.TheVariants.{NoLegalEnd, FileError}
use Rattle.etx_matter.specs.declared.end.Limit.{Limit}
use Rattle.etx_matter.specs.declared.end.Limit.TheVariants.{Names, Groups, InputLevels, Scans, Conditionals}
use Rattle.etx_matter.specs.declared.end.Status.{Status}
use Rattle.etx_matter.specs.declared.end.Status.TheVariants.{Clean, Errors, Stopped, Spent, Usage, ReadFault, WriteFault, OutOfMemory}

abbrev pub fatal_text : FatalError → List ℕ
fatal_text NoLegalEnd = codes "job aborted, no legal \\end found"
fatal_text FileError = codes "job aborted, file error in nonstop mode"

-- the quantity and its limit
abbrev pub limit_text : Limit → List ℕ
limit_text Names = codes "hash size=1048576"
limit_text Groups = codes "groups=10000"
limit_text InputLevels = codes "input stack size=10000"
limit_text Scans = codes "scans=10000"
limit_text Conditionals = codes "conditionals=10000"

abbrev pub exit_status_of : Status → ℕ
exit_status_of Clean = 0
exit_status_of Errors = 1
exit_status_of Stopped = 2
exit_status_of Spent = 3
exit_status_of Usage = 4
exit_status_of ReadFault = 5
exit_status_of WriteFault = 6
exit_status_of OutOfMemory = 7
