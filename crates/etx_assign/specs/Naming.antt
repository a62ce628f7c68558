-- The control sequence comes next that is defined ("TeX: The Program", section 1215).
use Rattle.std.specs.Prelude.{Bool}
use Rattle.etx_prims.specs.declared.assignments.LetKind.{LetKind}
use Rattle.etx_prims.specs.declared.assignments.LetKind.TheVariants as lets
use Rattle.etx_state.specs.declared.scan.NameFor.{NameFor}
use Rattle.etx_state.specs.declared.scan.NameFor.TheVariants as naming
use Rattle.etx_state.specs.declared.scan.AssignScan.TheVariants as assign
use Rattle.etx_state.specs.declared.scan.Scan.TheVariants as scan
use Rattle.etx_answers.specs.declared.plan.Push.TheVariants as push
use Rattle.etx_answers.specs.declared.plan.Start.{Start}
use Rattle.etx_answers.specs.Answers.{starting}

abbrev pub named : NameFor → Start
named n = starting (push.Begin (scan.Assign (assign.Name n)))

abbrev pub let_begun : LetKind → Bool → Start
let_begun lets.Let is_global = named (naming.Let is_global)
let_begun lets.FutureLet is_global = named (naming.FutureLet is_global)
