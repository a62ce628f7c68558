-- \let and \futurelet ("TeX: The Program", section 1221).
use Rattle.std.specs.Prelude.{Bool, ◌==◌, ◌&&◌, Option, if◌then◌else◌}
use Rattle.etx_matter.specs.declared.token.Token.{Token}
use Rattle.etx_state.specs.declared.key.Val.TheVariants as val
use Rattle.etx_state.specs.declared.key.Meaning.{Meaning}
use Rattle.etx_state.specs.declared.scan.AssignScan.TheVariants as assign
use Rattle.etx_state.specs.declared.scan.Scan.TheVariants as scan
use Rattle.etx_state.specs.Rests.{RestState, with_values}
use Rattle.etx_answers.specs.declared.plan.Move.TheVariants.{Stay}
use Rattle.etx_answers.specs.Answers.{Planned, planned}
use Rattle.etx_answers.specs.Meanings.{has_category}
use Rattle.etx_numbers.specs.Numbers.{is_other}
use Rattle.etx_assign.specs.Assignments.{key_of, assigned, over, scan_over}

unfoldable pub given_meaning : Bool → Token → Meaning → RestState → RestState
given_meaning is_global name mm r = with_values (assigned is_global (key_of name) (val.Means mm) r.values) r

unfoldable pub let_over : Bool → Token → Meaning → RestState → Planned
let_over is_global name mm r = scan_over (over (given_meaning is_global name mm r))

unfoldable pub let_equals_row : Bool → Token → Token → Meaning → RestState → Planned
let_equals_row is_global name t mm r =
    if has_category 10 mm then planned r (Stay (scan.Assign (assign.LetEquals is_global name)))
    else if is_other 61 t then planned r (Stay (scan.Assign (assign.LetSpace is_global name)))
    else let_over is_global name mm r

unfoldable pub let_space_row : Bool → Token → Meaning → RestState → Planned
let_space_row is_global name mm r = if has_category 10 mm then planned r (Stay (scan.Assign (assign.LetToken is_global name))) else let_over is_global name mm r
