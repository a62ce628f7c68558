-- The conditionals that are open, the innermost first ("TeX: The Program", sections 487 to 498, and the e-TeX manual, section 3.5).
use Rattle.std.specs.Prelude.{ℕ, ◌+◌, zero, suc, ℤ, pos, negsuc, Bool, true, false, ◌==◌, if◌then◌else◌, List, [], ◌∷◌, length, Option, Some, None}
use Rattle.etx_prims.specs.declared.expansion.IfKind.{IfKind}
use Rattle.etx_prims.specs.declared.expansion.IfKind.TheVariants as ifs
use Rattle.etx_state.specs.declared.condition.Condition.{Condition}
use Rattle.etx_state.specs.declared.condition.Branch.{Branch}
use Rattle.etx_state.specs.declared.condition.Branch.TheVariants as branch

-- the innermost one, if there is one
unfoldable pub top_condition : List Condition → Option Condition
top_condition [] = None
top_condition (c ∷ cs) = Some c

-- without it
unfoldable pub without_top : List Condition → List Condition
without_top [] = []
without_top (c ∷ cs) = cs

-- The n-th from the outside has come to this branch.
unfoldable pub with_branch : ℕ → Branch → List Condition → List Condition
with_branch n b [] = []
with_branch n b (c ∷ cs) = if length cs + 1 == n then record c { branch = b } ∷ cs else c ∷ with_branch n b cs

-- the numbers of \currentiftype: from 1 on, in the order of the names; 0 outside of all conditionals, and negative after \unless
abbrev pub if_number : IfKind → ℕ
if_number ifs.Char = 1
if_number ifs.Cat = 2
if_number ifs.Num = 3
if_number ifs.Dim = 4
if_number ifs.Odd = 5
if_number ifs.VMode = 6
if_number ifs.HMode = 7
if_number ifs.MMode = 8
if_number ifs.Inner = 9
if_number ifs.Void = 10
if_number ifs.HBox = 11
if_number ifs.VBox = 12
if_number ifs.X = 13
if_number ifs.Eof = 14
if_number ifs.True = 15
if_number ifs.False = 16
if_number ifs.Case = 17
if_number ifs.Defined = 18
if_number ifs.CsName = 19
if_number ifs.FontChar = 20

abbrev pub minus : ℕ → ℤ
minus zero = pos 0
minus (suc n) = negsuc n

abbrev pub type_by : Bool → ℕ → ℤ
type_by true n = minus n
type_by false n = pos n

abbrev pub type_at : Option Condition → ℤ
type_at None = pos 0
type_at (Some c) = type_by c.is_unless (if_number c.kind)

unfoldable pub current_if_type : List Condition → ℤ
current_if_type cs = type_at (top_condition cs)

-- \currentifbranch: 1 in the branch that is taken first, -1 behind \else, and 0 while the test is read
abbrev pub branch_number : Branch → ℤ
branch_number branch.Test = pos 0
branch_number branch.Last = negsuc 0
branch_number branch.First = pos 1
branch_number branch.Case = pos 1

abbrev pub branch_at : Option Condition → ℤ
branch_at None = pos 0
branch_at (Some c) = branch_number c.branch

unfoldable pub current_if_branch : List Condition → ℤ
current_if_branch cs = branch_at (top_condition cs)
