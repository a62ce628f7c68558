-- Conditionals: what a test begins, what it decides, and the text that isn't taken ("TeX: The Program", sections 487 to 510; the e-TeX
-- manual, section 3.5, for \unless, \ifdefined and \ifcsname).
use Rattle.std.specs.Prelude.{ℕ, zero, suc, ◌+◌, ◌-◌, ◌%◌, ◌==◌, ℤ, pos, negsuc, int_lt, unsigned_abs, Bool, true, false, not, ◌&&◌, ◌||◌, nat_lt, nat_le, List, [], ◌∷◌, ◌++◌, length, Option, Some, None, codes, if◌then◌else◌}
use Rattle.std.specs.Ordering.{int_eq}
use Rattle.std.specs.Str.{bytes_eq}
use Rattle.etx_matter.specs.declared.end.End.TheVariants.{Unbuilt, Capacity}
use Rattle.etx_matter.specs.declared.end.Limit.TheVariants.{Conditionals}
use Rattle.etx_matter.specs.declared.token.Token.{Token}
use Rattle.etx_matter.specs.declared.token.Token.TheVariants.{Char, Name, Param}
use Rattle.etx_prims.specs.declared.command.Primitive.{Primitive}
use Rattle.etx_prims.specs.declared.command.Primitive.TheVariants as prims
use Rattle.etx_prims.specs.declared.expansion.IfKind.{IfKind}
use Rattle.etx_prims.specs.declared.expansion.IfKind.TheVariants as ifs
use Rattle.etx_prims.specs.declared.expansion.FiOrElseKind.{FiOrElseKind}
use Rattle.etx_prims.specs.declared.expansion.FiOrElseKind.TheVariants as ends
use Rattle.etx_prims.specs.declared.quantities.RegisterKind.{RegisterKind}
use Rattle.etx_prims.specs.Quantities.{register_name}
use Rattle.etx_prims.specs.Names.{name_of}
use Rattle.etx_prims.specs.Expansion.{fi_or_else_name}
use Rattle.etx_state.specs.declared.condition.Condition.{Condition}
use Rattle.etx_state.specs.declared.condition.Branch.{Branch}
use Rattle.etx_state.specs.declared.condition.Branch.TheVariants as branch
use Rattle.etx_state.specs.declared.key.Meaning.{Meaning}
use Rattle.etx_state.specs.declared.key.Meaning.TheVariants as means
use Rattle.etx_state.specs.declared.scan.ExpansionScan.{ExpansionScan}
use Rattle.etx_state.specs.declared.scan.ExpansionScan.TheVariants as expansion
use Rattle.etx_state.specs.declared.scan.ExpansionNumber.{ExpansionNumber}
use Rattle.etx_state.specs.declared.scan.ExpansionNumber.TheVariants as takes
use Rattle.etx_state.specs.declared.scan.NumberFinish.TheVariants as finish
use Rattle.etx_state.specs.declared.scan.Likeness.{Likeness}
use Rattle.etx_state.specs.declared.scan.Likeness.TheVariants as like
use Rattle.etx_state.specs.declared.scan.Order.{Order}
use Rattle.etx_state.specs.declared.scan.Order.TheVariants as order
use Rattle.etx_state.specs.declared.scan.Scan.{Scan}
use Rattle.etx_state.specs.declared.scan.Scan.TheVariants as scan
use Rattle.etx_state.specs.declared.scan.Skip.{Skip}
use Rattle.etx_state.specs.declared.scan.Test.{Test}
use Rattle.etx_state.specs.declared.scan.Until.{Until}
use Rattle.etx_state.specs.declared.scan.Until.TheVariants as until
use Rattle.etx_state.specs.declared.taker.Want.{Want}
use Rattle.etx_state.specs.declared.taker.Want.TheVariants as want
use Rattle.etx_state.specs.declared.taker.NumberScan.TheVariants as number
use Rattle.etx_state.specs.Conditions.{top_condition, without_top, with_branch}
use Rattle.etx_state.specs.Macros.{MacroState}
use Rattle.etx_state.specs.Rests.{RestState, with_conditions, is_defined_name, is_undefined}
use Rattle.etx_conditionals.specs.declared.skips.Skipped.{Skipped}
use Rattle.etx_conditionals.specs.declared.skips.Skipped.TheVariants as skipped
use Rattle.etx_answers.specs.declared.plan.Insert.TheVariants as insert
use Rattle.etx_answers.specs.declared.plan.Move.{Move}
use Rattle.etx_answers.specs.declared.plan.Move.TheVariants as move
use Rattle.etx_answers.specs.declared.plan.Plan.{Plan}
use Rattle.etx_answers.specs.declared.plan.Push.{Push}
use Rattle.etx_answers.specs.declared.plan.Push.TheVariants as push
use Rattle.etx_answers.specs.declared.plan.Then.{Then}
use Rattle.etx_answers.specs.declared.plan.Then.TheVariants as afterwards
use Rattle.etx_answers.specs.Answers.{Planned, planned, reading, Begun, begun, Finished, finished, quiet, used, nothing, start_ends, start_fails, fails, fails_back, plan_of}
use Rattle.etx_numbers.specs.Numbers.{integer, plain_length, is_other}
use Rattle.etx_answers.specs.Meanings.{has_category}
use Rattle.etx_answers.specs.Printing.{escape_in, printed}
use Rattle.etx_answers.specs.Showing.{shown_meaning}

-- ---- scans

abbrev pub number_for : Want → ExpansionNumber → Scan
number_for w f = scan.Number (number.Start w) (record { outers = []; finish = finish.Expansion f })

-- a dimension, or an integer
abbrev pub compared : Bool → Want
compared true = want.Dimension plain_length
compared false = integer

-- a text that isn't taken begins in this line
abbrev pub skipping : Until → ℕ → Scan
skipping u line = scan.Expansion (expansion.Skip (record { until = u; level = 0; line = line }))

-- ---- what a test decides

-- the rest, and the text that is left out, if one is
pub record Decided : Type 0 where
  pub rest : RestState
  pub skips : Option Scan

abbrev pub come_to : ℕ → Branch → RestState → RestState
come_to n b r = with_conditions (with_branch n b r.conditions) r

abbrev pub turned : Bool → Bool → Bool
turned true b = not b
turned false b = b

-- the branch behind the test is taken, or what stands before its \else or \fi is left out
unfoldable pub decided : Test → Bool → ℕ → RestState → Decided
decided t is_so line r =
    if turned t.is_unless is_so
    then record { rest = come_to t.number branch.First r; skips = None }
    else record { rest = r; skips = Some (skipping (until.Else t.number) line) }

abbrev pub push_of : Option Scan → Push
push_of None = nothing
push_of (Some s) = push.Begin s

abbrev pub start_decided : Decided → Begun
start_decided d = begun d.rest (push_of d.skips)

abbrev pub move_by : Option Scan → Move
move_by None = used
move_by (Some s) = move.Begin s

abbrev pub plan_decided : Decided → Planned
plan_decided d = planned d.rest (move_by d.skips)

abbrev pub ended_by : Option Scan → RestState → Finished
ended_by None r = finished r (afterwards.Insert insert.Nothing)
ended_by (Some s) r = finished r (afterwards.More s)

abbrev pub ended_decided : Decided → Finished
ended_decided d = ended_by d.skips d.rest

-- ---- what a test begins

abbrev pub scan_begun : ExpansionScan → RestState → Begun
scan_begun e r = begun r (push.Begin (scan.Expansion e))

abbrev pub number_begun : Want → ExpansionNumber → RestState → Begun
number_begun w f r = begun r (push.Begin (number_for w f))

abbrev pub unbuilt : RestState → Begun
unbuilt r = record { rest = r; start = start_ends Unbuilt }

-- a line for each test; the mode is outer vertical mode
unfoldable pub test_begun : IfKind → Test → ℕ → RestState → Begun
test_begun ifs.Char t line r = scan_begun (expansion.FirstCharacter t false) r
test_begun ifs.Cat t line r = scan_begun (expansion.FirstCharacter t true) r
test_begun ifs.Num t line r = number_begun integer (takes.First t false) r
test_begun ifs.Dim t line r = number_begun (compared true) (takes.First t true) r
test_begun ifs.Odd t line r = number_begun integer (takes.Odd t) r
test_begun ifs.VMode t line r = start_decided (decided t true line r)
test_begun ifs.HMode t line r = start_decided (decided t false line r)
test_begun ifs.MMode t line r = start_decided (decided t false line r)
test_begun ifs.Inner t line r = start_decided (decided t false line r)
test_begun ifs.Void t line r = unbuilt r
test_begun ifs.HBox t line r = unbuilt r
test_begun ifs.VBox t line r = unbuilt r
test_begun ifs.X t line r = scan_begun (expansion.FirstMeaning t) r
test_begun ifs.Eof t line r = unbuilt r
test_begun ifs.True t line r = start_decided (decided t true line r)
test_begun ifs.False t line r = start_decided (decided t false line r)
test_begun ifs.Case t line r = number_begun integer (takes.Case t) r
test_begun ifs.Defined t line r = scan_begun (expansion.Defined t) r
test_begun ifs.CsName t line r = scan_begun (expansion.IfCsName t []) r
test_begun ifs.FontChar t line r = unbuilt r

abbrev pub opened : IfKind → Bool → ℕ → RestState → RestState
opened kind is_unless line r = with_conditions (record { kind = kind; is_unless = is_unless; branch = branch.Test; line = line } ∷ r.conditions) r

-- a conditional begins, unless 10000 are open
unfoldable pub if_begun : IfKind → Bool → ℕ → RestState → Begun
if_begun kind is_unless line r =
    if nat_lt (length r.conditions) 10000
    then test_begun kind (record { is_unless = is_unless; number = length r.conditions + 1 }) line (opened kind is_unless line r)
    else record { rest = r; start = start_ends (Capacity Conditionals) }

-- ---- \if and \ifcat

-- an active character that isn't expanded this time is a character
abbrev pub unexpanded_likeness : Token → Likeness
unexpanded_likeness (Char code cat) = like.Character code cat
unexpanded_likeness (Name n) = like.Command
unexpanded_likeness (Param n) = like.Command

abbrev pub likeness_of : Token → Meaning → Likeness
likeness_of t (means.Char code cat) = like.Character code cat
likeness_of t means.Unexpanded = unexpanded_likeness t
likeness_of t _ = like.Command

abbrev pub are_alike : Bool → Likeness → Likeness → Bool
are_alike is_cat like.Command like.Command = true
are_alike is_cat like.Command (like.Character code cat) = false
are_alike is_cat (like.Character code cat) like.Command = false
are_alike is_cat (like.Character code cat) (like.Character other other_cat) = if is_cat then cat == other_cat else code == other

abbrev pub first_character_row : Test → Bool → Token → Meaning → Plan
first_character_row t is_cat token mm = quiet (move.Begin (scan.Expansion (expansion.SecondCharacter t is_cat (likeness_of token mm))))

abbrev pub second_character_row : Test → Bool → Likeness → Token → Meaning → ℕ → RestState → Planned
second_character_row t is_cat first token mm line r = plan_decided (decided t (are_alike is_cat first (likeness_of token mm)) line r)

-- ---- \ifx

abbrev pub same_token : Token → Token → Bool
same_token (Char code cat) (Char other other_cat) = (code == other) && (cat == other_cat)
same_token (Name n) (Name m) = n.0 == m.0
same_token (Param n) (Param m) = n == m
same_token _ _ = false

abbrev pub same_tokens : List Token → List Token → Bool
same_tokens [] [] = true
same_tokens (t ∷ ts) (u ∷ us) = same_token t u && same_tokens ts us
same_tokens _ _ = false

abbrev pub same_parts : List (List Token) → List (List Token) → Bool
same_parts [] [] = true
same_parts (ts ∷ xs) (us ∷ ys) = same_tokens ts us && same_parts xs ys
same_parts _ _ = false

abbrev pub same_flag : Bool → Bool → Bool
same_flag true b = b
same_flag false b = not b

abbrev pub same_prefixes : MacroState → MacroState → Bool
same_prefixes m n = same_flag m.is_long n.is_long && same_flag m.is_outer n.is_outer && same_flag m.is_protected n.is_protected

-- macros are the same in prefixes, parameter text and body
abbrev pub same_macro : MacroState → MacroState → Bool
same_macro m n = same_prefixes m n && bytes_eq m.marks n.marks && same_parts m.parts n.parts && same_tokens m.body n.body

abbrev pub same_register : RegisterKind → ℕ → RegisterKind → ℕ → Bool
same_register kind n other m = bytes_eq (register_name kind) (register_name other) && n == m

unfoldable pub is_same : Meaning → Meaning → Bool
is_same means.Undefined means.Undefined = true
is_same (means.Primitive p) (means.Primitive q) = bytes_eq (name_of p) (name_of q)
is_same (means.Char code cat) (means.Char other other_cat) = (code == other) && (cat == other_cat)
is_same (means.Macro m) (means.Macro n) = same_macro m n
is_same (means.CharGiven code) (means.CharGiven other) = code == other
is_same (means.MathGiven code) (means.MathGiven other) = code == other
is_same (means.Register kind n) (means.Register other m) = same_register kind n other m
is_same means.Unexpanded means.Unexpanded = true
is_same means.EndTemplate means.EndTemplate = true
is_same _ _ = false

-- ---- \ifnum and \ifdim

abbrev pub relation_of : Token → Option Order
relation_of t =
    if is_other 60 t then Some order.Less
    else if is_other 61 t then Some order.Equal
    else if is_other 62 t then Some order.Greater
    else None

abbrev pub test_name : Bool → List ℕ
test_name true = codes "ifdim"
test_name false = codes "ifnum"

-- where no relation is, it is an equals sign, and the token is read again
abbrev pub relation_by : Option Order → Test → Bool → ℤ → RestState → Plan
relation_by (Some o) t is_dimension n r = quiet (move.Begin (number_for (compared is_dimension) (takes.Second t n o)))
relation_by None t is_dimension n r =
    fails_back (codes "Missing = inserted for " ++ printed r.values (escape_in r.values ++ test_name is_dimension))
    (move.Begin (number_for (compared is_dimension) (takes.Second t n order.Equal)))

unfoldable pub relation_row : Test → Bool → ℤ → Token → Meaning → RestState → Plan
relation_row t is_dimension n token mm r =
    if has_category 10 mm then quiet (move.Stay (scan.Expansion (expansion.Relation t is_dimension n)))
    else relation_by (relation_of token) t is_dimension n r

abbrev pub holds : ℤ → Order → ℤ → Bool
holds n order.Less m = int_lt n m
holds n order.Equal m = int_eq n m
holds n order.Greater m = int_lt m n

abbrev pub relation_wanted : Test → Bool → ℤ → Then
relation_wanted t is_dimension n = afterwards.More (scan.Expansion (expansion.Relation t is_dimension n))

abbrev pub first_taken : Test → Bool → ℤ → RestState → Finished
first_taken t is_dimension n r = finished r (relation_wanted t is_dimension n)

abbrev pub is_odd : ℤ → Bool
is_odd n = unsigned_abs n % 2 == 1

-- ---- \ifcase

-- so many cases are left out; of a number below 0 all
abbrev pub cases_of : ℤ → Option ℕ
cases_of (pos n) = Some n
cases_of (negsuc n) = None

abbrev pub is_first_case : ℤ → Bool
is_first_case (pos zero) = true
is_first_case (pos (suc n)) = false
is_first_case (negsuc n) = false

unfoldable pub case_taken : Test → ℤ → ℕ → RestState → Finished
case_taken t n line r =
    if is_first_case n then finished (come_to t.number branch.Case r) (afterwards.Insert insert.Nothing)
    else finished r (afterwards.More (skipping (until.Or t.number (cases_of n)) line))

-- ---- \ifdefined and \ifcsname

abbrev pub defined_row : Test → Meaning → ℕ → RestState → Planned
defined_row t mm line r = plan_decided (decided t (not (is_undefined mm)) line r)

-- what ends the name, where \endcsname doesn't, is read again
abbrev pub name_over : Decided → Meaning → Planned
name_over d (means.Primitive prims.EndCsName) = plan_decided d
name_over d mm = reading (fails_back (codes "Missing \\endcsname inserted") (move_by d.skips)) d.rest

abbrev pub name_ends : Test → List ℕ → Meaning → ℕ → RestState → Planned
name_ends t name mm line r = name_over (decided t (is_defined_name name r) line r) mm

unfoldable pub if_cs_name_row : Test → List ℕ → Token → Meaning → ℕ → RestState → Planned
if_cs_name_row t name (Char code cat) mm line r =
    if cat == 13 then name_ends t name mm line r
    else planned r (move.Copied (scan.Expansion (expansion.IfCsName t (name ++ code ∷ []))))
if_cs_name_row t name (Name n) mm line r = name_ends t name mm line r
if_cs_name_row t name (Param n) mm line r = name_ends t name mm line r

-- ---- the text that isn't taken

abbrev pub skip_on : Skip → Move
skip_on s = move.Stay (scan.Expansion (expansion.Skip s))

abbrev pub closed : RestState → RestState
closed r = with_conditions (without_top r.conditions) r

-- it ends, with its conditional or in a branch of it
abbrev pub skip_closed : RestState → Planned
skip_closed r = planned (closed r) used

abbrev pub skip_over : ℕ → Branch → RestState → Planned
skip_over n b r = planned (come_to n b r) used

abbrev pub extra_text : FiOrElseKind → RestState → List ℕ
extra_text kind r = codes "Extra " ++ printed r.values (escape_in r.values ++ fi_or_else_name kind)

-- a part of a conditional further inside, which is open and whose test stands before the text
abbrev pub inner_end : FiOrElseKind → Skip → RestState → Planned
inner_end ends.Fi s r = planned (closed r) (skip_on s)
inner_end ends.Else s r = planned r (skip_on s)
inner_end ends.Or s r = planned r (skip_on s)

-- a part of the conditional whose \else or \fi is looked for
abbrev pub own_end : FiOrElseKind → ℕ → Skip → RestState → Planned
own_end ends.Fi n s r = skip_closed r
own_end ends.Else n s r = skip_over n branch.Last r
own_end ends.Or n s r = reading (fails (extra_text ends.Or r) (skip_on s)) r

-- one of the conditional of which a case is looked for
abbrev pub or_found : Option ℕ → ℕ → Skip → RestState → Planned
or_found None n s r = planned r (skip_on s)
or_found (Some cases) n s r = if nat_le cases 1 then skip_over n branch.Case r else planned r (skip_on (record s { until = until.Or n (Some (cases - 1)) }))

abbrev pub case_end : FiOrElseKind → Option ℕ → ℕ → Skip → RestState → Planned
case_end ends.Fi cases n s r = skip_closed r
case_end ends.Else cases n s r = skip_over n branch.Last r
case_end ends.Or cases n s r = or_found cases n s r

abbrev pub fi_end : FiOrElseKind → Skip → RestState → Planned
fi_end ends.Fi s r = skip_closed r
fi_end ends.Else s r = planned r (skip_on s)
fi_end ends.Or s r = planned r (skip_on s)

abbrev pub skip_ends : Until → FiOrElseKind → Skip → RestState → Planned
skip_ends until.Fi kind s r = fi_end kind s r
skip_ends (until.Else n) kind s r = if length r.conditions == n then own_end kind n s r else inner_end kind s r
skip_ends (until.Or n cases) kind s r = if length r.conditions == n then case_end kind cases n s r else inner_end kind s r

abbrev pub deeper_end : FiOrElseKind → Skip → RestState → Planned
deeper_end ends.Fi s r = planned r (skip_on (record s { level = s.level - 1 }))
deeper_end ends.Else s r = planned r (skip_on s)
deeper_end ends.Or s r = planned r (skip_on s)

-- where no conditional is open in the text, a further text begins, in this line
abbrev pub part_skipped : FiOrElseKind → Skip → ℕ → RestState → Planned
part_skipped kind s line r = if s.level == 0 then skip_ends s.until kind (record s { line = line }) r else deeper_end kind s r

-- what a token is in such a text
abbrev pub primitive_skipped : Primitive → Skipped
primitive_skipped (prims.Conditional kind) = skipped.Opens
primitive_skipped (prims.FiOrElse kind) = skipped.Part kind
primitive_skipped _ = skipped.Other

abbrev pub skipped_of : Meaning → Skipped
skipped_of (means.Primitive p) = primitive_skipped p
skipped_of _ = skipped.Other

abbrev pub skip_by : Skipped → Skip → ℕ → RestState → Planned
skip_by skipped.Opens s line r = planned r (skip_on (record s { level = s.level + 1 }))
skip_by (skipped.Part kind) s line r = part_skipped kind s line r
skip_by skipped.Other s line r = planned r (skip_on s)

unfoldable pub skip_row : Skip → Meaning → ℕ → RestState → Planned
skip_row s mm line r = skip_by (skipped_of mm) s line r

-- ---- \fi, \else and \or

abbrev pub extra : FiOrElseKind → RestState → Begun
extra kind r = record { rest = r; start = start_fails (extra_text kind r) nothing }

-- the frozen \relax
abbrev pub relax : Token
relax = Name (record { 0 = 1048578 })

abbrev pub may_else_follow : Branch → Bool
may_else_follow branch.Test = false
may_else_follow branch.First = true
may_else_follow branch.Last = false
may_else_follow branch.Case = true

abbrev pub may_or_follow : Branch → Bool
may_or_follow branch.Test = false
may_or_follow branch.First = false
may_or_follow branch.Last = false
may_or_follow branch.Case = true

-- whether a part may follow in this branch
abbrev pub may_follow : Branch → FiOrElseKind → Bool
may_follow b ends.Fi = true
may_follow b ends.Else = may_else_follow b
may_follow b ends.Or = may_or_follow b

abbrev pub part_taken : FiOrElseKind → ℕ → RestState → Begun
part_taken ends.Fi line r = begun (closed r) nothing
part_taken ends.Else line r = begun r (push.Begin (skipping until.Fi line))
part_taken ends.Or line r = begun r (push.Begin (skipping until.Fi line))

-- a part that doesn't belong where it stands is an error
abbrev pub part_behind : Branch → FiOrElseKind → ℕ → RestState → Begun
part_behind b kind line r = if may_follow b kind then part_taken kind line r else extra kind r

-- a test that is still being read ends first, by \relax, and then the token comes again
abbrev pub part_begun : Branch → FiOrElseKind → Token → ℕ → RestState → Begun
part_begun branch.Test kind t line r = begun r (push.Insert (insert.Text (relax ∷ t ∷ [])))
part_begun branch.Last kind t line r = part_behind branch.Last kind line r
part_begun branch.First kind t line r = part_behind branch.First kind line r
part_begun branch.Case kind t line r = part_behind branch.Case kind line r

abbrev pub part_by : Option Condition → FiOrElseKind → Token → ℕ → RestState → Begun
part_by None kind t line r = extra kind r
part_by (Some c) kind t line r = part_begun c.branch kind t line r

unfoldable pub fi_or_else_begun : FiOrElseKind → Token → ℕ → RestState → Begun
fi_or_else_begun kind t line r = part_by (top_condition r.conditions) kind t line r

-- ---- \unless

-- what takes no \unless is read again
abbrev pub unless_refused : Meaning → RestState → Planned
unless_refused mm r = reading (fails_back (codes "You can't use `" ++ printed r.values (escape_in r.values ++ codes "unless") ++ codes "' before " ++ shown_meaning mm r) used) r

abbrev pub begun_plan : Begun → Planned
begun_plan b = record { rest = b.rest; plan = plan_of b.start }

-- all conditionals but \ifcase take it
abbrev pub kind_unless : IfKind → Option IfKind
kind_unless ifs.Case = None
kind_unless kind = Some kind

abbrev pub primitive_unless : Primitive → Option IfKind
primitive_unless (prims.Conditional kind) = kind_unless kind
primitive_unless _ = None

abbrev pub takes_unless : Meaning → Option IfKind
takes_unless (means.Primitive p) = primitive_unless p
takes_unless _ = None

abbrev pub unless_by : Option IfKind → Meaning → ℕ → RestState → Planned
unless_by (Some kind) mm line r = begun_plan (if_begun kind true line r)
unless_by None mm line r = unless_refused mm r

unfoldable pub unless_row : Meaning → ℕ → RestState → Planned
unless_row mm line r = unless_by (takes_unless mm) mm line r
