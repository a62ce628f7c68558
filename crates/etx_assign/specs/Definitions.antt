-- Definitions of macros: the name, the parameter text and the body ("TeX: The Program", sections 1215, 1218 and 473 to 479).
use Rattle.std.specs.Prelude.{ℕ, ◌+◌, ◌-◌, Bool, true, false, nat_le, ◌==◌, ◌&&◌, List, [], ◌∷◌, ◌++◌, Option, Some, None, length, codes, if◌then◌else◌}
use Rattle.etx_matter.specs.declared.token.Token.{Token}
use Rattle.etx_matter.specs.declared.token.Token.TheVariants.{Char, Name, Param}
use Rattle.etx_macros.specs.OpenPatterns.{no_pattern, with_text, with_parameter, with_brace, whole_pattern, ended_with}
use Rattle.etx_state.specs.declared.key.Val.TheVariants as val
use Rattle.etx_state.specs.declared.key.Meaning.{Meaning}
use Rattle.etx_state.specs.declared.key.Meaning.TheVariants as means
use Rattle.etx_prims.specs.declared.command.Primitive.TheVariants as prims
use Rattle.etx_state.specs.declared.scan.AssignNumber.TheVariants as takes
use Rattle.etx_state.specs.declared.taker.NumberScan.TheVariants as number
use Rattle.etx_state.specs.declared.scan.Prefixes.{Prefixes}
use Rattle.etx_state.specs.declared.scan.ParameterMark.{ParameterMark}
use Rattle.etx_state.specs.declared.scan.Definition.{Definition}
use Rattle.etx_state.specs.declared.scan.NameFor.{NameFor}
use Rattle.etx_state.specs.declared.scan.NameFor.TheVariants as naming
use Rattle.etx_state.specs.declared.scan.AssignScan.TheVariants as assign
use Rattle.etx_state.specs.declared.scan.Scan.{Scan}
use Rattle.etx_state.specs.declared.scan.Scan.TheVariants as scan
use Rattle.etx_state.specs.Macros.{MacroState}
use Rattle.etx_state.specs.Rests.{RestState, with_values}
use Rattle.etx_answers.specs.declared.plan.Move.{Move}
use Rattle.etx_answers.specs.declared.plan.Move.TheVariants.{Begin, Stay, Copied}
use Rattle.etx_answers.specs.declared.plan.Plan.{Plan}
use Rattle.etx_answers.specs.declared.plan.Did.TheVariants as did
use Rattle.etx_macros.specs.declared.mark.Brace.{Brace}
use Rattle.etx_macros.specs.declared.mark.Brace.TheVariants.{Left, Right, Neither}
use Rattle.etx_macros.specs.Marks.{brace_of}
use Rattle.etx_numbers.specs.Numbers.{integer}
use Rattle.etx_answers.specs.Answers.{Planned, planned, reading, quiet, used, fails, fails_back}
use Rattle.etx_answers.specs.Printing.{shown_name}
use Rattle.etx_assign.specs.declared.naming.Target.{Target}
use Rattle.etx_assign.specs.declared.naming.Target.TheVariants.{Blank, Given, Missing}
use Rattle.etx_assign.specs.Assignments.{Over, key_of, assigned, over, scan_over}
use Rattle.etx_assign.specs.Values.{number_scan}

-- ---- the control sequence that is defined

-- What a token is where a control sequence is to be defined: a space as the lexer makes it, a control sequence, which an
-- active character is too, or neither.
unfoldable pub target_of : Token → Target
target_of (Char code cat) = if (code == 32) && (cat == 10) then Blank else if cat == 13 then Given else Missing
target_of (Name n) = Given
target_of (Param n) = Missing

-- the control sequence that takes what the source names no other for
abbrev pub inaccessible : Token
inaccessible = Name (record { 0 = 1048576 })

abbrev pub definition_of : Prefixes → Bool → Token → Definition
definition_of p is_expanded name = record { prefixes = p; is_expanded = is_expanded; name = name; pattern = no_pattern; marks = []; depth = 0; body = []; mark = None }

-- what comes behind the control sequence
pub record BehindName : Type 0 where
  pub rest : RestState
  pub scan : Scan

abbrev pub behind : RestState → Scan → BehindName
behind r s = record { rest = r; scan = s }

-- what is to stand for a character or a register means \relax at first (section 1224)
abbrev pub relaxed : Bool → Token → RestState → RestState
relaxed is_global name r = with_values (assigned is_global (key_of name) (val.Means (means.Primitive prims.Relax)) r.values) r

unfoldable pub behind_name : NameFor → Token → RestState → BehindName
behind_name (naming.Def p is_expanded) name r = behind r (scan.Assign (assign.Params (definition_of p is_expanded name)))
behind_name (naming.Let is_global) name r = behind r (scan.Assign (assign.LetEquals is_global name))
behind_name (naming.FutureLet is_global) name r = behind r (scan.Assign (assign.FutureFirst is_global name))
behind_name (naming.CharDef kind is_global) name r = behind (relaxed is_global name r) (number_scan (number.Equals integer) (takes.Character kind name is_global))
behind_name (naming.RegisterDef kind is_global) name r = behind (relaxed is_global name r) (number_scan (number.Equals integer) (takes.RegisterName kind name is_global))

abbrev pub name_given : BehindName → Planned
name_given b = planned b.rest (Begin b.scan)

abbrev pub name_missing : BehindName → Planned
name_missing b = reading (fails_back (codes "Missing control sequence inserted") (Begin b.scan)) b.rest

abbrev pub name_by : Target → NameFor → Token → RestState → Planned
name_by Blank n t r = planned r (Stay (scan.Assign (assign.Name n)))
name_by Given n t r = name_given (behind_name n t r)
name_by Missing n t r = name_missing (behind_name n inaccessible r)

-- spaces are skipped before the control sequence that is defined
unfoldable pub name_row : NameFor → Token → RestState → Planned
name_row n t r = name_by (target_of t) n t r

-- ---- the end of a definition

-- the macro that a definition makes
abbrev pub macro_of : Definition → MacroState
macro_of d = record {
  parts = whole_pattern d.pattern;
  marks = d.marks;
  body = ended_with d.pattern.brace d.body;
  is_long = d.prefixes.is_long;
  is_outer = d.prefixes.is_outer;
  is_protected = d.prefixes.is_protected;
}

unfoldable pub defined : Definition → RestState → RestState
defined d r = with_values (assigned d.prefixes.is_global (key_of d.name) (val.Means (means.Macro (macro_of d))) r.values) r

unfoldable pub definition_over : Definition → RestState → Planned
definition_over d r = scan_over (over (defined d r))

-- an error ends a definition, with an empty body
abbrev pub without_body : Option Token → Plan
without_body kept = record { go = used; did = did.Error (record { text = codes "Missing { inserted"; is_back = false; inserted = kept }) }

abbrev pub failed_over : Over → Planned
failed_over o = record { rest = o.rest; plan = without_body o.kept }

unfoldable pub definition_failed : Definition → RestState → Planned
definition_failed d r = failed_over (over (defined d r))

-- ---- the parameter text

abbrev pub in_params : Definition → Scan
in_params d = scan.Assign (assign.Params d)

abbrev pub in_body : Definition → Scan
in_body d = scan.Assign (assign.Body d)

-- the code of a character of category 6, which a token means
abbrev pub mark_of : Meaning → Option ℕ
mark_of (means.Char code cat) = if cat == 6 then Some code else None
mark_of means.Undefined = None
mark_of (means.Primitive p) = None
mark_of (means.Macro m) = None
mark_of (means.CharGiven code) = None
mark_of (means.MathGiven code) = None
mark_of (means.Register kind number) = None
mark_of means.Unexpanded = None
mark_of means.EndTemplate = None

abbrev pub with_mark : Token → ℕ → Definition → Definition
with_mark t code d = record d { mark = Some (record { token = t; code = code }) }

-- a token of the parameter text that is to be matched, or that marks a parameter
abbrev pub text_or_mark : Option ℕ → Definition → Token → Move
text_or_mark (Some code) d t = Stay (in_params (with_mark t code d))
text_or_mark None d t = Copied (in_params (record d { pattern = with_text t d.pattern }))

-- a token of a parameter text: the first brace ends it
abbrev pub params_by : Brace → Definition → Token → Meaning → RestState → Planned
params_by Left d t mm r = reading (quiet (Stay (in_body d))) r
params_by Right d t mm r = definition_failed d r
params_by Neither d t mm r = reading (quiet (text_or_mark (mark_of mm) d t)) r

abbrev pub is_digit_token : ℕ → Token → Bool
is_digit_token n (Char code cat) = (code == 48 + n) && (cat == 12)
is_digit_token n (Name name) = false
is_digit_token n (Param k) = false

-- one parameter more, which this character marked
abbrev pub with_marked : ℕ → Definition → Definition
with_marked code d = record d { pattern = with_parameter d.pattern; marks = d.marks ++ code ∷ []; mark = None }

-- a tenth parameter is dropped, with the token behind its character
abbrev pub tenth_parameter : Definition → Plan
tenth_parameter d = fails (codes "You already have nine parameters") (Stay (in_params (record d { mark = None })))

-- a parameter has its number behind its character; where another token stands there, the number is inserted
abbrev pub numbered_row : ℕ → Definition → Token → Plan
numbered_row code d t =
    if is_digit_token (length d.marks + 1) t then quiet (Copied (in_params (with_marked code d)))
    else fails_back (codes "Parameters must be numbered consecutively") (Stay (in_params (with_marked code d)))

abbrev pub parameter_row : ℕ → Definition → Token → Plan
parameter_row code d t = if nat_le 9 (length d.marks) then tenth_parameter d else numbered_row code d t

-- behind a character of category 6: a left brace ends the parameter text, and the body too
abbrev pub behind_mark_by : Brace → ℕ → Definition → Token → Plan
behind_mark_by Left code d t = quiet (Copied (in_body (record d { pattern = with_brace t d.pattern; mark = None })))
behind_mark_by Right code d t = parameter_row code d t
behind_mark_by Neither code d t = parameter_row code d t

abbrev pub params_at : Option ParameterMark → Definition → Token → Meaning → RestState → Planned
params_at None d t mm r = params_by (brace_of t) d t mm r
params_at (Some mark) d t mm r = reading (behind_mark_by (brace_of t) mark.code d t) r

unfoldable pub params_row : Definition → Token → Meaning → RestState → Planned
params_row d t mm r = params_at d.mark d t mm r

-- ---- the body

-- the body with this token more, in which so many braces are open
abbrev pub body_goes_on : ℕ → Definition → Token → Move
body_goes_on depth d t = Copied (in_body (record d { depth = depth; body = d.body ++ t ∷ []; mark = None }))

abbrev pub body_or_mark : Option ℕ → Definition → Token → Move
body_or_mark (Some code) d t = Stay (in_body (with_mark t code d))
body_or_mark None d t = body_goes_on d.depth d t

-- a token of a body: the right brace that has no partner in it ends it
abbrev pub body_by : Brace → Definition → Token → Meaning → RestState → Planned
body_by Left d t mm r = reading (quiet (body_goes_on (d.depth + 1) d t)) r
body_by Right d t mm r = if d.depth == 0 then definition_over d r else reading (quiet (body_goes_on (d.depth - 1) d t)) r
body_by Neither d t mm r = reading (quiet (body_or_mark (mark_of mm) d t)) r

-- the number of a parameter that the definition has
abbrev pub is_parameter : ℕ → ℕ → Bool
is_parameter count code = nat_le 49 code && nat_le code (48 + count)

abbrev pub parameter_in : ℕ → Token → Option ℕ
parameter_in count (Char code cat) = if (cat == 12) && is_parameter count code then Some (code - 48) else None
parameter_in count (Name n) = None
parameter_in count (Param n) = None

-- the character of category 6 is copied, and what stands behind it is read again
abbrev pub number_refused : Definition → Token → RestState → Plan
number_refused d s r = fails_back (codes "Illegal parameter number in definition of " ++ shown_name r d.name) (Stay (in_body (record d { body = d.body ++ s ∷ []; mark = None })))

abbrev pub parameter_by : Option ℕ → Definition → Token → RestState → Plan
parameter_by (Some n) d s r = quiet (body_goes_on d.depth d (Param n))
parameter_by None d s r = number_refused d s r

-- behind a character of category 6 in a body: a second one stands for itself, and a digit for a parameter
abbrev pub behind_mark_in_body : Option ℕ → Definition → Token → Token → RestState → Plan
behind_mark_in_body (Some code) d s t r = quiet (body_goes_on d.depth d t)
behind_mark_in_body None d s t r = parameter_by (parameter_in (length d.marks) t) d s r

abbrev pub body_at : Option ParameterMark → Definition → Token → Meaning → RestState → Planned
body_at None d t mm r = body_by (brace_of t) d t mm r
body_at (Some mark) d t mm r = reading (behind_mark_in_body (mark_of mm) d mark.token t r) r

unfoldable pub body_row : Definition → Token → Meaning → RestState → Planned
body_row d t mm r = body_at d.mark d t mm r
