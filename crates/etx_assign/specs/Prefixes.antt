-- What an assignment begins, and what stands behind prefixes ("TeX: The Program", sections 1211 to 1218).
use Rattle.std.specs.Prelude.{ℕ, Bool, true, false, ◌==◌, List, [], ◌∷◌, ◌++◌, Option, Some, None, codes, if◌then◌else◌}
use Rattle.etx_matter.specs.declared.token.Token.{Token}
use Rattle.etx_prims.specs.Names.{name_of}
use Rattle.etx_prims.specs.declared.command.Primitive.{Primitive}
use Rattle.etx_prims.specs.declared.assignments.DefKind.{DefKind}
use Rattle.etx_prims.specs.declared.assignments.DefKind.TheVariants as defs
use Rattle.etx_prims.specs.declared.quantities.RegisterKind.{RegisterKind}
use Rattle.etx_state.specs.declared.key.Meaning.{Meaning}
use Rattle.etx_state.specs.declared.key.Meaning.TheVariants as means
use Rattle.etx_state.specs.declared.scan.Prefixes.{Prefixes}
use Rattle.etx_state.specs.declared.scan.NameFor.TheVariants as naming
use Rattle.etx_state.specs.declared.scan.AssignScan.TheVariants as assign
use Rattle.etx_state.specs.declared.scan.Scan.{Scan}
use Rattle.etx_state.specs.declared.scan.Scan.TheVariants as scan
use Rattle.etx_state.specs.Values.{Values}
use Rattle.etx_state.specs.Rests.{RestState}
use Rattle.etx_answers.specs.declared.plan.Move.TheVariants.{Stay}
use Rattle.etx_answers.specs.declared.plan.Plan.{Plan}
use Rattle.etx_answers.specs.declared.plan.Push.{Push}
use Rattle.etx_answers.specs.declared.plan.Push.TheVariants as push
use Rattle.etx_answers.specs.declared.plan.Start.{Start}
use Rattle.etx_answers.specs.Answers.{quiet, used, fails_back, nothing, start_fails_back, plan_of}
use Rattle.etx_answers.specs.Printing.{printed, escape_in, shown_name}
use Rattle.etx_answers.specs.Showing.{character_words, shown_meaning}
use Rattle.etx_assign.specs.Naming.{named}
use Rattle.etx_assign.specs.Values.{register_begun, simple_begun}
use Rattle.etx_assign.specs.declared.prefix.Follower.{Follower}
use Rattle.etx_assign.specs.declared.prefix.Follower.TheVariants as follower
use Rattle.etx_assign.specs.Assignments.{no_prefixes, is_global_in, is_global_def_in, with_prefix, is_for_definitions, is_assignment, definition_of, follower_of}

abbrev pub prefix_text : List ℕ → List ℕ
prefix_text what = codes "You can't use a prefix with " ++ what

-- a command's name in an error
abbrev pub shown_primitive : Values → Primitive → List ℕ
shown_primitive v p = printed v (escape_in v ++ name_of p)

-- a character, in an error
abbrev pub shown_character : Values → ℕ → ℕ → List ℕ
shown_character v code cat = codes "`" ++ character_words cat ++ printed v (code ∷ []) ++ codes "'"

-- ---- what an assignment begins

-- a definition is global where its prefixes, its name or \globaldefs say so
abbrev pub def_named : Bool → Bool → Prefixes → Values → Start
def_named always is_expanded p v = named (naming.Def (record p { is_global = is_global_def_in v p.is_global always }) is_expanded)

abbrev pub def_begun : DefKind → Prefixes → Values → Start
def_begun defs.Def p v = def_named false false p v
def_begun defs.GDef p v = def_named true false p v
def_begun defs.EDef p v = def_named false true p v
def_begun defs.XDef p v = def_named true true p v

-- the prefixes that only a definition takes are dropped with an error, and the command is read again
abbrev pub left_prefixes : Bool → Push
left_prefixes true = push.Begin (scan.Assign (assign.Prefix (record no_prefixes { is_global = true })))
left_prefixes false = nothing

abbrev pub irrelevant : List ℕ → Prefixes → Start
irrelevant what p = start_fails_back (prefix_text what) (left_prefixes p.is_global)

abbrev pub other_begun : Primitive → Token → Prefixes → Values → Start
other_begun primitive t p v = if is_for_definitions p then irrelevant (shown_primitive v primitive) p else simple_begun primitive t (is_global_in v p.is_global)

abbrev pub begun_by : Option DefKind → Primitive → Token → Prefixes → Values → Start
begun_by (Some kind) primitive t p v = def_begun kind p v
begun_by None primitive t p v = other_begun primitive t p v

-- what an assignment begins, behind these prefixes
unfoldable pub assignment_begun : Primitive → Token → Prefixes → Values → Start
assignment_begun primitive t p v = begun_by (definition_of primitive) primitive t p v

-- a register that a control sequence stands for
abbrev pub register_assigned : RegisterKind → ℕ → Token → Meaning → Prefixes → RestState → Start
register_assigned kind n t mm p r = if is_for_definitions p then irrelevant (shown_meaning mm r) p else register_begun kind n t (is_global_in r.values p.is_global)

-- ---- behind prefixes

abbrev pub prefix_scan : Prefixes → Scan
prefix_scan p = scan.Assign (assign.Prefix p)

-- what takes no prefix is read again, behind an error
abbrev pub prefix_refused : List ℕ → Plan
prefix_refused what = fails_back (prefix_text what) used

abbrev pub prefixed : Prefixes → Primitive → Token → Values → Plan
prefixed p primitive t v = if is_assignment primitive then plan_of (assignment_begun primitive t p v) else prefix_refused (shown_primitive v primitive)

abbrev pub behind_by : Follower → Prefixes → Primitive → Token → Values → Plan
behind_by follower.Nothing p primitive t v = quiet (Stay (prefix_scan p))
behind_by (follower.Prefix kind) p primitive t v = quiet (Stay (prefix_scan (with_prefix kind p)))
behind_by follower.Command p primitive t v = prefixed p primitive t v

abbrev pub character_behind : Prefixes → ℕ → ℕ → Values → Plan
character_behind p code cat v = if cat == 10 then quiet (Stay (prefix_scan p)) else prefix_refused (shown_character v code cat)

-- prefixes wait for an assignment; spaces, \relax and what \noexpand made \relax are skipped
unfoldable pub prefix_row : Prefixes → Token → Meaning → RestState → Plan
prefix_row p t (means.Char code cat) r = character_behind p code cat r.values
prefix_row p t (means.Primitive primitive) r = behind_by (follower_of primitive) p primitive t r.values
prefix_row p t means.Undefined r = prefix_refused (shown_name r t)
prefix_row p t (means.Macro macro) r = prefix_refused (shown_name r t)
prefix_row p t (means.CharGiven code) r = prefix_refused (shown_name r t)
prefix_row p t (means.MathGiven code) r = prefix_refused (shown_name r t)
prefix_row p t (means.Register kind number) r = plan_of (register_assigned kind number t (means.Register kind number) p r)
prefix_row p t means.Unexpanded r = quiet (Stay (prefix_scan p))
prefix_row p t means.EndTemplate r = prefix_refused (shown_name r t)
