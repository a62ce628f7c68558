-- What an assignment does to the values, what is read behind it, and what may stand before it ("TeX: The Program", sections 1208 to
-- 1217 and 1269).
use Rattle.std.specs.Prelude.{ℕ, ℤ, pos, negsuc, zero, suc, Bool, true, false, ◌||◌, List, [], ◌∷◌, Option, Some, None, if◌then◌else◌}
use Rattle.etx_matter.specs.declared.token.Token.{Token}
use Rattle.etx_matter.specs.declared.token.Token.TheVariants.{Char, Name, Param}
use Rattle.etx_prims.specs.declared.command.Primitive.{Primitive}
use Rattle.etx_prims.specs.declared.command.Primitive.TheVariants as prims
use Rattle.etx_prims.specs.declared.parameters.IntParam.TheVariants.{GlobalDefs}
use Rattle.etx_prims.specs.declared.assignments.DefKind.{DefKind}
use Rattle.etx_prims.specs.declared.assignments.PrefixKind.{PrefixKind}
use Rattle.etx_prims.specs.declared.assignments.PrefixKind.TheVariants as prefixes
use Rattle.etx_keys.specs.declared.key.Key.{Key}
use Rattle.etx_keys.specs.declared.key.Key.TheVariants as key
use Rattle.etx_keys.specs.declared.single.Single.TheVariants as singles
use Rattle.etx_state.specs.declared.key.Val.{Val}
use Rattle.etx_state.specs.declared.key.Val.TheVariants as val
use Rattle.etx_state.specs.declared.scan.Prefixes.{Prefixes}
use Rattle.etx_state.specs.Fits.{fits}
use Rattle.etx_state.specs.Values.{Values, assign, assign_global, change}
use Rattle.etx_state.specs.Reading.{int_in, kept_in}
use Rattle.etx_state.specs.Rests.{RestState, with_values}
use Rattle.etx_answers.specs.declared.plan.Did.TheVariants as did
use Rattle.etx_answers.specs.declared.plan.Ended.{Ended}
use Rattle.etx_answers.specs.declared.plan.Move.TheVariants.{Used}
use Rattle.etx_answers.specs.declared.plan.Then.TheVariants.{Insert}
use Rattle.etx_answers.specs.Answers.{Planned, planned, Finished, finished, insert_token}
use Rattle.etx_assign.specs.declared.prefix.Follower.{Follower}
use Rattle.etx_assign.specs.declared.prefix.Follower.TheVariants as follower

-- where a control sequence has its meaning; other tokens have none of their own
abbrev pub key_of : Token → Key
key_of (Name n) = key.Meaning n.0
key_of (Char code cat) = key.Active code
key_of (Param n) = key.Active 0

-- a local assignment, or a global one
abbrev pub assigned : Bool → Key → Val → Values → Values
assigned true k x v = assign_global v k x
assigned false k x v = assign v k x

-- the same under a key that may have the value; no assignment begins with another one
unfoldable pub with_fitting : Key → Bool → Val → RestState → RestState
with_fitting k is_global x r = if fits k x then with_values (assigned is_global k x r.values) r else r

-- \globaldefs above 0 makes each assignment global, and below 0 each a local one
abbrev pub global_by : ℤ → Bool → Bool
global_by (pos zero) is_global = is_global
global_by (pos (suc n)) is_global = true
global_by (negsuc n) is_global = false

unfoldable pub is_global_in : Values → Bool → Bool
is_global_in v is_global = global_by (int_in v GlobalDefs) is_global

-- \gdef and \xdef are global unless \globaldefs is below 0
abbrev pub global_def_by : ℤ → Bool → Bool → Bool
global_def_by (pos zero) is_global always = is_global || always
global_def_by (pos (suc n)) is_global always = true
global_def_by (negsuc n) is_global always = false

unfoldable pub is_global_def_in : Values → Bool → Bool → Bool
is_global_def_in v is_global always = global_def_by (int_in v GlobalDefs) is_global always

-- \afterassignment keeps a token no longer
unfoldable pub without_kept : Values → Values
without_kept v = change v (key.Single singles.AfterAssignment) (val.Kept None)

-- behind an assignment the token is read that \afterassignment keeps, once
pub record Over : Type 0 where
  pub rest : RestState
  pub kept : Option Token

abbrev pub over_by : Option Token → RestState → Over
over_by None r = record { rest = r; kept = None }
over_by (Some t) r = record { rest = with_values (without_kept r.values) r; kept = Some t }

unfoldable pub over : RestState → Over
over r = over_by (kept_in r.values) r

-- an assignment of a scan is over, and its last token is used up
abbrev pub scan_over : Over → Planned
scan_over o = planned o.rest (Used (insert_token o.kept))

-- an assignment of a finisher is over
abbrev pub value_over : Over → Finished
value_over o = finished o.rest (Insert (insert_token o.kept))

-- what goes on behind an error
abbrev pub failing : List ℕ → Ended → Ended
failing text e = record { then = e.then; did = did.Error (record { text = text; is_back = false; inserted = None }) }

-- ---- prefixes

abbrev pub no_prefixes : Prefixes
no_prefixes = record { is_long = false; is_outer = false; is_protected = false; is_global = false }

unfoldable pub with_prefix : PrefixKind → Prefixes → Prefixes
with_prefix prefixes.Long p = record p { is_long = true }
with_prefix prefixes.Outer p = record p { is_outer = true }
with_prefix prefixes.Protected p = record p { is_protected = true }
with_prefix prefixes.Global p = record p { is_global = true }

-- a prefix that only a definition takes
abbrev pub is_for_definitions : Prefixes → Bool
is_for_definitions p = p.is_long || p.is_outer || p.is_protected

-- the commands that take \global, by families
unfoldable pub is_assignment : Primitive → Bool
is_assignment (prims.IntParam kind) = true
is_assignment (prims.DimenParam kind) = true
is_assignment (prims.GlueParam kind) = true
is_assignment (prims.MuGlueParam kind) = true
is_assignment (prims.TokenParam kind) = true
is_assignment (prims.Register kind) = true
is_assignment (prims.Code kind) = true
is_assignment prims.FontDimen = true
is_assignment (prims.FontInt kind) = true
is_assignment (prims.FamilyFont kind) = true
is_assignment prims.Font = true
is_assignment prims.NullFont = true
is_assignment prims.ParShape = true
is_assignment (prims.BoxDimen kind) = true
is_assignment (prims.Aux kind) = true
is_assignment prims.PrevGraf = true
is_assignment (prims.PageInt kind) = true
is_assignment (prims.PageDimen kind) = true
is_assignment prims.InteractionMode = true
is_assignment (prims.Def kind) = true
is_assignment (prims.Let kind) = true
is_assignment (prims.CharDef kind) = true
is_assignment (prims.RegisterDef kind) = true
is_assignment (prims.Read kind) = true
is_assignment prims.SetBox = true
is_assignment (prims.HyphenData kind) = true
is_assignment (prims.Arithmetic kind) = true
is_assignment (prims.Interaction kind) = true
is_assignment _ = false

-- the definition that a command is, if it is one
unfoldable pub definition_of : Primitive → Option DefKind
definition_of (prims.Def kind) = Some kind
definition_of _ = None

-- what a command is to the prefixes before it: \relax is skipped, and a prefix is one more
unfoldable pub follower_of : Primitive → Follower
follower_of prims.Relax = follower.Nothing
follower_of (prims.Prefix kind) = follower.Prefix kind
follower_of _ = follower.Command
