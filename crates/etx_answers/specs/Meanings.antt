-- What expansion asks of a meaning, and which scans expand.
use Rattle.std.specs.Prelude.{Bool, true, false, Option, Some, None, ◌==◌, if◌then◌else◌, ℕ}
use Rattle.etx_prims.specs.declared.command.Primitive.{Primitive}
use Rattle.etx_prims.specs.declared.command.Primitive.TheVariants as prims
use Rattle.etx_prims.specs.declared.expansion.ExpandKind.{ExpandKind}
use Rattle.etx_prims.specs.declared.expansion.ExpandKind.TheVariants as expands
use Rattle.etx_prims.specs.declared.expansion.ConvertKind.{ConvertKind}
use Rattle.etx_prims.specs.declared.expansion.ConvertKind.TheVariants as converts
use Rattle.std.specs.Option.{option_map}
use Rattle.etx_prims.specs.declared.expansion.TheKind.{TheKind}
use Rattle.etx_prims.specs.declared.expansion.TheKind.TheVariants as thes
use Rattle.etx_state.specs.declared.key.Meaning.{Meaning}
use Rattle.etx_state.specs.declared.key.Meaning.TheVariants as means
use Rattle.etx_state.specs.declared.scan.ExpansionScan.{ExpansionScan}
use Rattle.etx_state.specs.declared.scan.ExpansionScan.TheVariants as expansion
use Rattle.etx_state.specs.declared.taker.NumberScan.{NumberScan}
use Rattle.etx_state.specs.declared.taker.NumberScan.TheVariants as number
use Rattle.etx_state.specs.declared.scan.TextPlace.{TextPlace}
use Rattle.etx_state.specs.declared.scan.TextPlace.TheVariants as place
use Rattle.etx_state.specs.declared.scan.ParameterMark.{ParameterMark}
use Rattle.etx_state.specs.declared.scan.AssignScan.{AssignScan}
use Rattle.etx_state.specs.declared.scan.AssignScan.TheVariants as assign
use Rattle.etx_state.specs.declared.scan.Keeper.{Keeper}
use Rattle.etx_state.specs.declared.scan.Keeper.TheVariants as keeper
use Rattle.etx_state.specs.declared.scan.Scan.{Scan}
use Rattle.etx_state.specs.declared.scan.Scan.TheVariants as scan
use Rattle.etx_answers.specs.declared.meaning.Expandable.{Expandable}
use Rattle.etx_answers.specs.declared.meaning.Expandable.TheVariants as expandable
use Rattle.etx_answers.specs.declared.meaning.Reading.{Reading}
use Rattle.etx_answers.specs.declared.meaning.Reading.TheVariants.{Plain, Expanded, Text}

-- ---- what an expandable token is

abbrev pub expand_kind : ExpandKind → Expandable
expand_kind expands.ExpandAfter = expandable.ExpandAfter
expand_kind expands.NoExpand = expandable.NoExpand
expand_kind expands.CsName = expandable.CsName
expand_kind expands.Unless = expandable.Unless

abbrev pub convert_kind : ConvertKind → Expandable
convert_kind converts.String = expandable.StringOf
convert_kind converts.Number = expandable.Number
convert_kind converts.RomanNumeral = expandable.RomanNumeral
convert_kind converts.Meaning = expandable.MeaningOf
convert_kind converts.FontName = expandable.Unbuilt
convert_kind converts.ETeXRevision = expandable.Revision
convert_kind converts.JobName = expandable.JobName

abbrev pub the_kind : TheKind → Expandable
the_kind thes.The = expandable.The false
the_kind thes.Unexpanded = expandable.Unexpanded false
the_kind thes.Detokenize = expandable.Detokenize

-- the primitives that are expanded, by families
unfoldable pub primitive_expandable : Primitive → Option Expandable
primitive_expandable (prims.Expand kind) = Some (expand_kind kind)
primitive_expandable (prims.Convert kind) = Some (convert_kind kind)
primitive_expandable (prims.Input kind) = Some expandable.Unbuilt
primitive_expandable (prims.Conditional kind) = Some (expandable.If kind)
primitive_expandable (prims.FiOrElse kind) = Some (expandable.FiOrElse kind)
primitive_expandable (prims.The kind) = Some (the_kind kind)
primitive_expandable (prims.TopBotMark kind) = Some expandable.Unbuilt
primitive_expandable (prims.TopBotMarks kind) = Some expandable.Unbuilt
primitive_expandable _ = None

-- an undefined control sequence counts, since its expansion is an error
unfoldable pub expandable_of : Meaning → Option Expandable
expandable_of means.Undefined = Some expandable.Undefined
expandable_of (means.Primitive p) = primitive_expandable p
expandable_of (means.Char code cat) = None
expandable_of (means.Macro m) = Some (expandable.Call m)
expandable_of (means.CharGiven code) = None
expandable_of (means.MathGiven code) = None
expandable_of (means.Register kind number) = None
expandable_of means.Unexpanded = None
expandable_of means.EndTemplate = None

-- ---- other questions

unfoldable pub is_outer : Meaning → Bool
is_outer (means.Macro m) = m.is_outer
is_outer _ = false

unfoldable pub is_protected : Meaning → Bool
is_protected (means.Macro m) = m.is_protected
is_protected _ = false

-- a character of this category
abbrev pub has_category : ℕ → Meaning → Bool
has_category k (means.Char code cat) = cat == k
has_category k _ = false

-- \relax, and what \noexpand made it for once
unfoldable pub is_relax : Meaning → Bool
is_relax (means.Primitive prims.Relax) = true
is_relax means.Unexpanded = true
is_relax _ = false

-- this time a token that would be expanded is as \relax
abbrev pub unexpanded_by : Option Expandable → Meaning → Meaning
unexpanded_by None mm = mm
unexpanded_by (Some what) mm = means.Unexpanded

unfoldable pub unexpanded : Meaning → Meaning
unexpanded mm = unexpanded_by (expandable_of mm) mm

-- ---- which scans expand: how a scan gets its tokens

abbrev pub expansion_reading : ExpansionScan → Reading
expansion_reading expansion.ExpandAfter = Plain
expansion_reading expansion.NoExpand = Plain
expansion_reading expansion.StringOf = Plain
expansion_reading (expansion.CsName name) = Expanded
expansion_reading (expansion.Call c) = Plain
expansion_reading expansion.MeaningOf = Plain
expansion_reading expansion.Unless = Plain
expansion_reading (expansion.FirstCharacter test is_cat) = Expanded
expansion_reading (expansion.SecondCharacter test is_cat first) = Expanded
expansion_reading (expansion.FirstMeaning test) = Plain
expansion_reading (expansion.SecondMeaning test first) = Plain
expansion_reading (expansion.Relation test is_dimension first) = Expanded
expansion_reading (expansion.Defined test) = Plain
expansion_reading (expansion.IfCsName test name) = Expanded
expansion_reading (expansion.Skip skip) = Plain

abbrev pub number_reading : NumberScan → Reading
number_reading (number.Character w) = Plain
number_reading _ = Expanded

abbrev pub text_reading : Bool → TextPlace → Reading
text_reading is_expanded place.Before = Expanded
text_reading true (place.Inside depth) = Text
text_reading false (place.Inside depth) = Plain

-- the body of \edef and \xdef is a text that is expanded; behind a character of category 6 a protected macro is expanded too
abbrev pub body_reading : Bool → Option ParameterMark → Reading
body_reading false mark = Plain
body_reading true None = Text
body_reading true (Some mark) = Expanded

abbrev pub assign_reading : AssignScan → Reading
assign_reading (assign.Prefix prefixes) = Expanded
assign_reading (assign.Name naming) = Plain
assign_reading (assign.Params d) = Plain
assign_reading (assign.Body d) = body_reading d.is_expanded d.mark
assign_reading (assign.LetEquals is_global name) = Plain
assign_reading (assign.LetSpace is_global name) = Plain
assign_reading (assign.LetToken is_global name) = Plain
assign_reading (assign.FutureFirst is_global name) = Plain
assign_reading assign.AfterGroup = Plain
assign_reading assign.AfterAssignment = Plain
assign_reading (assign.Arithmetic kind is_global) = Expanded
assign_reading (assign.By kind is_global key) = Expanded
assign_reading (assign.List key is_global reader is_behind) = Expanded

unfoldable pub reading_of : Scan → Reading
reading_of (scan.Expansion e) = expansion_reading e
reading_of (scan.Number n taker) = number_reading n
reading_of (scan.Text t f) = text_reading t.is_expanded t.place
reading_of (scan.Assign a) = assign_reading a
reading_of (scan.Control c) = Expanded

-- the token behind one that is kept
abbrev pub keeper_reading : Keeper → Reading
keeper_reading keeper.ExpandAfter = Expanded
keeper_reading (keeper.Future is_global name) = Plain

-- in a text that is expanded protected macros stay
abbrev pub unless_protected : Bool → Option Expandable → Option Expandable
unless_protected true e = None
unless_protected false e = e

-- in such a text the tokens of \the and \unexpanded go into the text as they are
abbrev pub kept_in_text : Expandable → Expandable
kept_in_text (expandable.The is_kept) = expandable.The true
kept_in_text (expandable.Unexpanded is_kept) = expandable.Unexpanded true
kept_in_text e = e

-- what is expanded of a token, where tokens are got so
unfoldable pub wanted : Reading → Meaning → Option Expandable
wanted Plain mm = None
wanted Expanded mm = expandable_of mm
wanted Text mm = unless_protected (is_protected mm) (option_map kept_in_text (expandable_of mm))
