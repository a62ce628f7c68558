-- The rows of main control: what each command begins in vertical mode ("TeX: The Program", sections 1029 to 1069 and 1264 to 1279),
-- and what it does with a text.
use Rattle.std.specs.Prelude.{ℕ, true, false, ◌==◌, List, ◌++◌, Option, Some, None, codes, if◌then◌else◌}
use Rattle.etx_matter.specs.declared.token.Token.{Token}
use Rattle.etx_matter.specs.declared.token.Token.TheVariants as token
use Rattle.etx_matter.specs.declared.end.End.TheVariants.{Ended, Unbuilt, Capacity}
use Rattle.etx_matter.specs.declared.end.Limit.TheVariants.{Groups}
use Rattle.etx_prims.specs.declared.command.Primitive.{Primitive}
use Rattle.etx_prims.specs.declared.command.Primitive.TheVariants as prims
use Rattle.etx_prims.specs.declared.general.GroupEdge.{GroupEdge}
use Rattle.etx_prims.specs.declared.general.GroupEdge.TheVariants as edges
use Rattle.etx_prims.specs.declared.general.AfterKind.{AfterKind}
use Rattle.etx_prims.specs.declared.general.AfterKind.TheVariants as afters
use Rattle.etx_prims.specs.declared.general.MessageKind.{MessageKind}
use Rattle.etx_prims.specs.declared.general.MessageKind.TheVariants as messages
use Rattle.etx_state.specs.declared.key.GroupKind.{GroupKind}
use Rattle.etx_state.specs.declared.key.GroupKind.TheVariants as groups
use Rattle.etx_state.specs.declared.key.Meaning.{Meaning}
use Rattle.etx_state.specs.declared.key.Meaning.TheVariants as means
use Rattle.etx_state.specs.declared.scan.AssignScan.TheVariants as assign
use Rattle.etx_state.specs.declared.scan.ControlScan.TheVariants as control
use Rattle.etx_state.specs.declared.scan.ControlText.{ControlText}
use Rattle.etx_state.specs.declared.scan.ControlText.TheVariants as takes
use Rattle.etx_state.specs.declared.scan.TextFinish.TheVariants as finish
use Rattle.etx_state.specs.declared.scan.Scan.{Scan}
use Rattle.etx_state.specs.declared.scan.Scan.TheVariants as scan
use Rattle.etx_state.specs.Values.{begin, ended, after, kind, level}
use Rattle.etx_state.specs.Rests.{RestState, with_values}
use Rattle.etx_answers.specs.declared.meaning.Expandable.TheVariants as expandable
use Rattle.etx_answers.specs.declared.plan.Did.TheVariants as did
use Rattle.etx_answers.specs.declared.plan.Push.TheVariants as push
use Rattle.etx_answers.specs.declared.plan.Start.{Start}
use Rattle.etx_answers.specs.declared.plan.Then.TheVariants as afterwards
use Rattle.etx_answers.specs.Answers.{Begun, Finished, begun, starting, nothing, start_ends, start_fails, start_fails_under, insert_of}
use Rattle.etx_answers.specs.Printing.{escape_in, printed, said_text}
use Rattle.etx_expand.specs.Texts.{text_for}
use Rattle.etx_expand.specs.Expanding.{expansion_begun}
use Rattle.etx_assign.specs.Assignments.{no_prefixes, with_prefix, is_assignment, is_global_in}
use Rattle.etx_assign.specs.Values.{register_begun}
use Rattle.etx_assign.specs.Prefixes.{prefix_scan, assignment_begun}
use Rattle.etx_mouth.specs.declared.commands.Command.{Command}
use Rattle.etx_mouth.specs.declared.commands.Command.TheVariants as command

-- a command that leaves the rest as it is
abbrev pub beginning : Start → RestState → Begun
beginning s r = record { rest = r; start = s }

abbrev pub scan_begun : Scan → Start
scan_begun s = starting (push.Begin s)

-- ---- groups

-- a group begins, unless 10000 are open
unfoldable pub group_begun : GroupKind → RestState → Begun
group_begun k r = if level r.values == 10000 then beginning (start_ends (Capacity Groups)) r else begun (with_values (begin r.values k) r) nothing

-- the innermost group ends, and the tokens that were noted in it are read next
unfoldable pub group_ended : RestState → Begun
group_ended r = begun (with_values (ended r.values) r) (push.Insert (insert_of (after r.values)))

-- the name of a primitive in an error
abbrev pub naming : List ℕ → List ℕ → RestState → List ℕ
naming text name r = text ++ printed r.values (escape_in r.values ++ name)

abbrev pub right_brace_by : Option GroupKind → RestState → Begun
right_brace_by None r = beginning (start_fails (codes "Too many }'s") nothing) r
right_brace_by (Some groups.Simple) r = group_ended r
right_brace_by (Some groups.SemiSimple) r = beginning (start_fails (naming (codes "Extra }, or forgotten ") (codes "endgroup") r) nothing) r

-- a right brace ends a simple group
unfoldable pub right_brace_row : RestState → Begun
right_brace_row r = right_brace_by (kind r.values) r

-- the right brace that a group lacks
abbrev pub missing_brace : Start
missing_brace = start_fails_under (token.Char 125 2) (codes "Missing } inserted") nothing

abbrev pub end_group_by : Option GroupKind → RestState → Begun
end_group_by None r = beginning (start_fails (naming (codes "Extra ") (codes "endgroup") r) nothing) r
end_group_by (Some groups.Simple) r = beginning missing_brace r
end_group_by (Some groups.SemiSimple) r = group_ended r

-- \endgroup ends a semi simple group
unfoldable pub end_group_row : RestState → Begun
end_group_row r = end_group_by (kind r.values) r

abbrev pub group_row : GroupEdge → RestState → Begun
group_row edges.Begin r = group_begun groups.SemiSimple r
group_row edges.End r = end_group_row r

-- ---- characters and commands

unfoldable pub character_row : ℕ → RestState → Begun
character_row cat r =
    if cat == 10 then begun r nothing
    else if cat == 1 then group_begun groups.Simple r
    else if cat == 2 then right_brace_row r
    else beginning (start_ends Unbuilt) r

abbrev pub after_row : AfterKind → Start
after_row afters.Group = scan_begun (scan.Assign assign.AfterGroup)
after_row afters.Assignment = scan_begun (scan.Assign assign.AfterAssignment)

abbrev pub message_row : MessageKind → Token → Start
message_row messages.Message t = scan_begun (scan.Text (text_for t true) (finish.Control takes.Message))
message_row messages.Error t = start_ends Unbuilt

-- an assignment, or what is still to come
abbrev pub other_row : Primitive → Token → RestState → Begun
other_row p t r = beginning (if is_assignment p then assignment_begun p t no_prefixes r.values else start_ends Unbuilt) r

-- what main control does at a primitive, by families
unfoldable pub command_of : Primitive → Command
command_of prims.Relax = command.Nothing
command_of prims.Par = command.Nothing
command_of prims.End = command.End
command_of prims.EndCsName = command.EndCsName
command_of (prims.SemiSimpleGroup edge) = command.Group edge
command_of (prims.After kind) = command.After kind
command_of prims.IgnoreSpaces = command.IgnoreSpaces
command_of (prims.Message kind) = command.Message kind
command_of (prims.Prefix kind) = command.Prefix kind
command_of _ = command.Other

-- a line for each command that is built
unfoldable pub command_begun : Command → Primitive → Token → RestState → Begun
command_begun command.Nothing p t r = begun r nothing
command_begun command.End p t r = beginning (start_ends Ended) r
command_begun command.EndCsName p t r = beginning (start_fails (naming (codes "Extra ") (codes "endcsname") r) nothing) r
command_begun (command.Group edge) p t r = group_row edge r
command_begun (command.After kind) p t r = beginning (after_row kind) r
command_begun command.IgnoreSpaces p t r = beginning (scan_begun (scan.Control control.IgnoreSpaces)) r
command_begun (command.Message kind) p t r = beginning (message_row kind t) r
command_begun (command.Prefix kind) p t r = beginning (scan_begun (prefix_scan (with_prefix kind no_prefixes))) r
command_begun command.Other p t r = other_row p t r

abbrev pub primitive_row : Primitive → Token → RestState → Begun
primitive_row p t r = command_begun (command_of p) p t r

-- What a token begins. (What is expandable is expanded before it comes here; if it came, it would be expanded here.)
unfoldable pub command_row : Token → Meaning → ℕ → RestState → Begun
command_row t (means.Char code cat) line r = character_row cat r
command_row t (means.Primitive p) line r = primitive_row p t r
command_row t means.Unexpanded line r = begun r nothing
command_row t means.EndTemplate line r = beginning (start_ends Unbuilt) r
command_row t (means.CharGiven code) line r = beginning (start_ends Unbuilt) r
command_row t (means.MathGiven code) line r = beginning (start_ends Unbuilt) r
command_row t (means.Register kind number) line r = beginning (register_begun kind number t (is_global_in r.values false)) r
command_row t means.Undefined line r = expansion_begun expandable.Undefined t line r
command_row t (means.Macro m) line r = expansion_begun (expandable.Call m) t line r

-- ---- texts

-- \message: a space that parts the text from what stands on the line, and then the text
unfoldable pub text_taken : ControlText → List Token → RestState → Finished
text_taken takes.Message ts r = record { rest = r; ended = record { then = afterwards.Say (said_text r ts); did = did.Space } }
