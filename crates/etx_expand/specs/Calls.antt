-- A macro call: what becomes of a token where its arguments are matched ("TeX: The Program", sections 389 to 401).
use Rattle.std.specs.Prelude.{ℕ, Bool, true, false, List, [], ◌++◌, codes, if◌then◌else◌}
use Rattle.etx_matter.specs.declared.token.Token.{Token}
use Rattle.etx_macros.specs.declared.fault.Fed.{Fed}
use Rattle.etx_macros.specs.declared.fault.Fed.TheVariants as says
use Rattle.etx_macros.specs.declared.fault.MatchFault.{MatchFault}
use Rattle.etx_macros.specs.declared.fault.MatchFault.TheVariants.{DoesNotMatch, ParagraphEnded, ExtraBrace}
use Rattle.etx_macros.specs.State.{MatcherState}
use Rattle.etx_macros.specs.Feeding.{fed_of, is_copied, is_extra, short, unmatched}
use Rattle.etx_macros.specs.Substituting.{substituted}
use Rattle.etx_state.specs.declared.scan.Call.{Call}
use Rattle.etx_state.specs.declared.scan.ExpansionScan.{ExpansionScan}
use Rattle.etx_state.specs.declared.scan.ExpansionScan.TheVariants as expansion
use Rattle.etx_state.specs.declared.scan.Scan.{Scan}
use Rattle.etx_state.specs.declared.scan.Scan.TheVariants as scan
use Rattle.etx_state.specs.Rests.{RestState}
use Rattle.etx_answers.specs.declared.plan.Insert.{Insert}
use Rattle.etx_answers.specs.declared.plan.Move.{Move}
use Rattle.etx_answers.specs.declared.plan.Move.TheVariants.{Used, Stay, Copied, CopiedLast}
use Rattle.etx_answers.specs.declared.plan.Plan.{Plan}
use Rattle.etx_answers.specs.Answers.{quiet, used, fails, fails_back, fails_under, insert_of}
use Rattle.etx_expand.specs.Getting.{par}
use Rattle.etx_answers.specs.Printing.{shown_name}

abbrev pub call_scan : Call → Scan
call_scan c = scan.Expansion (expansion.Call c)

-- the text of an error that names the macro
abbrev pub naming : List ℕ → Token → List ℕ → RestState → List ℕ
naming before name behind r = (before ++ shown_name r name) ++ behind

-- A right brace that no left brace of the argument opens: \par is read before it, and the call goes on as that of a macro which
-- isn't long. What was matched of the delimiter belongs to the argument then.
abbrev pub extra_brace : Call → RestState → Plan
extra_brace c r = fails_under par (naming (codes "Argument of ") c.name (codes " has an extra }") r) (Stay (call_scan (record c { matcher = unmatched c.matcher; is_cut = false })))

-- The end of a paragraph ends the call, and is read again. A call that was cut off it ends without an error, and is gone.
abbrev pub paragraph_ended : Bool → Token → RestState → Plan
paragraph_ended true name r = quiet used
paragraph_ended false name r = fails_back (naming (codes "Paragraph ended before ") name (codes " was complete") r) used

abbrev pub does_not_match : Token → RestState → Plan
does_not_match name r = fails (naming (codes "Use of ") name (codes " doesn't match its definition") r) used

-- why no call goes on with a token
abbrev pub refused : MatchFault → Call → RestState → Plan
refused DoesNotMatch c r = does_not_match c.name r
refused ParagraphEnded c r = paragraph_ended c.is_cut c.name r
refused ExtraBrace c r = extra_brace c r

-- a token that is copied into an argument is a step more
abbrev pub goes_on : Bool → Scan → Move
goes_on true s = Copied s
goes_on false s = Stay s

abbrev pub is_over : Bool → Insert → Move
is_over true i = CopiedLast i
is_over false i = Used i

-- a call that is complete stands for the body with its arguments
abbrev pub fed_by : Fed → MatcherState → Bool → Call → RestState → Plan
fed_by says.More matcher copied c r = quiet (goes_on copied (call_scan (record c { matcher = matcher })))
fed_by says.Done matcher copied c r = quiet (is_over copied (insert_of (substituted c.definition.body matcher.args)))
fed_by (says.Fault fault) matcher copied c r = refused fault (record c { matcher = matcher }) r

-- The call of a macro gets a token. An extra right brace is known before it is fed, while what was matched still counts.
unfoldable pub call_row : Call → Token → RestState → Plan
call_row c t r = if is_extra c.matcher t then extra_brace c r else fed_by (fed_of c.matcher t).fed (fed_of c.matcher t).matcher (is_copied c.matcher t) c r

-- A call that is cut off goes on as that of a macro which isn't long. Other scans go on as they were.
abbrev pub expansion_cut : ExpansionScan → ExpansionScan
expansion_cut (expansion.Call c) = expansion.Call (record c { matcher = short c.matcher; is_cut = true })
expansion_cut e = e

unfoldable pub cut_off : Scan → Scan
cut_off (scan.Expansion e) = scan.Expansion (expansion_cut e)
cut_off (scan.Number n taker) = scan.Number n taker
cut_off (scan.Text t f) = scan.Text t f
cut_off (scan.Assign a) = scan.Assign a
cut_off (scan.Control c) = scan.Control c
