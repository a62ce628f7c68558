-- How a token is got: from the input, with its meaning; what an outer macro and the end of a file do in the midst of a scan
-- ("TeX: The Program", sections 336 to 339, 341 to 362 and 365).
use Rattle.std.specs.Prelude.{ℕ, Bool, true, false, List, [], ◌∷◌, ◌++◌, Option, Some, None, codes, if◌then◌else◌}
use Rattle.etx_matter.specs.declared.token.Token.{Token}
use Rattle.etx_matter.specs.declared.token.Token.TheVariants.{Char, Name}
use Rattle.etx_matter.specs.declared.end.End.TheVariants.{Fatal, Capacity}
use Rattle.etx_matter.specs.declared.end.FatalError.TheVariants.{NoLegalEnd}
use Rattle.etx_matter.specs.declared.end.Limit.TheVariants.{Names}
use Rattle.etx_lexer.specs.declared.lexed.Lexed.{Lexed}
use Rattle.etx_lexer.specs.declared.lexed.Lexed.TheVariants as lexed
use Rattle.etx_input.specs.declared.origin.Origin.{Origin}
use Rattle.etx_input.specs.declared.origin.Origin.TheVariants.{Fresh, Back, Unexpanded, Kept}
use Rattle.etx_input.specs.declared.levels.Next.{Next}
use Rattle.etx_input.specs.declared.levels.Next.TheVariants as next
use Rattle.etx_state.specs.declared.key.Meaning.{Meaning}
use Rattle.etx_state.specs.declared.scan.ExpansionScan.{ExpansionScan}
use Rattle.etx_state.specs.declared.scan.ExpansionScan.TheVariants as expansion
use Rattle.etx_state.specs.declared.scan.AssignScan.{AssignScan}
use Rattle.etx_state.specs.declared.scan.AssignScan.TheVariants as assign
use Rattle.etx_state.specs.declared.scan.Scan.{Scan}
use Rattle.etx_state.specs.declared.scan.Scan.TheVariants as scan
use Rattle.etx_state.specs.declared.scan.Entry.{Entry}
use Rattle.etx_state.specs.declared.scan.Entry.TheVariants as entry
use Rattle.etx_state.specs.Reading.{token_meaning}
use Rattle.etx_state.specs.Rests.{RestState, number_of, with_name, has_room}
use Rattle.etx_state.specs.Mouths.{Mouth, with_rest, with_input, given}
use Rattle.etx_expand.specs.declared.get.Watch.{Watch}
use Rattle.etx_expand.specs.declared.get.Watch.TheVariants as watch
use Rattle.etx_expand.specs.declared.get.Got.{Got}
use Rattle.etx_expand.specs.declared.get.Got.TheVariants as got
use Rattle.etx_answers.specs.declared.plan.Did.{Did}
use Rattle.etx_answers.specs.declared.plan.Did.TheVariants as did
use Rattle.etx_expand.specs.Moves.{charge_of, charged, read_next, put_back}
use Rattle.etx_answers.specs.Meanings.{is_outer, unexpanded}
use Rattle.etx_answers.specs.Printing.{shown_name, printed, escape_in}
use Rattle.std.specs.Fmt.{decimal}
use Rattle.etx_prims.specs.Expansion.{if_name}
use Rattle.etx_state.specs.declared.condition.Condition.{Condition}
use Rattle.etx_state.specs.declared.key.Meaning.TheVariants as means
use Rattle.etx_state.specs.Conditions.{top_condition}

-- what was got, and the mouth behind it
pub record Getting : Type 0 where
  pub now : Mouth
  pub got : Got

abbrev pub getting : Mouth → Got → Getting
getting m g = record { now = m; got = g }

-- ---- where control sequences are forbidden that are outer

-- the innermost scan that says something decides
abbrev pub expansion_watch : ExpansionScan → Watch → Watch
expansion_watch expansion.ExpandAfter others = others
expansion_watch expansion.NoExpand others = watch.Nothing
expansion_watch expansion.StringOf others = watch.Nothing
expansion_watch (expansion.CsName name) others = others
expansion_watch (expansion.Call c) others = watch.Matching c.name
expansion_watch expansion.MeaningOf others = watch.Nothing
expansion_watch expansion.Unless others = others
expansion_watch (expansion.FirstCharacter test is_cat) others = others
expansion_watch (expansion.SecondCharacter test is_cat first) others = others
expansion_watch (expansion.FirstMeaning test) others = watch.Nothing
expansion_watch (expansion.SecondMeaning test first) others = watch.Nothing
expansion_watch (expansion.Relation test is_dimension first) others = others
expansion_watch (expansion.Defined test) others = watch.Nothing
expansion_watch (expansion.IfCsName test name) others = others
expansion_watch (expansion.Skip skip) others = watch.Skipping skip.line

abbrev pub assign_watch : AssignScan → Watch → Watch
assign_watch (assign.Params d) others = watch.Defining d.name
assign_watch (assign.Body d) others = watch.Defining d.name
assign_watch (assign.Prefix p) others = others
assign_watch (assign.Name n) others = others
assign_watch (assign.LetEquals is_global name) others = others
assign_watch (assign.LetSpace is_global name) others = others
assign_watch (assign.LetToken is_global name) others = others
assign_watch (assign.FutureFirst is_global name) others = others
assign_watch assign.AfterGroup others = others
assign_watch assign.AfterAssignment others = others
assign_watch (assign.Arithmetic kind is_global) others = others
assign_watch (assign.By kind is_global key) others = others
assign_watch (assign.List key is_global reader is_behind) others = others

unfoldable pub watch_by : Scan → Watch → Watch
watch_by (scan.Expansion e) others = expansion_watch e others
watch_by (scan.Number n taker) others = others
watch_by (scan.Text t f) others = watch.Absorbing t.reader
watch_by (scan.Assign a) others = assign_watch a others
watch_by (scan.Control c) others = others

abbrev pub watch_at : Entry → Watch → Watch
watch_at (entry.Scan left s) others = watch_by s others
watch_at (entry.Given left v) others = others
watch_at (entry.Kept token by) others = others
watch_at (entry.Due token) others = others
watch_at (entry.Say text) others = others
watch_at (entry.Word left letters s) others = watch_by s others

unfoldable pub watch_of : List Entry → Watch
watch_of [] = watch.Nothing
watch_of (e ∷ es) = watch_at e (watch_of es)

-- the same, where a scan stands above them
abbrev pub watched_from : Option Scan → Watch → Watch
watched_from None others = others
watched_from (Some s) others = watch_by s others

-- the conditional of which a text is left out, as errors say it
abbrev pub unless_text : Bool → RestState → List ℕ
unless_text true r = printed r.values (escape_in r.values ++ codes "unless")
unless_text false r = []

abbrev pub condition_text : Option Condition → RestState → List ℕ
condition_text None r = printed r.values (escape_in r.values ++ codes "fi")
condition_text (Some c) r = unless_text c.is_unless r ++ printed r.values (escape_in r.values ++ if_name c.kind)

abbrev pub skipped : ℕ → RestState → List ℕ
skipped line r = condition_text (top_condition r.conditions) r ++ codes "; all text was ignored after line " ++ decimal line

-- what a scan reads, as errors say it, and the control sequence that reads it
abbrev pub watched : RestState → Watch → List ℕ
watched r watch.Nothing = []
watched r (watch.Defining name) = codes "definition of " ++ shown_name r name
watched r (watch.Absorbing name) = codes "text of " ++ shown_name r name
watched r (watch.Matching name) = codes "use of " ++ shown_name r name
watched r (watch.Skipping line) = skipped line r

-- how such an error begins
abbrev pub reported : Watch → List ℕ → List ℕ
reported (watch.Skipping line) what = codes "Incomplete "
reported _ what = what

-- the control sequence that ends a paragraph
abbrev pub par : Token
par = Name (record { 0 = 0 })

-- the frozen \fi
abbrev pub fi : Token
fi = Name (record { 0 = 1048577 })

-- what the end of a scan wants
abbrev pub ending_of : Watch → List Token
ending_of watch.Nothing = []
ending_of (watch.Defining name) = Char 125 2 ∷ []
ending_of (watch.Absorbing name) = Char 125 2 ∷ []
ending_of (watch.Matching name) = par ∷ []
ending_of (watch.Skipping line) = fi ∷ []

-- An outer macro in the midst of a scan: the scan gets a space, then what ends it, and then the macro is read again.
abbrev pub forbidden : Watch → Token → Mouth → Getting
forbidden w t m =
    getting (read_next Back (Char 32 10 ∷ []) (read_next Fresh (ending_of w) (put_back t m)))
    (got.Cut (reported w (codes "Forbidden control sequence found while scanning ") ++ watched m.rest w))

-- A file that is over in the midst of a scan: the scan gets what ends it.
abbrev pub file_ended : Watch → Mouth → Getting
file_ended watch.Nothing m = getting m (got.Over did.Nothing)
file_ended w m = getting (read_next Fresh (ending_of w) m) (got.Cut (reported w (codes "File ended while scanning ") ++ watched m.rest w))

abbrev pub admitted : Watch → Token → Meaning → Mouth → Getting
admitted watch.Nothing t mm m = getting m (got.Token t mm)
admitted w t mm m = if is_outer mm then forbidden w t m else getting m (got.Token t mm)

-- ---- what is got

unfoldable pub token_got : Watch → Token → Origin → Mouth → Getting
token_got w t Fresh m = admitted w t (token_meaning m.rest.values t) m
token_got w t Back m = admitted w t (token_meaning m.rest.values t) m
token_got w t Unexpanded m = getting m (got.Token t (unexpanded (token_meaning m.rest.values t)))
token_got w t Kept m = getting m (got.Token t means.Unexpanded)

abbrev pub invalid_text : List ℕ
invalid_text = codes "Text line contains an invalid character"

abbrev pub invalid_did : Did
invalid_did = did.Error (record { text = invalid_text; is_back = false; inserted = None })

-- a name of a file gets its number
unfoldable pub name_got : Watch → List ℕ → Mouth → Getting
name_got w name m = if has_room name m.rest then token_got w (Name (record { 0 = number_of name m.rest })) Fresh (with_rest (with_name name m.rest) m) else getting m (got.Over (did.End (Capacity Names)))

-- a token is a step; a character that is invalid is none
unfoldable pub lexed_got : Watch → Lexed → Mouth → Getting
lexed_got w (lexed.Char code cat) m = token_got w (Char code cat) Fresh (charged 1 m)
lexed_got w (lexed.Name name) m = name_got w name (charged 1 m)
lexed_got w (lexed.Invalid code) m = getting m (got.Over invalid_did)
lexed_got w lexed.LineEnd m = getting (charged 1 m) (got.Over did.Nothing)

abbrev pub next_got : Watch → Next → Mouth → Getting
next_got w (next.Listed t origin) m = token_got w t origin (charged (charge_of origin) m)
next_got w (next.Lexed x) m = lexed_got w x m
next_got w next.FileEnd m = file_ended w m
next_got w next.Over m = getting m (got.Over (did.End (Fatal NoLegalEnd)))

-- what the mouth gets next, where outer control sequences are forbidden so
unfoldable pub got_of : Watch → Mouth → Getting
got_of w m = next_got w (given m).next (with_input (given m).input m)
