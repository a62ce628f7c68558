-- How an entry of the stack gets a token, which is expanded or goes to its row, and the rows of expansion ("TeX: The Program", sections
-- 366 to 382).
use Rattle.std.specs.Prelude.{ℕ, List, [], ◌∷◌, Option, Some, None}
use Rattle.etx_matter.specs.declared.token.Token.{Token}
use Rattle.etx_matter.specs.declared.deed.Audience.TheVariants.{LogAndTerminal}
use Rattle.etx_matter.specs.declared.deed.Deed.TheVariants as deed
use Rattle.etx_state.specs.declared.key.Meaning.{Meaning}
use Rattle.etx_state.specs.declared.scan.ExpansionScan.{ExpansionScan}
use Rattle.etx_state.specs.declared.scan.ExpansionScan.TheVariants as expansion
use Rattle.etx_exprs.specs.declared.value.Value.{Value as Amount}
use Rattle.etx_matter.specs.declared.glue.GlueOrder.{GlueOrder}
use Rattle.etx_input.specs.Levels.{line_number}
use Rattle.etx_state.specs.declared.taker.NumberScan.{NumberScan}
use Rattle.etx_state.specs.declared.taker.Outer.{Outer}
use Rattle.etx_state.specs.declared.taker.Taker.{Taker}
use Rattle.etx_state.specs.declared.scan.ExpansionNumber.{ExpansionNumber}
use Rattle.etx_state.specs.declared.scan.ExpansionText.{ExpansionText}
use Rattle.etx_state.specs.declared.scan.OpenText.{OpenText}
use Rattle.etx_state.specs.declared.scan.TextFinish.{TextFinish}
use Rattle.etx_state.specs.declared.scan.Keeper.{Keeper}
use Rattle.etx_state.specs.declared.scan.Keeper.TheVariants as keeper
use Rattle.etx_state.specs.declared.scan.Scan.{Scan}
use Rattle.etx_state.specs.declared.scan.Scan.TheVariants as scan
use Rattle.etx_state.specs.declared.scan.Entry.TheVariants as entry
use Rattle.etx_state.specs.Rests.{RestState}
use Rattle.etx_state.specs.Mouths.{Mouth, with_rest}
use Rattle.etx_answers.specs.declared.meaning.Expandable.{Expandable}
use Rattle.etx_answers.specs.declared.meaning.Reading.{Reading}
use Rattle.etx_answers.specs.declared.meaning.Reading.TheVariants as reading_as
use Rattle.etx_expand.specs.declared.get.Got.{Got}
use Rattle.etx_expand.specs.declared.get.Got.TheVariants as got
use Rattle.etx_expand.specs.declared.fetch.Idle.{Idle}
use Rattle.etx_expand.specs.declared.fetch.Idle.TheVariants as idle
use Rattle.etx_expand.specs.declared.fetch.Fetched.{Fetched}
use Rattle.etx_expand.specs.declared.fetch.Fetched.TheVariants as fetched
use Rattle.etx_answers.specs.declared.plan.Move.TheVariants as move
use Rattle.etx_answers.specs.declared.plan.Turned.TheVariants as turned
use Rattle.etx_answers.specs.Answers.{Planned, planned, reading}
use Rattle.etx_expand.specs.Moves.{After, after, entered, scanning, put_back, planned_turn, begun_turn, finished_turn, word_turn, turned_by, error_deed}
use Rattle.etx_expand.specs.Getting.{Getting, watch_by, watch_of, got_of}
use Rattle.etx_answers.specs.Meanings.{reading_of, keeper_reading, wanted}
use Rattle.etx_expand.specs.Expanding.{expansion_begun}
use Rattle.etx_expand.specs.Calls.{call_row, cut_off}
use Rattle.etx_expand.specs.Names.{cs_name_row, string_row}
use Rattle.etx_expand.specs.Texts.{text_row}
use Rattle.etx_conditionals.specs.Conditionals.{decided, plan_decided, is_same, first_character_row, second_character_row, relation_row, defined_row, if_cs_name_row, skip_row, unless_row}
use Rattle.etx_expand.specs.Converting.{meaning_row, number_given, text_given}
use Rattle.etx_numbers.specs.Dimensions.{WordPlanned, number_word_row}
use Rattle.etx_numbers.specs.Expressions.{number_row}
use Rattle.etx_numbers.specs.Outers.{outer_row}

-- ---- a token for whoever waits

-- what was fetched, and the mouth behind it
pub record Fetching : Type 0 where
  pub now : Mouth
  pub fetched : Fetched

-- a token that is expanded, or one that isn't
abbrev pub wanted_as : Option Expandable → Token → Meaning → Fetched
wanted_as (Some what) t mm = fetched.Idle (idle.Expands t what)
wanted_as None t mm = fetched.Token t mm

abbrev pub fetched_as : Reading → Got → Fetched
fetched_as by (got.Token t mm) = wanted_as (wanted by mm) t mm
fetched_as by (got.Over d) = fetched.Idle (idle.Over d)
fetched_as by (got.Cut text) = fetched.Idle (idle.Cut text)

abbrev pub fetched_by : Reading → Getting → Fetching
fetched_by by g = record { now = g.now; fetched = fetched_as by g.got }

-- for a scan, which stands on the stack no more
unfoldable pub scan_fetched : Scan → Mouth → Fetching
scan_fetched s m = fetched_by (reading_of s) (got_of (watch_by s (watch_of m.entries)) m)

-- for a token that is kept
unfoldable pub keeper_fetched : Keeper → Mouth → Fetching
keeper_fetched by m = fetched_by (keeper_reading by) (got_of (watch_of m.entries) m)

-- for main control, where nothing stands on the stack
unfoldable pub main_fetched : Mouth → Fetching
main_fetched m = fetched_by reading_as.Expanded (got_of (watch_of m.entries) m)

-- what an expandable token begins, in the line that was read last
abbrev pub expanded_turn : Expandable → Token → Mouth → After
expanded_turn what t m = begun_turn t (expansion_begun what t (line_number m.input) m.rest) m

-- ---- where no token comes to a scan, it stands on the stack again

unfoldable pub idle_turn : ℕ → Scan → Idle → Mouth → After
idle_turn left s (idle.Expands t what) m = expanded_turn what t (scanning left s m)
idle_turn left s (idle.Over d) m = after (scanning left s m) (turned_by d m)
idle_turn left s (idle.Cut text) m = after (scanning left (cut_off s) m) (error_deed text m)

-- ---- the scans of expansion, of numbers and of texts

unfoldable pub expansion_row : ExpansionScan → Token → Meaning → ℕ → RestState → Planned
expansion_row expansion.ExpandAfter t mm line r = planned r (move.Hold keeper.ExpandAfter)
expansion_row expansion.NoExpand t mm line r = planned r move.Unexpanded
expansion_row expansion.StringOf t mm line r = planned r (string_row t r)
expansion_row (expansion.CsName name) t mm line r = cs_name_row name t mm r
expansion_row (expansion.Call c) t mm line r = reading (call_row c t r) r
expansion_row expansion.MeaningOf t mm line r = reading (meaning_row mm r) r
expansion_row expansion.Unless t mm line r = unless_row mm line r
expansion_row (expansion.FirstCharacter test is_cat) t mm line r = reading (first_character_row test is_cat t mm) r
expansion_row (expansion.SecondCharacter test is_cat first) t mm line r = second_character_row test is_cat first t mm line r
expansion_row (expansion.FirstMeaning test) t mm line r = planned r (move.Begin (scan.Expansion (expansion.SecondMeaning test mm)))
expansion_row (expansion.SecondMeaning test first) t mm line r = plan_decided (decided test (is_same first mm) line r)
expansion_row (expansion.Relation test is_dimension n) t mm line r = reading (relation_row test is_dimension n t mm r) r
expansion_row (expansion.Defined test) t mm line r = defined_row test mm line r
expansion_row (expansion.IfCsName test name) t mm line r = if_cs_name_row test name t mm line r
expansion_row (expansion.Skip skip) t mm line r = skip_row skip mm line r

-- what each of these scans makes of a token
abbrev pub expansion_token : ℕ → ExpansionScan → Token → Meaning → Mouth → After
expansion_token left e t mm m = planned_turn left t (expansion_row e t mm (line_number m.input) m.rest) m

abbrev pub number_token : ℕ → NumberScan → Taker → Token → Meaning → Mouth → After
number_token left n taker t mm m = planned_turn left t (reading (number_row n taker t mm (line_number m.input) m.rest) m.rest) m

abbrev pub text_token : ℕ → OpenText → TextFinish → Token → Meaning → Mouth → After
text_token left o f t mm m = planned_turn left t (reading (text_row o f t mm) m.rest) m

-- a number that reads a word, behind these letters
abbrev pub word_planned_turn : ℕ → List Token → Token → WordPlanned → Mouth → After
word_planned_turn left ls t p m = word_turn left ls t p.plan (with_rest p.rest m)

abbrev pub number_word_turn : ℕ → NumberScan → Taker → List Token → Token → Mouth → After
number_word_turn left n taker ls t m = word_planned_turn left ls t (number_word_row n taker ls t m.rest) m

-- ---- values

-- a number that was read for an outer scan
abbrev pub outer_turn : ℕ → Outer → Taker → Amount → GlueOrder → Mouth → After
outer_turn left o taker a order m = finished_turn left (record { rest = m.rest; ended = outer_row o taker a order m.rest }) m

abbrev pub expansion_number_turn : ℕ → ExpansionNumber → Amount → Mouth → After
expansion_number_turn left f a m = finished_turn left (number_given f a (line_number m.input) m.rest) m

abbrev pub expansion_text_turn : ℕ → ExpansionText → List Token → Mouth → After
expansion_text_turn left f ts m = finished_turn left (record { rest = m.rest; ended = text_given f ts m.rest }) m

-- ---- what else stands on the stack

-- \expandafter expands the token behind the one that it keeps, and puts that one back before what comes of it
abbrev pub kept_idle : Token → Idle → Mouth → After
kept_idle kept (idle.Expands t what) m = expanded_turn what t (entered (entry.Due kept) m)
kept_idle kept (idle.Over d) m = after (entered (entry.Kept kept keeper.ExpandAfter) m) (turned_by d m)
kept_idle kept (idle.Cut text) m = after (entered (entry.Kept kept keeper.ExpandAfter) m) (error_deed text m)

abbrev pub kept_with : Token → Fetched → Mouth → After
kept_with kept (fetched.Token t mm) m = after (put_back kept (put_back t m)) turned.Again
kept_with kept (fetched.Idle i) m = kept_idle kept i m

unfoldable pub expand_after_turn : Token → Mouth → After
expand_after_turn kept m = kept_with kept (keeper_fetched keeper.ExpandAfter m).fetched (keeper_fetched keeper.ExpandAfter m).now

abbrev pub due_turn : Token → Mouth → After
due_turn t m = after (put_back t m) turned.Again

abbrev pub say_turn : List ℕ → Mouth → After
say_turn text m = after m (turned.Deed (deed.Text text LogAndTerminal))
