-- The turns of assignments: a scan gets a token, a finisher a number, and \futurelet the second of its tokens.
use Rattle.std.specs.Prelude.{ℕ, Bool, List, [], ◌∷◌, Option, Some, None}
use Rattle.etx_matter.specs.declared.token.Token.{Token}
use Rattle.etx_input.specs.declared.origin.Origin.TheVariants.{Fresh}
use Rattle.etx_keys.specs.declared.key.Key.TheVariants as key
use Rattle.etx_keys.specs.declared.single.Single.TheVariants as singles
use Rattle.etx_state.specs.declared.key.Val.TheVariants as val
use Rattle.etx_state.specs.declared.key.Meaning.{Meaning}
use Rattle.etx_exprs.specs.declared.value.Value.{Value as Amount}
use Rattle.etx_input.specs.Levels.{line_number}
use Rattle.etx_state.specs.declared.scan.AssignNumber.{AssignNumber}
use Rattle.etx_state.specs.declared.scan.AssignText.{AssignText}
use Rattle.etx_state.specs.declared.scan.Scan.TheVariants as scan
use Rattle.etx_answers.specs.declared.plan.Did.TheVariants as did
use Rattle.etx_answers.specs.declared.plan.Then.TheVariants as afterwards
use Rattle.etx_answers.specs.declared.plan.WordPlan.{WordPlan}
use Rattle.etx_answers.specs.declared.plan.WordPlan.TheVariants as plans
use Rattle.etx_state.specs.declared.scan.AssignScan.{AssignScan}
use Rattle.etx_state.specs.declared.scan.AssignScan.TheVariants as assign
use Rattle.etx_state.specs.declared.scan.Keeper.TheVariants as keeper
use Rattle.etx_state.specs.declared.scan.Entry.TheVariants as entry
use Rattle.etx_state.specs.Values.{change, noted}
use Rattle.etx_state.specs.Rests.{RestState, with_values}
use Rattle.etx_state.specs.Mouths.{Mouth, with_rest}
use Rattle.etx_expand.specs.declared.fetch.Idle.{Idle}
use Rattle.etx_expand.specs.declared.fetch.Idle.TheVariants as idle
use Rattle.etx_expand.specs.declared.fetch.Fetched.{Fetched}
use Rattle.etx_expand.specs.declared.fetch.Fetched.TheVariants as fetched
use Rattle.etx_answers.specs.declared.plan.Move.TheVariants.{Hold}
use Rattle.etx_answers.specs.declared.plan.Turned.TheVariants as turned
use Rattle.etx_answers.specs.Answers.{Planned, planned, reading, used}
use Rattle.etx_expand.specs.Moves.{After, after, entered, put_back, insert_if, planned_turn, finished_turn, word_turn, turned_by, error_deed}
use Rattle.etx_expand.specs.Turn.{keeper_fetched, expanded_turn}
use Rattle.etx_assign.specs.Assignments.{Over, over}
use Rattle.etx_assign.specs.Prefixes.{prefix_row}
use Rattle.etx_assign.specs.Definitions.{name_row, params_row, body_row}
use Rattle.etx_assign.specs.Meanings.{given_meaning, let_over, let_equals_row, let_space_row}
use Rattle.etx_assign.specs.Values.{number_taken}
use Rattle.etx_assign.specs.Arithmetic.{arithmetic_row, by_row, by_word_row}
use Rattle.etx_assign.specs.Lists.{list_row, list_given}

-- ---- scans

-- \aftergroup notes a token in the innermost group
abbrev pub noted_in : Token → RestState → RestState
noted_in t r = with_values (noted r.values t) r

-- \afterassignment keeps one, in no group
abbrev pub kept_for_later : Token → RestState → RestState
kept_for_later t r = with_values (change r.values (key.Single singles.AfterAssignment) (val.Kept (Some t))) r

-- a line for each scan of assignments
unfoldable pub assign_row : AssignScan → Token → Meaning → ℕ → RestState → Planned
assign_row (assign.Prefix p) t mm line r = reading (prefix_row p t mm r) r
assign_row (assign.Name n) t mm line r = name_row n t r
assign_row (assign.Params d) t mm line r = params_row d t mm r
assign_row (assign.Body d) t mm line r = body_row d t mm r
assign_row (assign.LetEquals is_global name) t mm line r = let_equals_row is_global name t mm r
assign_row (assign.LetSpace is_global name) t mm line r = let_space_row is_global name mm r
assign_row (assign.LetToken is_global name) t mm line r = let_over is_global name mm r
assign_row (assign.FutureFirst is_global name) t mm line r = planned r (Hold (keeper.Future is_global name))
assign_row assign.AfterGroup t mm line r = planned (noted_in t r) used
assign_row assign.AfterAssignment t mm line r = planned (kept_for_later t r) used
assign_row (assign.Arithmetic kind is_global) t mm line r = arithmetic_row kind is_global mm r
assign_row (assign.By kind is_global k) t mm line r = reading (by_row kind k is_global t mm line r) r
assign_row (assign.List k is_global reader is_behind) t mm line r = list_row k is_global reader is_behind t mm r

-- what a scan of assignments makes of a token
abbrev pub assign_token : ℕ → AssignScan → Token → Meaning → Mouth → After
assign_token left a t mm m = planned_turn left t (assign_row a t mm (line_number m.input) m.rest) m

-- ---- numbers

abbrev pub number_turn : ℕ → AssignNumber → Amount → Mouth → After
number_turn left f a m = finished_turn left (number_taken f a m.rest) m

-- ---- texts

abbrev pub text_turn : ℕ → AssignText → List Token → Mouth → After
text_turn left f ts m = finished_turn left (list_given f ts m.rest) m

-- ---- words

-- only arithmetic reads a word
unfoldable pub word_plan : AssignScan → List Token → Token → WordPlan
word_plan (assign.By kind is_global k) ls t = by_word_row kind k is_global ls t
word_plan a ls t = plans.Lost (record { then = afterwards.More (scan.Assign a); did = did.Nothing })

abbrev pub assign_word_turn : ℕ → AssignScan → List Token → Token → Mouth → After
assign_word_turn left a ls t m = word_turn left ls t (word_plan a ls t) m

-- ---- \futurelet

-- its two tokens are read again, behind the token that \afterassignment keeps
abbrev pub future_over : Over → Token → Token → Mouth → Mouth
future_over o first t m = insert_if o.kept (put_back first (put_back t (with_rest o.rest m)))

-- it gives the meaning of the second token that it looks at
abbrev pub future_token : Bool → Token → Token → Token → Meaning → Mouth → After
future_token is_global name first t mm m = after (future_over (over (given_meaning is_global name mm m.rest)) first t m) turned.Again

abbrev pub future_idle : Bool → Token → Token → Idle → Mouth → After
future_idle is_global name first (idle.Expands t what) m = expanded_turn what t (entered (entry.Kept first (keeper.Future is_global name)) m)
future_idle is_global name first (idle.Over d) m = after (entered (entry.Kept first (keeper.Future is_global name)) m) (turned_by d m)
future_idle is_global name first (idle.Cut text) m = after (entered (entry.Kept first (keeper.Future is_global name)) m) (error_deed text m)

abbrev pub future_with : Bool → Token → Token → Fetched → Mouth → After
future_with is_global name first (fetched.Token t mm) m = future_token is_global name first t mm m
future_with is_global name first (fetched.Idle i) m = future_idle is_global name first i m

unfoldable pub future_turn : Bool → Token → Token → Mouth → After
future_turn is_global name first m = future_with is_global name first (keeper_fetched (keeper.Future is_global name) m).fetched (keeper_fetched (keeper.Future is_global name) m).now
