-- Each turn of the machine goes on: by owner, from what holds of each owner's turns.
use Rattle.std.proofs.Common.{ℕ, Bool, true, false, nat_lt, List, [], ◌∷◌, length, arith, if◌then◌else◌}
use Rattle.etx_matter.specs.declared.token.Token.{Token}
use Rattle.etx_matter.specs.declared.glue.GlueOrder.{GlueOrder}
use Rattle.etx_exprs.specs.declared.value.Value.{Value as Amount}
use Rattle.etx_input.specs.Levels.{line_number}
use Rattle.etx_state.specs.declared.taker.Outer.{Outer}
use Rattle.etx_state.specs.declared.taker.Taker.{Taker}
use Rattle.etx_state.specs.declared.scan.NumberFinish.{NumberFinish}
use Rattle.etx_matter.specs.declared.end.End.TheVariants.{Capacity}
use Rattle.etx_matter.specs.declared.end.Limit.TheVariants.{InputLevels, Scans}
use Rattle.etx_state.specs.declared.key.Meaning.{Meaning}
use Rattle.etx_state.specs.declared.scan.ControlScan.TheVariants as control
use Rattle.etx_state.specs.declared.scan.NumberFinish.TheVariants as number_for
use Rattle.etx_state.specs.declared.scan.TextFinish.TheVariants as text_for
use Rattle.etx_state.specs.declared.scan.Value.{Value}
use Rattle.etx_state.specs.declared.scan.Value.TheVariants as value
use Rattle.etx_state.specs.declared.scan.Keeper.{Keeper}
use Rattle.etx_state.specs.declared.scan.Keeper.TheVariants as keeper
use Rattle.etx_state.specs.declared.scan.Scan.{Scan}
use Rattle.etx_state.specs.declared.scan.Scan.TheVariants as scan
use Rattle.etx_state.specs.declared.scan.Entry.{Entry}
use Rattle.etx_state.specs.declared.scan.Entry.TheVariants as entry
use Rattle.etx_state.specs.Mouths.{Mouth, with_entries, with_rest}
use Rattle.etx_expand.specs.declared.fetch.Idle.TheVariants as idle
use Rattle.etx_expand.specs.declared.fetch.Fetched.{Fetched}
use Rattle.etx_expand.specs.declared.fetch.Fetched.TheVariants as fetched
use Rattle.etx_answers.specs.declared.plan.Move.TheVariants.{Stay}
use Rattle.etx_answers.specs.declared.plan.Did.TheVariants as did
use Rattle.etx_answers.specs.declared.plan.Then.TheVariants as afterwards
use Rattle.etx_answers.specs.declared.plan.WordPlan.TheVariants as plans
use Rattle.etx_expand.specs.Converting.{number_given, text_given}
use Rattle.etx_numbers.specs.Dimensions.{number_word_row}
use Rattle.etx_numbers.specs.Outers.{outer_row}
use Rattle.etx_answers.specs.declared.plan.Turned.{Turned}
use Rattle.etx_answers.specs.declared.plan.Turned.TheVariants as turned
use Rattle.etx_answers.specs.Answers.{planned}
use Rattle.etx_answers.specs.Meanings.{has_category}
use Rattle.etx_expand.specs.Measure.{back_weight, Steps, PaidFor, Falls, Goes}
use Rattle.etx_state.specs.declared.taker.NumberScan.{NumberScan}
use Rattle.etx_state.specs.Rests.{RestState}
use Rattle.etx_expand.specs.Moves.{after, entered, scanning, planned_turn, turned_by}
use Rattle.etx_expand.specs.Turn.{main_fetched, scan_fetched, number_word_turn}
use Rattle.etx_expand.proofs.Falling.{scan_fetched_pays, main_fetched_pays, planned_goes, begun_goes, expanded_goes, finished_goes, word_goes, idle_goes, over_goes, cut_goes, falls_above, above_steps, falls_gone, free_goes, free_cut, expansion_goes, number_goes, text_goes, expand_after_goes, due_goes, say_goes}
use Rattle.etx_assign.proofs.Falling.{assign_goes, future_goes, number_goes as assign_number_goes, text_goes as assign_text_goes, assign_word_goes}
use Rattle.etx_mouth.specs.Commands.{command_row, text_taken}
use Rattle.etx_mouth.specs.Machine.{command_turn, main_with, main_turn, behind_spaces, scan_token, scan_with, scan_turn, number_given_turn, amount_by, amount_turn, value_turn, word_token, word_with, word_entry_turn, kept_turn, entry_turn, top_turn, stack_turn, fitting, machine_turn}

command_goes : (t : Token) (mm : Meaning) (old m : Mouth) → Falls back_weight old m → Steps 1 old m → Goes old (command_turn t mm m)
command_goes t mm old m paid steps = begun_goes t (command_row t mm (line_number m.input) m.rest) old m paid steps

main_goes : (m : Mouth) → Goes m (main_turn m)
unfolding main_turn
main_goes m = by (main_fetched m).fetched (main_fetched m).now (main_fetched_pays m).paid (main_fetched_pays m).steps
  where
    by : (f : Fetched) (n : Mouth) → PaidFor f m n → Steps 1 m n → Goes m (main_with f n)
    by (fetched.Token t mm) n paid steps = command_goes t mm m n paid steps
    by (fetched.Idle (idle.Expands t what)) n paid steps = expanded_goes what t m n paid steps
    by (fetched.Idle (idle.Over d)) n paid steps = free_goes d m n paid steps
    by (fetched.Idle (idle.Cut text)) n paid steps = free_cut text m n steps

spaces_go : (left : ℕ) (t : Token) (mm : Meaning) (old m : Mouth) → Falls back_weight old m → Steps 1 old m → Goes (scanning left (scan.Control control.IgnoreSpaces) old) (behind_spaces left t mm m)
spaces_go left t mm old m paid steps = by (has_category 10 mm)
  where
    by : (b : Bool) → Goes (scanning left (scan.Control control.IgnoreSpaces) old) (if b then planned_turn left t (planned m.rest (Stay (scan.Control control.IgnoreSpaces))) m else command_turn t mm m)
    by true = planned_goes left (scan.Control control.IgnoreSpaces) t (planned m.rest (Stay (scan.Control control.IgnoreSpaces))) old m paid steps
    by false = command_goes t mm (scanning left (scan.Control control.IgnoreSpaces) old) m (falls_gone back_weight (entry.Scan left (scan.Control control.IgnoreSpaces)) old m paid) (record { forth = steps.forth; few = steps.few })

token_goes : (left : ℕ) (s : Scan) (t : Token) (mm : Meaning) (old m : Mouth) → Falls back_weight old m → Steps 1 old m → Goes (scanning left s old) (scan_token left s t mm m)
token_goes left (scan.Expansion e) t mm old m paid steps = expansion_goes left e t mm old m paid steps
token_goes left (scan.Number n f) t mm old m paid steps = number_goes left n f t mm old m paid steps
token_goes left (scan.Text o f) t mm old m paid steps = text_goes left o f t mm old m paid steps
token_goes left (scan.Assign a) t mm old m paid steps = assign_goes left a t mm old m paid steps
token_goes left (scan.Control control.IgnoreSpaces) t mm old m paid steps = spaces_go left t mm old m paid steps

scan_goes : (left : ℕ) (s : Scan) (m : Mouth) → Goes (scanning left s m) (scan_turn left s m)
unfolding scan_turn
scan_goes left s m = by (scan_fetched s m).fetched (scan_fetched s m).now (scan_fetched_pays s m).paid (scan_fetched_pays s m).steps
  where
    by : (f : Fetched) (n : Mouth) → PaidFor f m n → Steps 1 m n → Goes (scanning left s m) (scan_with left s f n)
    by (fetched.Token t mm) n paid steps = token_goes left s t mm m n paid steps
    by (fetched.Idle i) n paid steps = idle_goes left s i m n paid steps

number_given_goes : (f : NumberFinish) (left : ℕ) (a : Amount) (v : Value) (m : Mouth) → Goes (entered (entry.Given left v) m) (number_given_turn f left a m)
number_given_goes (number_for.Expansion f) left a v m = finished_goes left v (number_given f a (line_number m.input) m.rest) m
number_given_goes (number_for.Assign f) left a v m = assign_number_goes left f a v m

amount_goes : (os : List Outer) (left : ℕ) (a : Amount) (order : GlueOrder) (taker : Taker) (v : Value) (m : Mouth) → Goes (entered (entry.Given left v) m) (amount_by os left a order taker m)
amount_goes [] left a order taker v m = number_given_goes taker.finish left a v m
amount_goes (o ∷ os) left a order taker v m = finished_goes left v (record { rest = m.rest; ended = outer_row o (record taker { outers = os }) a order m.rest }) m

value_goes : (left : ℕ) (v : Value) (m : Mouth) → Goes (entered (entry.Given left v) m) (value_turn left v m)
unfolding amount_turn
value_goes left (value.Number a order taker) m = amount_goes taker.outers left a order taker (value.Number a order taker) m
value_goes left (value.Text ts (text_for.Expansion f)) m = finished_goes left (value.Text ts (text_for.Expansion f)) (record { rest = m.rest; ended = text_given f ts m.rest }) m
value_goes left (value.Text ts (text_for.Assign f)) m = assign_text_goes left f ts (value.Text ts (text_for.Assign f)) m
value_goes left (value.Text ts (text_for.Control f)) m = finished_goes left (value.Text ts (text_for.Control f)) (text_taken f ts m.rest) m

-- a row of a number may change the rest, which weighs nothing
rest_falls : (r : RestState) (n : ℕ) (old m : Mouth) → Falls n old m → Falls n old (with_rest r m)
rest_falls r n old m paid = paid

number_word_goes : (left : ℕ) (n : NumberScan) (taker : Taker) (ls : List Token) (t : Token) (old m : Mouth) → Falls back_weight old m → Steps 1 old m → Goes (entered (entry.Word left ls (scan.Number n taker)) old) (number_word_turn left n taker ls t m)
number_word_goes left n taker ls t old m paid steps =
    let row = number_word_row n taker ls t m.rest in
    word_goes left ls (scan.Number n taker) t row.plan old (with_rest row.rest m) (rest_falls row.rest back_weight old m paid) (record { forth = steps.forth; few = steps.few })

word_token_goes : (left : ℕ) (ls : List Token) (s : Scan) (t : Token) (old m : Mouth) → Falls back_weight old m → Steps 1 old m → Goes (entered (entry.Word left ls s) old) (word_token left ls s t m)
word_token_goes left ls (scan.Number n taker) t old m paid steps = number_word_goes left n taker ls t old m paid steps
word_token_goes left ls (scan.Assign a) t old m paid steps = assign_word_goes left a ls t old m paid steps
word_token_goes left ls (scan.Expansion e) t old m paid steps = word_goes left ls (scan.Expansion e) t (plans.Lost (record { then = afterwards.More (scan.Expansion e); did = did.Nothing })) old m paid steps
word_token_goes left ls (scan.Text o f) t old m paid steps = word_goes left ls (scan.Text o f) t (plans.Lost (record { then = afterwards.More (scan.Text o f); did = did.Nothing })) old m paid steps
word_token_goes left ls (scan.Control c) t old m paid steps = word_goes left ls (scan.Control c) t (plans.Lost (record { then = afterwards.More (scan.Control c); did = did.Nothing })) old m paid steps

word_entry_goes : (left : ℕ) (ls : List Token) (s : Scan) (m : Mouth) → Goes (entered (entry.Word left ls s) m) (word_entry_turn left ls s m)
unfolding word_entry_turn
word_entry_goes left ls s m = by (scan_fetched s m).fetched (scan_fetched s m).now (scan_fetched_pays s m).paid (scan_fetched_pays s m).steps
  where
    by : (f : Fetched) (n : Mouth) → PaidFor f m n → Steps 1 m n → Goes (entered (entry.Word left ls s) m) (word_with left ls s f n)
    by (fetched.Token t mm) n paid steps = word_token_goes left ls s t m n paid steps
    by (fetched.Idle (idle.Expands t what)) n paid steps = expanded_goes what t (entered (entry.Word left ls s) m) (entered (entry.Word left ls s) n) (falls_above back_weight (entry.Word left ls s) (entry.Word left ls s) m n (omega arith) paid) (above_steps (entry.Word left ls s) (entry.Word left ls s) m n steps)
    by (fetched.Idle (idle.Over d)) n paid steps = over_goes (entry.Word left ls s) (turned_by d n) m n paid steps
    by (fetched.Idle (idle.Cut text)) n paid steps = cut_goes (entry.Word left ls s) (entry.Word left ls s) text m n steps

kept_goes : (kept : Token) (by : Keeper) (m : Mouth) → Goes (entered (entry.Kept kept by) m) (kept_turn kept by m)
kept_goes kept keeper.ExpandAfter m = expand_after_goes kept m
kept_goes kept (keeper.Future is_global name) m = future_goes is_global name kept m

entry_goes : (e : Entry) (m : Mouth) → Goes (entered e m) (entry_turn e m)
entry_goes (entry.Scan left s) m = scan_goes left s m
entry_goes (entry.Given left v) m = value_goes left v m
entry_goes (entry.Kept kept by) m = kept_goes kept by m
entry_goes (entry.Due t) m = due_goes t m
entry_goes (entry.Say text) m = say_goes text m
entry_goes (entry.Word left ls s) m = word_entry_goes left ls s m

top_goes : (es : List Entry) (m : Mouth) → Goes (with_entries es m) (top_turn es (with_entries es m))
top_goes [] m = main_goes (with_entries [] m)
top_goes (e ∷ es) m = entry_goes e (with_entries es m)

fit_goes : (old m : Mouth) (t : Turned) → Goes old (after m t) → Goes old (after m (fitting m t))
fit_goes old m t goes = by (nat_lt 10000 (length m.entries)) (nat_lt 10000 (length m.input.levels))
  where
    by : (a b : Bool) → Goes old (after m (if a then turned.End (Capacity Scans) else if b then turned.End (Capacity InputLevels) else t))
    by true b = record { comes = tt; forth = goes.forth; few = goes.few }
    by false true = record { comes = tt; forth = goes.forth; few = goes.few }
    by false false = goes

pub machine_goes : (m : Mouth) → Goes m (machine_turn m)
unfolding machine_turn stack_turn
machine_goes m = fit_goes m (stack_turn m).now (stack_turn m).turned (top_goes m.entries m)
