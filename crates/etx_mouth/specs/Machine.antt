-- One turn of the machine: what stands on top of the stack, or main control, gets a token or a value, by owner.
use Rattle.std.specs.Prelude.{ℕ, nat_lt, List, [], ◌∷◌, length, if◌then◌else◌}
use Rattle.etx_matter.specs.declared.token.Token.{Token}
use Rattle.etx_matter.specs.declared.end.End.TheVariants.{Capacity}
use Rattle.etx_matter.specs.declared.end.Limit.TheVariants.{InputLevels, Scans}
use Rattle.etx_state.specs.declared.key.Meaning.{Meaning}
use Rattle.etx_state.specs.declared.scan.ControlScan.{ControlScan}
use Rattle.etx_state.specs.declared.scan.ControlScan.TheVariants as control
use Rattle.etx_state.specs.declared.scan.ControlText.{ControlText}
use Rattle.etx_exprs.specs.declared.value.Value.{Value as Amount}
use Rattle.etx_input.specs.Levels.{line_number}
use Rattle.etx_matter.specs.declared.glue.GlueOrder.{GlueOrder}
use Rattle.etx_state.specs.declared.taker.Outer.{Outer}
use Rattle.etx_state.specs.declared.taker.Taker.{Taker}
use Rattle.etx_state.specs.declared.scan.NumberFinish.{NumberFinish}
use Rattle.etx_answers.specs.declared.plan.Did.TheVariants as did
use Rattle.etx_answers.specs.declared.plan.Then.TheVariants as afterwards
use Rattle.etx_answers.specs.declared.plan.WordPlan.TheVariants as plans
use Rattle.etx_state.specs.declared.scan.NumberFinish.TheVariants as number_for
use Rattle.etx_state.specs.declared.scan.TextFinish.TheVariants as text_for
use Rattle.etx_state.specs.declared.scan.Value.{Value}
use Rattle.etx_state.specs.declared.scan.Value.TheVariants as value
use Rattle.etx_state.specs.declared.scan.Keeper.{Keeper}
use Rattle.etx_state.specs.declared.scan.Keeper.TheVariants as keeper
use Rattle.etx_state.specs.declared.scan.Scan.{Scan}
use Rattle.etx_state.specs.declared.scan.Scan.TheVariants as scan
use Rattle.etx_state.specs.declared.scan.Entry.{Entry}
use Rattle.etx_state.specs.declared.scan.Entry.TheVariants as entry
use Rattle.etx_state.specs.Mouths.{Mouth, with_entries}
use Rattle.etx_expand.specs.declared.fetch.Idle.{Idle}
use Rattle.etx_expand.specs.declared.fetch.Idle.TheVariants as idle
use Rattle.etx_expand.specs.declared.fetch.Fetched.{Fetched}
use Rattle.etx_expand.specs.declared.fetch.Fetched.TheVariants as fetched
use Rattle.etx_answers.specs.declared.plan.Move.TheVariants.{Stay}
use Rattle.etx_answers.specs.declared.plan.Turned.{Turned}
use Rattle.etx_answers.specs.declared.plan.Turned.TheVariants as turned
use Rattle.etx_answers.specs.Answers.{planned}
use Rattle.etx_answers.specs.Meanings.{has_category}
use Rattle.etx_expand.specs.Moves.{After, after, entered, planned_turn, begun_turn, finished_turn, word_turn, turned_by, error_deed}
use Rattle.etx_expand.specs.Turn.{main_fetched, scan_fetched, expanded_turn, idle_turn, expansion_token, number_token, text_token, number_word_turn, outer_turn, expansion_number_turn, expansion_text_turn, expand_after_turn, due_turn, say_turn}
use Rattle.etx_assign.specs.Turn.{assign_token, future_turn, assign_word_turn, number_turn as assign_number_turn, text_turn as assign_text_turn}
use Rattle.etx_mouth.specs.Commands.{command_row, text_taken}

-- ---- main control

-- a token is a command
abbrev pub command_turn : Token → Meaning → Mouth → After
command_turn t mm m = begun_turn t (command_row t mm (line_number m.input) m.rest) m

abbrev pub main_idle : Idle → Mouth → After
main_idle (idle.Expands t what) m = expanded_turn what t m
main_idle (idle.Over d) m = after m (turned_by d m)
main_idle (idle.Cut text) m = after m (error_deed text m)

abbrev pub main_with : Fetched → Mouth → After
main_with (fetched.Token t mm) m = command_turn t mm m
main_with (fetched.Idle i) m = main_idle i m

-- where nothing stands on the stack
unfoldable pub main_turn : Mouth → After
main_turn m = main_with (main_fetched m).fetched (main_fetched m).now

-- \ignorespaces: the first token that is no space is a command
abbrev pub behind_spaces : ℕ → Token → Meaning → Mouth → After
behind_spaces left t mm m = if has_category 10 mm then planned_turn left t (planned m.rest (Stay (scan.Control control.IgnoreSpaces))) m else command_turn t mm m

abbrev pub control_token : ℕ → ControlScan → Token → Meaning → Mouth → After
control_token left control.IgnoreSpaces t mm m = behind_spaces left t mm m

abbrev pub control_text_turn : ℕ → ControlText → List Token → Mouth → After
control_text_turn left f ts m = finished_turn left (text_taken f ts m.rest) m

-- ---- by owner

-- a token that isn't expanded
abbrev pub scan_token : ℕ → Scan → Token → Meaning → Mouth → After
scan_token left (scan.Expansion e) t mm m = expansion_token left e t mm m
scan_token left (scan.Number n taker) t mm m = number_token left n taker t mm m
scan_token left (scan.Text o f) t mm m = text_token left o f t mm m
scan_token left (scan.Assign a) t mm m = assign_token left a t mm m
scan_token left (scan.Control c) t mm m = control_token left c t mm m

abbrev pub scan_with : ℕ → Scan → Fetched → Mouth → After
scan_with left s (fetched.Token t mm) m = scan_token left s t mm m
scan_with left s (fetched.Idle i) m = idle_turn left s i m

unfoldable pub scan_turn : ℕ → Scan → Mouth → After
scan_turn left s m = scan_with left s (scan_fetched s m).fetched (scan_fetched s m).now

-- a number goes to the outer scan that waits for it, or else to its finisher
abbrev pub number_given_turn : NumberFinish → ℕ → Amount → Mouth → After
number_given_turn (number_for.Expansion f) left a m = expansion_number_turn left f a m
number_given_turn (number_for.Assign f) left a m = assign_number_turn left f a m

abbrev pub amount_by : List Outer → ℕ → Amount → GlueOrder → Taker → Mouth → After
amount_by [] left a order taker m = number_given_turn taker.finish left a m
amount_by (o ∷ os) left a order taker m = outer_turn left o (record taker { outers = os }) a order m

unfoldable pub amount_turn : ℕ → Amount → GlueOrder → Taker → Mouth → After
amount_turn left a order taker m = amount_by taker.outers left a order taker m

-- a value
abbrev pub value_turn : ℕ → Value → Mouth → After
value_turn left (value.Number a order taker) m = amount_turn left a order taker m
value_turn left (value.Text ts (text_for.Expansion f)) m = expansion_text_turn left f ts m
value_turn left (value.Text ts (text_for.Assign f)) m = assign_text_turn left f ts m
value_turn left (value.Text ts (text_for.Control f)) m = control_text_turn left f ts m

-- ---- words

abbrev pub word_kept : ℕ → List Token → Scan → Mouth → Mouth
word_kept left ls s m = entered (entry.Word left ls s) m

-- where no token comes to a word, it stands on the stack again
abbrev pub word_idle : ℕ → List Token → Scan → Idle → Mouth → After
word_idle left ls s (idle.Expands t what) m = expanded_turn what t (word_kept left ls s m)
word_idle left ls s (idle.Over d) m = after (word_kept left ls s m) (turned_by d m)
word_idle left ls s (idle.Cut text) m = after (word_kept left ls s m) (error_deed text m)

-- other scans go on behind the letters
abbrev pub no_word : ℕ → List Token → Scan → Token → Mouth → After
no_word left ls s t m = word_turn left ls t (plans.Lost (record { then = afterwards.More s; did = did.Nothing })) m

-- numbers and arithmetic read words
abbrev pub word_token : ℕ → List Token → Scan → Token → Mouth → After
word_token left ls (scan.Number n taker) t m = number_word_turn left n taker ls t m
word_token left ls (scan.Assign a) t m = assign_word_turn left a ls t m
word_token left ls s t m = no_word left ls s t m

abbrev pub word_with : ℕ → List Token → Scan → Fetched → Mouth → After
word_with left ls s (fetched.Token t mm) m = word_token left ls s t m
word_with left ls s (fetched.Idle i) m = word_idle left ls s i m

unfoldable pub word_entry_turn : ℕ → List Token → Scan → Mouth → After
word_entry_turn left ls s m = word_with left ls s (scan_fetched s m).fetched (scan_fetched s m).now

abbrev pub kept_turn : Token → Keeper → Mouth → After
kept_turn kept keeper.ExpandAfter m = expand_after_turn kept m
kept_turn kept (keeper.Future is_global name) m = future_turn is_global name kept m

abbrev pub entry_turn : Entry → Mouth → After
entry_turn (entry.Scan left s) m = scan_turn left s m
entry_turn (entry.Given left v) m = value_turn left v m
entry_turn (entry.Kept kept by) m = kept_turn kept by m
entry_turn (entry.Due t) m = due_turn t m
entry_turn (entry.Say text) m = say_turn text m
entry_turn (entry.Word left ls s) m = word_entry_turn left ls s m

-- what stands on top is taken off first
abbrev pub top_turn : List Entry → Mouth → After
top_turn [] m = main_turn m
top_turn (e ∷ es) m = entry_turn e (with_entries es m)

unfoldable pub stack_turn : Mouth → After
stack_turn m = top_turn m.entries m

-- ---- the limits

-- a turn that passes a limit ends the job
abbrev pub fitting : Mouth → Turned → Turned
fitting m t =
    if nat_lt 10000 (length m.entries) then turned.End (Capacity Scans)
    else if nat_lt 10000 (length m.input.levels) then turned.End (Capacity InputLevels)
    else t

abbrev pub fitted : After → After
fitted a = after a.now (fitting a.now a.turned)

-- a turn of the machine
unfoldable pub machine_turn : Mouth → After
machine_turn m = fitted (stack_turn m)
