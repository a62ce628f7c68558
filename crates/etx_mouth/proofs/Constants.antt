-- What the turns come to in which an integer takes its digits, many at once, and a space behind them.
use Rattle.std.proofs.Common.{◌≡◌, ◌+◌, ◌-◌, ◌*◌, ◌==◌, ◌&&◌, ◌<◌, ◌≤◌, ℕ, zero, suc, ℤ, pos, Bool, true, false, not, is_some, nat_le, nat_lt, ◌⊎◌, List, [], ◌∷◌, length, drop, get_or, Option, Some, None, if◌then◌else◌, inl, inr, refl, sym, ap, ◌∙◌, subst, arith}
use Rattle.std.proofs.lemmas.Bool.Decides.{nat_tests}
use Rattle.std.proofs.lemmas.List.{drop_more}
use Rattle.etx_exprs.specs.declared.value.Value.{Value as Amount}
use Rattle.etx_exprs.specs.declared.value.Value.TheVariants as amount
use Rattle.etx_exprs.specs.declared.part.Turn.{Turn}
use Rattle.etx_exprs.specs.declared.part.Turn.TheVariants.{More, Done, DoneBack}
use Rattle.etx_exprs.specs.Constants.{DigitsState, digit_of, digit_turn, digits_fed, turn_at, with_digit}
use Rattle.etx_matter.specs.declared.glue.GlueOrder.TheVariants as order
use Rattle.etx_matter.specs.declared.token.Token.{Token}
use Rattle.etx_matter.specs.declared.token.Token.TheVariants.{Char, Name, Param}
use Rattle.etx_input.specs.Levels.{InputState, line_number}
use Rattle.etx_input.specs.Runs.{fresh_in, skipped}
use Rattle.etx_state.specs.declared.key.Meaning.{Meaning}
use Rattle.etx_state.specs.declared.key.Meaning.TheVariants as means
use Rattle.etx_state.specs.declared.taker.NumberScan.{NumberScan}
use Rattle.etx_state.specs.declared.taker.NumberScan.TheVariants as number
use Rattle.etx_state.specs.declared.taker.Taker.{Taker}
use Rattle.etx_state.specs.declared.scan.Scan.TheVariants as scan
use Rattle.etx_state.specs.declared.scan.Value.TheVariants as value
use Rattle.etx_state.specs.declared.scan.Entry.{Entry}
use Rattle.etx_state.specs.declared.scan.Entry.TheVariants as entry
use Rattle.etx_state.specs.Reading.{token_meaning}
use Rattle.etx_state.specs.Rests.{RestState}
use Rattle.etx_state.specs.Values.{Values}
use Rattle.etx_state.specs.Mouths.{Mouth}
use Rattle.etx_answers.specs.declared.meaning.Reading.{Reading}
use Rattle.etx_answers.specs.declared.meaning.Reading.TheVariants.{Expanded}
use Rattle.etx_answers.specs.declared.read.Read.{Read}
use Rattle.etx_answers.specs.declared.plan.Turned.TheVariants as came
use Rattle.etx_answers.specs.Answers.{reading}
use Rattle.etx_answers.specs.Meanings.{is_outer, expandable_of, number_reading, reading_of, wanted}
use Rattle.etx_answers.specs.Reads.{goes_on, gives, read_plan}
use Rattle.etx_numbers.specs.Numbers.{integer, no_digits, number_in, number_or_greatest, digits_by, digits_row, digits_over, integer_over, first_digit_by, number_begun, internal_begun, start_row}
use Rattle.etx_numbers.specs.Internals.{internal_of}
use Rattle.etx_numbers.specs.Expressions.{read_row, number_row}
use Rattle.etx_expand.specs.Moves.{after, entered, most_stages, planned_turn, made, beside, turned_by}
use Rattle.etx_mouth.specs.declared.mouth.Source.TheVariants as source
use Rattle.etx_mouth.specs.Machine.{stack_turn}
use Rattle.etx_mouth.specs.Mouths.{mouth_at}
use Rattle.etx_mouth.specs.Runs.{Runs}
use Rattle.etx_mouth.specs.Skimming.{taken}
use Rattle.etx_mouth.specs.Gathering.{input_behind}
use Rattle.etx_mouth.specs.Passing.{past}
use Rattle.etx_mouth.specs.Counting.{at_start, in_digits, given, IsDigit, IsDigitMore, AreDigits, IsSpace, IsSpaceAt}
use Rattle.etx_mouth.proofs.Gathers.{gathers, stays, within_all, fresh_behind}
use Rattle.etx_mouth.proofs.Passes.{Steps, steps_on}

-- ---- a digit, and what it isn't

char_means : (v : Values) (code cat : ℕ) → cat ≡ 12 → token_meaning v (Char code cat) ≡ means.Char code 12
unfolding token_meaning
char_means v code cat is = rw is refl

decimal : (code : ℕ) → 48 ≤ code → code ≤ 57 → digit_of 10 (Char code 12) ≡ Some (code - 48)
decimal code least most = grind (arith, nat_tests)

digit_more : (d : DigitsState) (code cat : ℕ) → d.base ≡ 10 → cat ≡ 12 → 48 ≤ code → code ≤ 57 → digit_turn d (Char code cat) ≡ More
digit_more d code cat base is least most =
    let digit : digit_of d.base (Char code cat) ≡ Some (code - 48) = ap (λ (b : ℕ). digit_of b (Char code cat)) base ∙ ap (λ (c : ℕ). digit_of 10 (Char code c)) is ∙ decimal code least most in
    ap (λ (o : Option ℕ). turn_at o (not d.empty && (cat == 10))) digit

differs : (code n : ℕ) → (n < 48) ⊎ (57 < n) → 48 ≤ code → code ≤ 57 → (code == n) ≡ false
differs code n far least most = grind (arith, nat_tests)

fed_base : (s : DigitsState) (o : Option ℕ) → (with_digit s o).base ≡ s.base
fed_base s None = refl
fed_base s (Some digit) = refl

-- ---- what the rows decide

and_not : (b c : Bool) → c ≡ true → (b && not c) ≡ false
and_not true c is = rw is refl
and_not false c is = refl

more_row : (d e : DigitsState) (t : Token) (mm : Meaning) (line : ℕ) (r : RestState) → digit_turn d t ≡ More → e ≡ digits_fed d t → is_some (number_in e) ≡ true → read_row (number.Digits integer d true) t mm line r ≡ goes_on (number.Digits integer e true)
unfolding read_row digits_row
more_row d e t mm line r turn fed small =
    let same : is_some (number_in (digits_fed d t)) ≡ true = ap (λ (f : DigitsState). is_some (number_in f)) (sym fed) ∙ small in
    ap (λ (u : Turn). digits_by u integer d true t mm line r) turn
    ∙ rw (and_not (is_some (number_in d)) (is_some (number_in (digits_fed d t))) same) refl
    ∙ ap (λ (f : DigitsState). goes_on (number.Digits integer f true)) (sym fed)

start_row_is : (code line : ℕ) (r : RestState) → 48 ≤ code → code ≤ 57 → read_row (number.Start integer) (Char code 12) (means.Char code 12) line r ≡ first_digit_by (digit_turn (no_digits 10) (Char code 12)) integer (Char code 12)
unfolding read_row start_row number_begun internal_begun internal_of
start_row_is code line r least most =
    rw (differs code 43 (inl (omega arith)) least most, differs code 45 (inl (omega arith)) least most, differs code 96 (inr (omega arith)) least most, differs code 39 (inl (omega arith)) least most, differs code 34 (inl (omega arith)) least most) refl

begun_row : (code line : ℕ) (e : DigitsState) (r : RestState) → 48 ≤ code → code ≤ 57 → e ≡ digits_fed (no_digits 10) (Char code 12) → read_row (number.Start integer) (Char code 12) (means.Char code 12) line r ≡ goes_on (number.Digits integer e true)
begun_row code line e r least most fed =
    start_row_is code line r least most
    ∙ ap (λ (u : Turn). first_digit_by u integer (Char code 12)) (digit_more (no_digits 10) code 12 refl refl least most)
    ∙ ap (λ (f : DigitsState). goes_on (number.Digits integer f true)) (sym fed)

space_turn : (d : DigitsState) (code : ℕ) → d.base ≡ 10 → d.empty ≡ false → digit_turn d (Char code 10) ≡ Done
space_turn d code base empty = rw (base, empty) refl

over_row : (d : DigitsState) (code line : ℕ) (r : RestState) → d.base ≡ 10 → d.empty ≡ false → read_row (number.Digits integer d true) (Char code 10) (means.Char code 10) line r ≡ gives (amount.Int (number_or_greatest (number_in d)))
unfolding read_row digits_row digits_over integer_over
over_row d code line r base empty =
    ap (λ (u : Turn). digits_by u integer d true (Char code 10) (means.Char code 10) line r) (space_turn d code base empty)
    ∙ rw empty refl

-- ---- turns

goes_to : (left : ℕ) (s : NumberScan) (taker : Taker) (t : Token) (m : Mouth) → planned_turn left t (reading (read_plan taker (goes_on s) m.rest) m.rest) m ≡ after (entered (entry.Scan most_stages (scan.Number s taker)) m) came.Again
unfolding read_plan made beside turned_by
goes_to left s taker t m = refl

gives_to : (left : ℕ) (a : Amount) (taker : Taker) (t : Token) (m : Mouth) → planned_turn left t (reading (read_plan taker (gives a) m.rest) m.rest) m ≡ after (entered (entry.Given left (value.Number a order.Normal taker)) m) came.Again
unfolding read_plan made beside turned_by
gives_to left a taker t m = refl

-- the turn of a scan of a number, where the next token is such a character
number_turns : (left : ℕ) (s : NumberScan) (taker : Taker) (m : Mouth) (t : Token) (ts : List Token) (code cat : ℕ) (read : Read) → fresh_in m.input.levels ≡ t ∷ ts → token_meaning m.rest.values t ≡ means.Char code cat → number_reading s ≡ Expanded
    → read_row s t (means.Char code cat) (line_number (taken 1 m).input) m.rest ≡ read
    → stack_turn (entered (entry.Scan left (scan.Number s taker)) m) ≡ planned_turn left t (reading (read_plan taker read m.rest) m.rest) (taken 1 m)
unfolding is_outer reading_of wanted expandable_of number_row
number_turns left s taker m t ts code cat read is mm expanded row =
    gathers left (scan.Number s taker) m t ts is (ap is_outer mm) (ap (λ (r : Reading). wanted r (token_meaning m.rest.values t)) expanded ∙ ap expandable_of mm)
    ∙ ap (λ (x : Meaning). planned_turn left t (reading (read_plan taker (read_row s t x (line_number (taken 1 m).input) m.rest) m.rest) m.rest) (taken 1 m)) mm
    ∙ ap (λ (x : Read). planned_turn left t (reading (read_plan taker x m.rest) m.rest) (taken 1 m)) row

more_steps : (d e : DigitsState) (taker : Taker) (m : Mouth) (t : Token) (ts : List Token) → fresh_in m.input.levels ≡ t ∷ ts → IsDigitMore d t e → Steps (in_digits d taker) (in_digits e taker) m
more_steps d e taker m (Char code cat) ts is more =
    let turn = digit_more d code cat more.base more.digit.0 more.digit.1 more.digit.2 in
    number_turns most_stages (number.Digits integer d true) taker m (Char code cat) ts code 12 _ is (char_means m.rest.values code cat more.digit.0) refl (more_row d e (Char code cat) (means.Char code 12) (line_number (taken 1 m).input) m.rest turn more.fed more.small)
    ∙ goes_to most_stages (number.Digits integer e true) taker (Char code cat) (taken 1 m)
more_steps d e taker m (Name n) ts is more = absurd more.digit
more_steps d e taker m (Param n) ts is more = absurd more.digit

start_steps : (left : ℕ) (d e : DigitsState) (taker : Taker) (m : Mouth) (t : Token) (ts : List Token) → fresh_in m.input.levels ≡ t ∷ ts → d ≡ no_digits 10 → IsDigitMore d t e → Steps (at_start left taker) (in_digits e taker) m
start_steps left d e taker m (Char code cat) ts is none more =
    let same : Char code cat ≡ Char code 12 = ap (λ (c : ℕ). Char code c) more.digit.0 in
    let fed : e ≡ digits_fed (no_digits 10) (Char code 12) = more.fed ∙ ap (λ (f : DigitsState). digits_fed f (Char code cat)) none ∙ ap (λ (u : Token). digits_fed (no_digits 10) u) same in
    number_turns left (number.Start integer) taker m (Char code cat) ts code 12 _ is (char_means m.rest.values code cat more.digit.0) refl
    (ap (λ (u : Token). read_row (number.Start integer) u (means.Char code 12) (line_number (taken 1 m).input) m.rest) same ∙ begun_row code (line_number (taken 1 m).input) e m.rest more.digit.1 more.digit.2 fed)
    ∙ goes_to left (number.Digits integer e true) taker (Char code cat) (taken 1 m)
start_steps left d e taker m (Name n) ts is none more = absurd more.digit
start_steps left d e taker m (Param n) ts is none more = absurd more.digit

space_steps : (d : DigitsState) (taker : Taker) (m : Mouth) (code : ℕ) (ts : List Token) → fresh_in m.input.levels ≡ Char code 10 ∷ ts → d.base ≡ 10 → d.empty ≡ false → Steps (in_digits d taker) (given d taker) m
unfolding token_meaning
space_steps d taker m code ts is base empty =
    number_turns most_stages (number.Digits integer d true) taker m (Char code 10) ts code 10 _ is refl refl (over_row d code (line_number (taken 1 m).input) m.rest base empty)
    ∙ gives_to most_stages (amount.Int (number_or_greatest (number_in d))) taker (Char code 10) (taken 1 m)

-- ---- many digits

abbrev entry_behind : ℕ → ℕ → Taker → DigitsState → Entry
entry_behind zero left taker d = at_start left taker
entry_behind (suc n) left taker d = in_digits d taker

digits_run : (budget n left : ℕ) (taker : Taker) (d : DigitsState) (m : Mouth) → length m.entries < 10000 → length m.input.levels ≤ 10000 → AreDigits n (fresh_in m.input.levels) d → m.spent + n ≤ budget → Runs budget (mouth_at source.Reading (entered (at_start left taker) m)) (mouth_at source.Reading (entered (entry_behind n left taker d) (past n m)))
digits_run budget zero left taker d m entries levels all room =
    let none : m.spent + zero ≡ m.spent = omega arith in
    stays (ap (λ (j : ℕ). entered (at_start left taker) (record m { spent = j })) none)
digits_run budget (suc n) left taker d m entries levels all room =
    let less : n < length (fresh_in m.input.levels) = within_all n (fresh_in m.input.levels) all.2 all.1 all.3 in
    let before = digits_run budget n left taker all.0 m entries levels all.4 (omega (arith, room)) in
    steps_on budget n (entry_behind n left taker all.0) (in_digits d taker) (entered (at_start left taker) m) m less before (by n all.4 (fresh_behind n m.input less ∙ all.3)) entries levels room
  where
    by : (k : ℕ) → AreDigits k (fresh_in m.input.levels) all.0 → fresh_in (past n m).input.levels ≡ all.1 ∷ all.2 → Steps (entry_behind k left taker all.0) (in_digits d taker) (past n m)
    by zero none is = start_steps left all.0 d taker (past n m) all.1 all.2 is none all.5
    by (suc k) some is = more_steps all.0 d taker (past n m) all.1 all.2 is all.5

digits_base : (n : ℕ) (ts : List Token) (d : DigitsState) → AreDigits n ts d → d.base ≡ 10
digits_base zero ts d all = ap (λ (f : DigitsState). f.base) all
digits_base (suc n) ts d all = ap (λ (f : DigitsState). f.base) all.5.fed ∙ fed_base all.0 (digit_of all.0.base all.1) ∙ all.5.base

more_empty : (d e : DigitsState) (t : Token) → IsDigitMore d t e → e.empty ≡ false
more_empty d e (Char code cat) more =
    let digit : digit_of d.base (Char code cat) ≡ Some (code - 48) = ap (λ (b : ℕ). digit_of b (Char code cat)) more.base ∙ ap (λ (c : ℕ). digit_of 10 (Char code c)) more.digit.0 ∙ decimal code more.digit.1 more.digit.2 in
    ap (λ (f : DigitsState). f.empty) more.fed ∙ ap (λ (o : Option ℕ). (with_digit d o).empty) digit
more_empty d e (Name n) more = absurd more.digit
more_empty d e (Param n) more = absurd more.digit

-- ---- as the code has it

pub digits_next : (n i : ℕ) (ts : List Token) (d e : DigitsState) (x : Token) → n ≡ i → i < length ts → AreDigits n ts d → IsDigitMore d (get_or ts i x) e → AreDigits (n + 1) ts e
digits_next n i ts d e x is lt all more =
    let same : suc n ≡ n + 1 = omega arith in
    let next : drop n ts ≡ get_or ts i x ∷ drop (i + 1) ts = ap (λ (k : ℕ). drop k ts) is ∙ drop_more ts i x lt in
    subst (λ (k : ℕ). AreDigits k ts e) same (d, get_or ts i x, drop (i + 1) ts, next, all, more)

pub space_at : (n : ℕ) (ts : List Token) (d : Token) → n < length ts → IsSpace (get_or ts n d) → IsSpaceAt n ts
space_at n ts d lt space = by (get_or ts n d) refl space
  where
    by : (u : Token) → get_or ts n d ≡ u → IsSpace u → IsSpaceAt n ts
    by (Char code cat) same is = (code, drop (n + 1) ts, drop_more ts n d lt ∙ ap (λ (x : Token). x ∷ drop (n + 1) ts) (same ∙ ap (λ (c : ℕ). Char code c) is))
    by (Name name) same is = absurd is
    by (Param p) same is = absurd is

pub digits_run_as : (budget n left : ℕ) (taker : Taker) (d : DigitsState) (m new : Mouth) (ts : List Token) → new ≡ entered (in_digits d taker) (past n m) → length m.entries < 10000 → length m.input.levels ≤ 10000 → ts ≡ fresh_in m.input.levels → AreDigits n ts d → 0 < n → m.spent + n ≤ budget → Runs budget (mouth_at source.Reading (entered (at_start left taker) m)) (mouth_at source.Reading new)
digits_run_as budget zero left taker d m new ts now entries levels same all some room = absurd (omega (arith, some))
digits_run_as budget (suc n) left taker d m new ts now entries levels same all some room =
    subst (λ (v : Mouth). Runs budget (mouth_at source.Reading (entered (at_start left taker) m)) (mouth_at source.Reading v)) (sym now)
    (digits_run budget (suc n) left taker d m entries levels (subst (λ (us : List Token). AreDigits (suc n) us d) same all) room)

pub constant_run_as : (budget n left : ℕ) (taker : Taker) (d : DigitsState) (m new : Mouth) (ts : List Token) → new ≡ entered (given d taker) (past (n + 1) m) → length m.entries < 10000 → length m.input.levels ≤ 10000 → ts ≡ fresh_in m.input.levels → AreDigits n ts d → IsSpaceAt n ts → 0 < n → m.spent + n < budget → Runs budget (mouth_at source.Reading (entered (at_start left taker) m)) (mouth_at source.Reading new)
constant_run_as budget zero left taker d m new ts now entries levels same all space some room = absurd (omega (arith, some))
constant_run_as budget (suc n) left taker d m new ts now entries levels same all space some room =
    let here : AreDigits (suc n) (fresh_in m.input.levels) d = subst (λ (us : List Token). AreDigits (suc n) us d) same all in
    let behind : drop (suc n) (fresh_in m.input.levels) ≡ Char space.0 10 ∷ space.1 = ap (λ (us : List Token). drop (suc n) us) (sym same) ∙ space.2 in
    let less : suc n < length (fresh_in m.input.levels) = within_all (suc n) (fresh_in m.input.levels) space.1 (Char space.0 10) behind in
    let before = digits_run budget (suc n) left taker d m entries levels here (omega (arith, room)) in
    let goes = space_steps d taker (past (suc n) m) space.0 space.1 (fresh_behind (suc n) m.input less ∙ behind) (digits_base (suc n) (fresh_in m.input.levels) d here) (more_empty here.0 d here.1 here.5) in
    let whole = steps_on budget (suc n) (in_digits d taker) (given d taker) (entered (at_start left taker) m) m less before goes entries levels (omega (arith, room)) in
    let count : suc (suc n) ≡ suc n + 1 = omega arith in
    subst (λ (v : Mouth). Runs budget (mouth_at source.Reading (entered (at_start left taker) m)) (mouth_at source.Reading v)) (ap (λ (k : ℕ). entered (given d taker) (past k m)) count ∙ sym now) whole
