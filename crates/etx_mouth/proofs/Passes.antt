-- What the turns come to in which a text that isn't taken passes tokens, many at once.
use Rattle.std.proofs.Common.{◌≡◌, ◌+◌, ◌<◌, ◌≤◌, ℕ, zero, suc, false, List, [], ◌∷◌, length, drop, get_or, Option, None, refl, sym, ap, ◌∙◌, subst, arith}
use Rattle.std.proofs.lemmas.List.{drop_more}
use Rattle.etx_matter.specs.declared.token.Token.{Token}
use Rattle.etx_input.specs.Levels.{InputState, line_number}
use Rattle.etx_input.specs.Runs.{fresh_in, skipped}
use Rattle.etx_state.specs.declared.key.Meaning.{Meaning}
use Rattle.etx_state.specs.declared.scan.Entry.{Entry}
use Rattle.etx_state.specs.declared.scan.Entry.TheVariants as entry
use Rattle.etx_state.specs.declared.scan.Skip.{Skip}
use Rattle.etx_state.specs.Reading.{token_meaning}
use Rattle.etx_state.specs.Values.{Values}
use Rattle.etx_state.specs.Mouths.{Mouth}
use Rattle.etx_answers.specs.declared.plan.Turned.TheVariants as came
use Rattle.etx_answers.specs.Answers.{Planned}
use Rattle.etx_answers.specs.Meanings.{is_outer, reading_of, wanted}
use Rattle.etx_conditionals.specs.declared.skips.Skipped.{Skipped}
use Rattle.etx_conditionals.specs.declared.skips.Skipped.TheVariants.{Other}
use Rattle.etx_conditionals.specs.Conditionals.{skipped_of, skip_by, skip_row}
use Rattle.etx_expand.specs.Moves.{after, entered, scanning, planned_turn, made, beside, turned_by}
use Rattle.etx_expand.specs.Turn.{expansion_row}
use Rattle.etx_mouth.specs.declared.mouth.Source.TheVariants.{Reading}
use Rattle.etx_mouth.specs.Machine.{stack_turn}
use Rattle.etx_mouth.specs.Mouths.{mouth_at}
use Rattle.etx_mouth.specs.Runs.{Runs}
use Rattle.etx_mouth.specs.Skimming.{taken}
use Rattle.etx_mouth.specs.Gathering.{input_behind}
use Rattle.etx_mouth.specs.Passing.{in_skipped, IsPassed, ArePassed, past}
use Rattle.etx_mouth.proofs.Running.{runs_one, runs_on}
use Rattle.etx_mouth.proofs.Skims.{fewer_in, turn_is_quiet}
use Rattle.etx_mouth.proofs.Gathers.{gathers, fits, stays, within_all, fresh_behind, one_behind, no_deeper}

-- ---- what stands on top of the stack uses a token up, and something else stands there

abbrev pub Steps : Entry → Entry → Mouth → Type 0
Steps e f m = stack_turn (entered e m) ≡ after (entered f (taken 1 m)) came.Again

one_step : (budget : ℕ) (e f : Entry) (m : Mouth) → Steps e f m → length m.entries < 10000 → length m.input.levels ≤ 10000 → m.spent + 1 ≤ budget → Runs budget (mouth_at Reading (entered e m)) (mouth_at Reading (entered f (taken 1 m)))
unfolding skipped
one_step budget e f m goes entries levels room =
    let fewer = fewer_in 1 m.input.levels in
    runs_one (turn_is_quiet budget (entered e m) (entered f (taken 1 m)) (fits (entered e m) (entered f (taken 1 m)) (omega (arith, entries)) (omega (arith, fewer, levels)) goes) (omega (arith, room)))

-- one token more
pub steps_on : (budget n : ℕ) (e f : Entry) (start m : Mouth) → n < length (fresh_in m.input.levels) → Runs budget (mouth_at Reading start) (mouth_at Reading (entered e (past n m))) → Steps e f (past n m) → length m.entries < 10000 → length m.input.levels ≤ 10000 → m.spent + suc n ≤ budget → Runs budget (mouth_at Reading start) (mouth_at Reading (entered f (past (suc n) m)))
steps_on budget n e f start m less before goes entries levels room =
    let one = one_step budget e f (past n m) goes entries (no_deeper n m.input levels) (omega (arith, room)) in
    let count : (m.spent + n) + 1 ≡ m.spent + suc n = omega arith in
    let now : entered f (taken 1 (past n m)) ≡ entered f (past (suc n) m) =
    ap (λ (i : InputState). entered f (record m { input = i; spent = (m.spent + n) + 1 })) (one_behind n m.input less)
    ∙ ap (λ (k : ℕ). entered f (record m { input = input_behind (suc n) m.input; spent = k })) count in
    subst (λ (v : Mouth). Runs budget (mouth_at Reading start) (mouth_at Reading v)) now (runs_on before one)

-- the input is what was skipped
pub past_as : (n : ℕ) (m : Mouth) (i : InputState) (spent : ℕ) → 0 < n → i ≡ skipped n m.input → spent ≡ m.spent + n → past n m ≡ record m { input = i; spent = spent }
past_as zero m i spent some is count = absurd (omega (arith, some))
past_as (suc n) m i spent some is count =
    ap (λ (j : InputState). record m { input = j; spent = m.spent + suc n }) (sym is)
    ∙ ap (λ (k : ℕ). record m { input = i; spent = k }) (sym count)

-- ---- a text that isn't taken

skipped_plain : (k : Skip) (mm : Meaning) → wanted (reading_of (in_skipped k)) mm ≡ None
unfolding wanted reading_of
skipped_plain k mm = refl

passes : (left : ℕ) (k : Skip) (m : Mouth) (t : Token) (ts : List Token) → fresh_in m.input.levels ≡ t ∷ ts → IsPassed m.rest.values t → Steps (entry.Scan left (in_skipped k)) (entry.Scan left (in_skipped k)) m
unfolding expansion_row skip_row made beside turned_by
passes left k m t ts is passed =
    gathers left (in_skipped k) m t ts is passed.inner (skipped_plain k (token_meaning m.rest.values t))
    ∙ ap (λ (p : Skipped). planned_turn left t (skip_by p k (line_number (taken 1 m).input) m.rest) (taken 1 m)) passed.other

pub passed_runs : (budget n left : ℕ) (k : Skip) (m : Mouth) → length m.entries < 10000 → length m.input.levels ≤ 10000 → ArePassed m.rest.values n (fresh_in m.input.levels) → m.spent + n ≤ budget → Runs budget (mouth_at Reading (scanning left (in_skipped k) m)) (mouth_at Reading (scanning left (in_skipped k) (past n m)))
passed_runs budget zero left k m entries levels all room =
    let none : m.spent + zero ≡ m.spent = omega arith in
    stays (ap (λ (j : ℕ). scanning left (in_skipped k) (record m { spent = j })) none)
passed_runs budget (suc n) left k m entries levels all room =
    let less : n < length (fresh_in m.input.levels) = within_all n (fresh_in m.input.levels) all.1 all.0 all.2 in
    let before = passed_runs budget n left k m entries levels all.3 (omega (arith, room)) in
    let goes = passes left k (past n m) all.0 all.1 (fresh_behind n m.input less ∙ all.2) all.4 in
    steps_on budget n (entry.Scan left (in_skipped k)) (entry.Scan left (in_skipped k)) (scanning left (in_skipped k) m) m less before goes entries levels room

-- ---- as the code has it

pub passed_next : (v : Values) (n i : ℕ) (ts : List Token) (d : Token) → n ≡ i → i < length ts → ArePassed v n ts → is_outer (token_meaning v (get_or ts i d)) ≡ false → skipped_of (token_meaning v (get_or ts i d)) ≡ Other → ArePassed v (n + 1) ts
passed_next v n i ts d is lt all inner other =
    let same : suc n ≡ n + 1 = omega arith in
    let next : drop n ts ≡ get_or ts i d ∷ drop (i + 1) ts = ap (λ (k : ℕ). drop k ts) is ∙ drop_more ts i d lt in
    subst (λ (k : ℕ). ArePassed v k ts) same (get_or ts i d, drop (i + 1) ts, next, all, record { inner = inner; other = other })

pub as_many : (v : Values) (n : ℕ) (ts : List Token) → ArePassed v n ts → n ≤ length ts
as_many v zero ts all = omega arith
as_many v (suc n) ts all = let less = within_all n ts all.1 all.0 all.2 in omega (arith, less)

pub passed_runs_as : (budget n left : ℕ) (k : Skip) (m new : Mouth) (i : InputState) (ts : List Token) (spent : ℕ) → new ≡ scanning left (in_skipped k) (record m { input = i; spent = spent }) → i ≡ skipped n m.input → spent ≡ m.spent + n → length m.entries < 10000 → length m.input.levels ≤ 10000 → ts ≡ fresh_in m.input.levels → ArePassed m.rest.values n ts → 0 < n → m.spent + n ≤ budget → Runs budget (mouth_at Reading (scanning left (in_skipped k) m)) (mouth_at Reading new)
passed_runs_as budget n left k m new i ts spent now is count entries levels same all some room =
    let here : ArePassed m.rest.values n (fresh_in m.input.levels) = subst (λ (us : List Token). ArePassed m.rest.values n us) same all in
    let reached : scanning left (in_skipped k) (past n m) ≡ new = ap (λ (v : Mouth). scanning left (in_skipped k) v) (past_as n m i spent some is count) ∙ sym now in
    subst (λ (v : Mouth). Runs budget (mouth_at Reading (scanning left (in_skipped k) m)) (mouth_at Reading v)) reached (passed_runs budget n left k m entries levels here room)
