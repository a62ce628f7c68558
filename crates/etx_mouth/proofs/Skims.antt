-- What the turns come to that the code makes at rest, many at once.
use Rattle.std.proofs.Common.{◌≡◌, ◌+◌, ◌<◌, ◌≤◌, inl, inr, ℕ, zero, suc, Bool, true, false, List, [], ◌∷◌, length, drop, get_or, Some, None, if◌then◌else◌, refl, sym, ap, ◌∙◌, subst, arith}
use Rattle.std.proofs.lemmas.List.{drop_more}
use Rattle.etx_matter.specs.declared.token.Token.{Token}
use Rattle.etx_prims.specs.declared.command.Primitive.{Primitive}
use Rattle.etx_input.specs.declared.level.Level.{Level}
use Rattle.etx_input.specs.declared.level.Level.TheVariants as level
use Rattle.etx_input.specs.declared.origin.Origin.TheVariants.{Fresh}
use Rattle.etx_input.specs.Levels.{InputState, list_before, with_list, line_number}
use Rattle.etx_input.specs.Runs.{fresh_in, list_unless_over, levels_skipped, skipped}
use Rattle.etx_input.proofs.Runs.{first, more, rest}
use Rattle.etx_state.specs.declared.key.Meaning.{Meaning}
use Rattle.etx_state.specs.declared.key.Meaning.TheVariants as means
use Rattle.etx_state.specs.declared.scan.Entry.{Entry}
use Rattle.etx_state.specs.Macros.{MacroState}
use Rattle.etx_state.specs.Reading.{token_meaning}
use Rattle.etx_state.specs.Rests.{RestState}
use Rattle.etx_state.specs.Values.{Values}
use Rattle.etx_state.specs.Mouths.{Mouth, with_input}
use Rattle.etx_answers.specs.declared.meaning.Expandable.TheVariants as expandable
use Rattle.etx_answers.specs.declared.plan.Turned.TheVariants as came
use Rattle.etx_answers.specs.Answers.{nothing, begun}
use Rattle.etx_expand.specs.Expanding.{is_plain, expansion_begun}
use Rattle.etx_expand.specs.Getting.{got_of, watch_of, token_got}
use Rattle.etx_answers.specs.Meanings.{expandable_of, primitive_expandable, wanted}
use Rattle.etx_expand.specs.Moves.{After, after, charged, read_next, pushed, inserted, beside, turned_by}
use Rattle.etx_expand.specs.Turn.{main_fetched, wanted_as, expanded_turn}
use Rattle.etx_mouth.specs.declared.mouth.Source.TheVariants.{Reading}
use Rattle.etx_mouth.specs.Commands.{command_of, command_begun, command_row, character_row}
use Rattle.etx_mouth.specs.Machine.{main_turn, top_turn, stack_turn, machine_turn}
use Rattle.etx_mouth.specs.Mouths.{mouth_at}
use Rattle.etx_mouth.specs.Turn.{turn_of}
use Rattle.etx_mouth.specs.Runs.{IsQuiet, Runs}
use Rattle.etx_mouth.specs.Skimming.{IsIdle, AreIdle, taken, plain_body, called, IsAtRest, IsFirst, IsNext}
use Rattle.etx_mouth.proofs.Running.{runs_one, runs_on}
use Rattle.etx_mouth.proofs.Comparing.{lt_false}

-- ---- what is got where the next token is a fresh one of a list

pub fresh_got : (m : Mouth) (t : Token) (ts : List Token) → fresh_in m.input.levels ≡ t ∷ ts → m.entries ≡ [] → main_fetched m ≡ record { now = taken 1 m; fetched = wanted_as (expandable_of (token_meaning m.rest.values t)) t (token_meaning m.rest.values t) }
unfolding main_fetched got_of token_got wanted watch_of
fresh_got m t ts is none = rw (none, first _ _ m.input t ts is) refl

-- ---- an idle token

idle_row : (t : Token) (mm : Meaning) (line : ℕ) (r : RestState) → IsIdle mm → (expandable_of mm ≡ None) × (command_row t mm line r ≡ begun r nothing)
unfolding expandable_of primitive_expandable command_row command_of command_begun character_row
idle_row t means.Undefined line r is = absurd is
idle_row t (means.Primitive p) line r (inl is) = subst (λ (q : Primitive). (expandable_of (means.Primitive q) ≡ None) × (command_row t (means.Primitive q) line r ≡ begun r nothing)) (sym is) (refl, refl)
idle_row t (means.Primitive p) line r (inr is) = subst (λ (q : Primitive). (expandable_of (means.Primitive q) ≡ None) × (command_row t (means.Primitive q) line r ≡ begun r nothing)) (sym is) (refl, refl)
idle_row t (means.Char code cat) line r is = (refl, subst (λ (k : ℕ). character_row k r ≡ begun r nothing) (sym is) refl)
idle_row t (means.Macro d) line r is = absurd is
idle_row t means.Unexpanded line r is = (refl, refl)
idle_row t means.EndTemplate line r is = absurd is
idle_row t (means.CharGiven code) line r is = absurd is
idle_row t (means.MathGiven code) line r is = absurd is
idle_row t (means.Register kind number) line r is = absurd is

abbrev does_nothing : (m n : Mouth) → Type 0
does_nothing m n = machine_turn m ≡ after n came.Again

main_nothing : (m n : Mouth) (t : Token) (mm : Meaning) → main_fetched m ≡ record { now = n; fetched = wanted_as (expandable_of mm) t mm } → (expandable_of mm ≡ None) × (command_row t mm (line_number n.input) n.rest ≡ begun n.rest nothing) → main_turn m ≡ after n came.Again
unfolding main_turn pushed inserted beside turned_by
main_nothing m n t mm fetch row = rw (fetch, row.0, row.1) refl

top_is : (es : List Entry) (m : Mouth) (a : After) → es ≡ [] → main_turn m ≡ a → top_turn es m ≡ a
top_is [] m a none is = is
top_is (e ∷ es) m a none is = absurd (let no : e ∷ es ≡ [] = none in cc)

pub stack_is : (m : Mouth) (a : After) → m.entries ≡ [] → main_turn m ≡ a → stack_turn m ≡ a
unfolding stack_turn
stack_is m a none is = top_is m.entries m a none is

fits : (m n : Mouth) → IsAtRest n → stack_turn m ≡ after n came.Again → machine_turn m ≡ after n came.Again
unfolding machine_turn
fits m n at is = rw (is, at.entries, lt_false 10000 (length n.input.levels) at.depth) refl

-- ---- the levels of the input become no more

pub fewer_in : (n : ℕ) (ls : List Level) → length (levels_skipped n ls) ≤ length ls
fewer_in n [] = omega arith
fewer_in n (level.File f ∷ ls) = omega arith
fewer_in n (level.List l ∷ ls) = by (drop n l.rest)
  where
    by : (ts : List Token) → length (list_unless_over ts l.origin ls) ≤ suc (length ls)
    by [] = omega arith
    by (t ∷ ts) = omega arith

pub still_at_rest : (n : ℕ) (m : Mouth) → IsAtRest m → IsAtRest (taken n m)
unfolding skipped
still_at_rest n m at = record { entries = at.entries; depth = let fewer = fewer_in n m.input.levels in omega (arith, fewer, at.depth) }

-- ---- many idle tokens

idle_turn : (m : Mouth) (t : Token) (ts : List Token) → fresh_in m.input.levels ≡ t ∷ ts → IsAtRest m → IsIdle (token_meaning m.rest.values t) → machine_turn m ≡ after (taken 1 m) came.Again
idle_turn m t ts is at idle =
    fits m (taken 1 m) (still_at_rest 1 m at) (
    stack_is m (after (taken 1 m) came.Again) at.entries (
    main_nothing m (taken 1 m) t (token_meaning m.rest.values t) (fresh_got m t ts is at.entries) (idle_row t (token_meaning m.rest.values t) (line_number (taken 1 m).input) m.rest idle)))

pub turn_is_quiet : (budget : ℕ) (m n : Mouth) → machine_turn m ≡ after n came.Again → n.spent ≤ budget → IsQuiet budget (mouth_at Reading m) (mouth_at Reading n)
unfolding turn_of
turn_is_quiet budget m n is le = record {
  did = rw is refl;
  within = rw is le;
  now = rw is refl;
}

idle_at : (v : Values) (n k : ℕ) (ts : List Token) → AreIdle v n ts → k < n → (t : Token) × (us : List Token) × (drop k ts ≡ t ∷ us) × IsIdle (token_meaning v t)
idle_at v zero k ts all lt = absurd (omega (arith, lt))
idle_at v (suc n) k [] all lt = absurd all
idle_at v (suc n) zero (t ∷ ts) all lt = (t, ts, refl, all.0)
idle_at v (suc n) (suc k) (t ∷ ts) all lt = idle_at v n k ts all.1 (omega (arith, lt))

pub as_many : (v : Values) (n : ℕ) (ts : List Token) → AreIdle v n ts → n ≤ length ts
as_many v zero ts all = omega arith
as_many v (suc n) [] all = absurd all
as_many v (suc n) (t ∷ ts) all = let fewer = as_many v n ts all.1 in omega (arith, fewer)

-- one more behind some
pub taken_more : (n : ℕ) (m : Mouth) → n < length (fresh_in m.input.levels) → taken 1 (taken n m) ≡ taken (n + 1) m
taken_more n m lt = ap (λ i. with_input i (charged 1 (charged n m))) (sym (more n m.input lt)) ∙ ap (λ (k : ℕ). record m { input = skipped (n + 1) m.input; spent = k }) (omega arith)

step_at : (budget : ℕ) (m : Mouth) (t : Token) (us : List Token) → fresh_in m.input.levels ≡ t ∷ us → IsAtRest m → IsIdle (token_meaning m.rest.values t) → m.spent + 1 ≤ budget → Runs budget (mouth_at Reading m) (mouth_at Reading (taken 1 m))
step_at budget m t us is at idle le = runs_one (turn_is_quiet budget m (taken 1 m) (idle_turn m t us is at idle) le)

pub idle_runs : (budget : ℕ) (m : Mouth) (n k : ℕ) → IsAtRest m → AreIdle m.rest.values n (fresh_in m.input.levels) → k < n → m.spent + n ≤ budget → Runs budget (mouth_at Reading m) (mouth_at Reading (taken (k + 1) m))
idle_runs budget m n zero at all lt le =
    let here = idle_at m.rest.values n 0 (fresh_in m.input.levels) all lt in
    step_at budget m here.0 here.1 here.2 at here.3 (omega (arith, le, lt))
idle_runs budget m n (suc k) at all lt le =
    let many = as_many m.rest.values n (fresh_in m.input.levels) all in
    let here = idle_at m.rest.values n (suc k) (fresh_in m.input.levels) all lt in
    let less : suc k < length (fresh_in m.input.levels) = omega (arith, many, lt) in
    let same : fresh_in (skipped (suc k) m.input).levels ≡ here.0 ∷ here.1 = rest (suc k) m.input less ∙ here.2 in
    let before : Runs budget (mouth_at Reading m) (mouth_at Reading (taken (suc k) m)) = subst (λ (j : ℕ). Runs budget (mouth_at Reading m) (mouth_at Reading (taken j m))) (omega arith) (idle_runs budget m n k at all (omega (arith, lt)) le) in
    let after_it = step_at budget (taken (suc k) m) here.0 here.1 same (still_at_rest (suc k) m at) here.3 (omega (arith, le, lt)) in
    subst (λ (v : Mouth). Runs budget (mouth_at Reading m) (mouth_at Reading v)) (taken_more (suc k) m less) (runs_on before after_it)

-- ---- the call of a macro that is its name alone

call_begun : (t : Token) (d : MacroState) (n : Mouth) → is_plain d.parts ≡ true → expanded_turn (expandable.Call d) t n ≡ after (read_next Fresh d.body n) came.Again
unfolding expansion_begun pushed inserted beside turned_by
call_begun t d n plain = rw plain refl

main_call : (m n : Mouth) (t : Token) (d : MacroState) → main_fetched m ≡ record { now = n; fetched = wanted_as (expandable_of (means.Macro d)) t (means.Macro d) } → main_turn m ≡ expanded_turn (expandable.Call d) t n
unfolding main_turn expandable_of
main_call m n t d fetch = rw fetch refl

call_turn : (m : Mouth) (t : Token) (ts : List Token) (d : MacroState) → fresh_in m.input.levels ≡ t ∷ ts → m.entries ≡ [] → token_meaning m.rest.values t ≡ means.Macro d → is_plain d.parts ≡ true → IsAtRest (called d.body m) → machine_turn m ≡ after (called d.body m) came.Again
call_turn m t ts d is none mm plain at =
    let fetch : main_fetched m ≡ record { now = taken 1 m; fetched = wanted_as (expandable_of (means.Macro d)) t (means.Macro d) } = subst (λ (x : Meaning). main_fetched m ≡ record { now = taken 1 m; fetched = wanted_as (expandable_of x) t x }) mm (fresh_got m t ts is none) in
    fits m (called d.body m) at (stack_is m _ none (main_call m (taken 1 m) t d fetch ∙ call_begun t d (taken 1 m) plain))

-- a macro whose call is its name alone, and its body
plain_macro : (mm : Meaning) (body : List Token) → plain_body mm ≡ Some body → (d : MacroState) × (mm ≡ means.Macro d) × (is_plain d.parts ≡ true) × (d.body ≡ body)
plain_macro means.Undefined body is = absurd (let no : None ≡ Some body = is in cc)
plain_macro (means.Primitive p) body is = absurd (let no : None ≡ Some body = is in cc)
plain_macro (means.Char code cat) body is = absurd (let no : None ≡ Some body = is in cc)
plain_macro (means.Macro d) body is = by (is_plain d.parts) refl is
  where
    by : (b : Bool) → is_plain d.parts ≡ b → (if b then Some d.body else None) ≡ Some body → (e : MacroState) × (means.Macro d ≡ means.Macro e) × (is_plain e.parts ≡ true) × (e.body ≡ body)
    by true plain same = (d, refl, plain, let known : Some d.body ≡ Some body = same in cc)
    by false plain same = absurd (let no : None ≡ Some body = same in cc)
plain_macro means.Unexpanded body is = absurd (let no : None ≡ Some body = is in cc)
plain_macro means.EndTemplate body is = absurd (let no : None ≡ Some body = is in cc)
plain_macro (means.CharGiven code) body is = absurd (let no : None ≡ Some body = is in cc)
plain_macro (means.MathGiven code) body is = absurd (let no : None ≡ Some body = is in cc)
plain_macro (means.Register kind number) body is = absurd (let no : None ≡ Some body = is in cc)

pub call_runs : (budget : ℕ) (m : Mouth) (t : Token) (ts : List Token) (body : List Token) → fresh_in m.input.levels ≡ t ∷ ts → m.entries ≡ [] → plain_body (token_meaning m.rest.values t) ≡ Some body → length (called body m).input.levels ≤ 10000 → m.spent + 1 ≤ budget → Runs budget (mouth_at Reading m) (mouth_at Reading (called body m))
call_runs budget m t ts body is none plain depth le =
    let d = plain_macro (token_meaning m.rest.values t) body plain in
    subst (λ (b : List Token). length (called b m).input.levels ≤ 10000 → Runs budget (mouth_at Reading m) (mouth_at Reading (called b m))) d.3
    (λ depth. runs_one (turn_is_quiet budget m (called d.0.body m) (call_turn m t ts d.0 is none d.1 d.2 (record { entries = none; depth = depth })) le)) depth

-- ---- how many tokens are idle

pub idle_more : (v : Values) (n : ℕ) (ts us : List Token) (t : Token) → drop n ts ≡ t ∷ us → AreIdle v n ts → IsIdle (token_meaning v t) → AreIdle v (suc n) ts
idle_more v zero [] us t is all idle = absurd (let no : [] ≡ t ∷ us = is in cc)
idle_more v zero (x ∷ xs) us t is all idle = let same : x ≡ t = cc in (subst (λ (u : Token). IsIdle (token_meaning v u)) (sym same) idle, tt)
idle_more v (suc n) [] us t is all idle = absurd all
idle_more v (suc n) (x ∷ xs) us t is all idle = (all.0, idle_more v n xs us t is all.1 idle)

pub idle_fewer : (v : Values) (n k : ℕ) (ts : List Token) → AreIdle v n ts → k ≤ n → AreIdle v k ts
idle_fewer v n zero ts all le = tt
idle_fewer v zero (suc k) ts all le = absurd (omega (arith, le))
idle_fewer v (suc n) (suc k) [] all le = absurd all
idle_fewer v (suc n) (suc k) (t ∷ ts) all le = (all.0, idle_fewer v n k ts all.1 (omega (arith, le)))

pub idle_next : (v : Values) (n i : ℕ) (ts : List Token) (d : Token) → n ≡ i → i < length ts → AreIdle v n ts → IsIdle (token_meaning v (get_or ts i d)) → AreIdle v (n + 1) ts
idle_next v n i ts d is lt all idle = let same : suc n ≡ n + 1 = omega arith in subst (λ (k : ℕ). AreIdle v k ts) same (idle_more v n ts (drop (i + 1) ts) (get_or ts i d) (ap (λ (k : ℕ). drop k ts) is ∙ drop_more ts i d lt) all idle)

-- ---- as the code has it: the input is what was skipped

pub idle_runs_to : (budget n k : ℕ) (m : Mouth) (i : InputState) (ts : List Token) → IsAtRest m → ts ≡ fresh_in m.input.levels → AreIdle m.rest.values k ts → n ≤ k → 0 < n → m.spent + n ≤ budget → i ≡ skipped n m.input → Runs budget (mouth_at Reading m) (mouth_at Reading (record m { input = i; spent = m.spent + n }))
idle_runs_to budget zero k m i ts at same all le some room is = absurd (omega (arith, some))
idle_runs_to budget (suc n) k m i ts at same all le some room is =
    let here : AreIdle m.rest.values (suc n) (fresh_in m.input.levels) = subst (λ (us : List Token). AreIdle m.rest.values (suc n) us) same (idle_fewer m.rest.values k (suc n) ts all le) in
    let runs : Runs budget (mouth_at Reading m) (mouth_at Reading (taken (suc n) m)) = subst (λ (j : ℕ). Runs budget (mouth_at Reading m) (mouth_at Reading (taken j m))) (omega arith) (idle_runs budget m (suc n) n at here (omega arith) room) in
    subst (λ (j : InputState). Runs budget (mouth_at Reading m) (mouth_at Reading (record m { input = j; spent = m.spent + suc n }))) (sym is) runs

pub at_rest_behind : (n : ℕ) (m : Mouth) (i : InputState) → IsAtRest m → i ≡ skipped n m.input → IsAtRest (record m { input = i; spent = m.spent + n })
at_rest_behind n m i at is = subst (λ (j : InputState). IsAtRest (record m { input = j; spent = m.spent + n })) (sym is) (still_at_rest n m at)

pub one_more : (ts : List Token) (i : InputState) → length (list_before ts Fresh i).levels ≤ length i.levels + 1
one_more [] i = omega arith
one_more (t ∷ ts) i = omega arith

deeper : (body : List Token) (m : Mouth) → length m.input.levels < 10000 → length (called body m).input.levels ≤ 10000
unfolding with_list skipped
deeper body m lt =
    let fewer = fewer_in 1 m.input.levels in
    let more_levels = one_more body (skipped 1 m.input) in
    omega (arith, fewer, more_levels, lt)

first_is : (ts : List Token) (d : Token) → 1 ≤ length ts → ts ≡ get_or ts 0 d ∷ drop 1 ts
first_is [] d le = absurd (omega (arith, le))
first_is (t ∷ ts) d le = refl

pub call_runs_to : (budget : ℕ) (m : Mouth) (i j : InputState) (t : Token) (body : List Token) → IsNext t m → plain_body (token_meaning m.rest.values t) ≡ Some body → i ≡ skipped 1 m.input → j ≡ with_list Fresh body i → m.spent + 1 ≤ budget → Runs budget (mouth_at Reading m) (mouth_at Reading (record m { input = j; spent = m.spent + 1 }))
call_runs_to budget m i j t body next plain skip push room =
    let runs = call_runs budget m t next.first.0 body next.first.1 next.entries plain (deeper body m next.depth) room in
    subst (λ (k : InputState). Runs budget (mouth_at Reading m) (mouth_at Reading (record m { input = k; spent = m.spent + 1 }))) (sym (push ∙ ap (with_list Fresh body) skip)) runs

-- ---- the first token, as the code has it

pub first_some : (t : Token) (ts : List Token) → IsFirst t ts → 1 ≤ length ts
first_some t ts first = let long : length ts ≡ suc (length first.0) = ap (λ (us : List Token). length us) first.1 in omega (arith, long)

pub next_is : (m : Mouth) (ts : List Token) (d : Token) → m.entries ≡ [] → length m.input.levels < 10000 → ts ≡ fresh_in m.input.levels → 1 ≤ length ts → IsNext (get_or ts 0 d) m
next_is m ts d none depth same some = record { entries = none; depth = depth; first = (drop 1 ts, sym same ∙ first_is ts d some) }

pub rests : (t : Token) (m : Mouth) → IsNext t m → IsAtRest m
rests t m next = record { entries = next.entries; depth = let less = next.depth in omega (arith, less) }
