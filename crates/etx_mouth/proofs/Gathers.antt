-- What the turns come to in which a scan gathers tokens, many at once.
use Rattle.std.proofs.Common.{◌≡◌, ◌+◌, ◌-◌, ◌==◌, ◌<◌, ◌≤◌, ℕ, zero, suc, Bool, false, List, [], ◌∷◌, ◌++◌, length, drop, take, get_or, Option, None, if◌then◌else◌, refl, sym, ap, ◌∙◌, subst, arith}
use Rattle.std.proofs.lemmas.Bool.Decides.{nat_tests}
use Rattle.std.proofs.lemmas.List.{append-nil, drop_more}
use Rattle.etx_matter.specs.declared.token.Token.{Token}
use Rattle.etx_input.specs.Levels.{InputState}
use Rattle.etx_input.specs.Runs.{fresh_in, skipped}
use Rattle.etx_input.proofs.Runs.{first, more, rest}
use Rattle.etx_macros.specs.declared.mark.Brace.{Brace}
use Rattle.etx_macros.specs.declared.mark.Brace.TheVariants.{Left, Right, Neither}
use Rattle.etx_macros.specs.Marks.{brace_of}
use Rattle.etx_state.specs.declared.key.Meaning.{Meaning}
use Rattle.etx_state.specs.declared.scan.ParameterMark.{ParameterMark}
use Rattle.etx_state.specs.declared.scan.Definition.{Definition}
use Rattle.etx_state.specs.declared.scan.Scan.{Scan}
use Rattle.etx_state.specs.Reading.{token_meaning}
use Rattle.etx_state.specs.Rests.{RestState}
use Rattle.etx_state.specs.Values.{Values}
use Rattle.etx_state.specs.Mouths.{Mouth}
use Rattle.etx_expand.specs.declared.get.Watch.{Watch}
use Rattle.etx_expand.specs.declared.get.Watch.TheVariants as watch
use Rattle.etx_expand.specs.declared.get.Got.TheVariants as got
use Rattle.etx_expand.specs.declared.fetch.Fetched.TheVariants as fetched
use Rattle.etx_answers.specs.declared.plan.Turned.TheVariants as came
use Rattle.etx_answers.specs.Answers.{Planned, reading, quiet}
use Rattle.etx_expand.specs.Getting.{getting, admitted, got_of, token_got, watch_by, watch_of}
use Rattle.etx_answers.specs.Meanings.{is_outer, body_reading, reading_of, wanted}
use Rattle.etx_expand.specs.Moves.{after, charged, scanning, planned_turn, made, beside, turned_by}
use Rattle.etx_expand.specs.Turn.{Fetching, scan_fetched}
use Rattle.etx_assign.specs.Definitions.{body_goes_on, body_or_mark, body_by, body_at, body_row, in_body, definition_over}
use Rattle.etx_assign.specs.Turn.{assign_row}
use Rattle.etx_mouth.specs.declared.mouth.Source.TheVariants.{Reading}
use Rattle.etx_mouth.specs.Machine.{scan_token, scan_with, scan_turn, stack_turn, machine_turn}
use Rattle.etx_mouth.specs.Mouths.{mouth_at}
use Rattle.etx_mouth.specs.Runs.{Runs}
use Rattle.etx_mouth.specs.Skimming.{taken}
use Rattle.etx_mouth.specs.Gathering.{IsCopiedAs, IsCopied, AreCopied, with_copied, input_behind, behind}
use Rattle.etx_mouth.proofs.Running.{runs_none, runs_one, runs_on}
use Rattle.etx_mouth.proofs.Skims.{fewer_in, turn_is_quiet}
use Rattle.etx_mouth.proofs.Comparing.{lt_false}

-- ---- what a scan gets where the next token is a fresh one of a list, isn't outer and isn't expanded

admitted_inner : (w : Watch) (t : Token) (mm : Meaning) (m : Mouth) → is_outer mm ≡ false → admitted w t mm m ≡ getting m (got.Token t mm)
admitted_inner watch.Nothing t mm m inner = refl
admitted_inner (watch.Defining name) t mm m inner = rw inner refl
admitted_inner (watch.Absorbing name) t mm m inner = rw inner refl
admitted_inner (watch.Matching name) t mm m inner = rw inner refl
admitted_inner (watch.Skipping line) t mm m inner = rw inner refl

got_inner : (w : Watch) (m : Mouth) (t : Token) (ts : List Token) → fresh_in m.input.levels ≡ t ∷ ts → is_outer (token_meaning m.rest.values t) ≡ false → got_of w m ≡ getting (taken 1 m) (got.Token t (token_meaning m.rest.values t))
unfolding got_of token_got
got_inner w m t ts is inner = rw (first _ _ m.input t ts is) (admitted_inner w t (token_meaning m.rest.values t) (taken 1 m) inner)

scan_got : (m : Mouth) (s : Scan) (t : Token) (ts : List Token) → fresh_in m.input.levels ≡ t ∷ ts → is_outer (token_meaning m.rest.values t) ≡ false → wanted (reading_of s) (token_meaning m.rest.values t) ≡ None → scan_fetched s m ≡ record { now = taken 1 m; fetched = fetched.Token t (token_meaning m.rest.values t) }
unfolding scan_fetched
scan_got m s t ts is inner plain = rw (got_inner (watch_by s (watch_of m.entries)) m t ts is inner, plain) refl

-- such a scan on top of the stack: the turn is its row's
pub gathers : (left : ℕ) (s : Scan) (m : Mouth) (t : Token) (ts : List Token) → fresh_in m.input.levels ≡ t ∷ ts → is_outer (token_meaning m.rest.values t) ≡ false → wanted (reading_of s) (token_meaning m.rest.values t) ≡ None → stack_turn (scanning left s m) ≡ scan_token left s t (token_meaning m.rest.values t) (taken 1 m)
unfolding stack_turn scan_turn
gathers left s m t ts is inner plain = ap (λ (f : Fetching). scan_with left s f.fetched f.now) (scan_got m s t ts is inner plain)

-- ---- a turn that passes no limit

pub fits : (m n : Mouth) → length n.entries ≤ 10000 → length n.input.levels ≤ 10000 → stack_turn m ≡ after n came.Again → machine_turn m ≡ after n came.Again
unfolding machine_turn
fits m n entries levels is = rw (is, lt_false 10000 (length n.entries) entries, lt_false 10000 (length n.input.levels) levels) refl

-- nothing was gathered
pub stays : {budget : ℕ} {old new : Mouth} → new ≡ old → Runs budget (mouth_at Reading old) (mouth_at Reading new)
stays is = runs_none (ap (λ (m : Mouth). mouth_at Reading m) is)

-- a scan on top of the stack copies a token and goes on so
abbrev pub Copies : ℕ → Scan → Scan → Mouth → Type 0
Copies left s t m = stack_turn (scanning left s m) ≡ after (charged 1 (scanning left t (taken 1 m))) came.Again

pub step : (budget left : ℕ) (s t : Scan) (m : Mouth) → Copies left s t m → length m.entries < 10000 → length m.input.levels ≤ 10000 → m.spent + 2 ≤ budget → Runs budget (mouth_at Reading (scanning left s m)) (mouth_at Reading (charged 1 (scanning left t (taken 1 m))))
unfolding skipped
step budget left s t m copies entries levels room =
    let fewer = fewer_in 1 m.input.levels in
    runs_one (turn_is_quiet budget (scanning left s m) (charged 1 (scanning left t (taken 1 m))) (fits (scanning left s m) (charged 1 (scanning left t (taken 1 m))) (omega (arith, entries)) (omega (arith, fewer, levels)) copies) (omega (arith, room)))

-- ---- a body

above_zero : (n k : ℕ) → n ≡ k + 1 → (n == 0) ≡ false
above_zero n k is = grind (arith, nat_tests)

body_row_is : (d : Definition) (t : Token) (mm : Meaning) (r : RestState) (inside : ℕ) → d.mark ≡ None → IsCopiedAs (brace_of t) mm d.depth inside → body_row d t mm r ≡ reading (quiet (body_goes_on inside d t)) r
unfolding body_row
body_row_is d t mm r inside mark copied = ap (λ (k : Option ParameterMark). body_at k d t mm r) mark ∙ by (brace_of t) copied
  where
    by : (b : Brace) → IsCopiedAs b mm d.depth inside → body_by b d t mm r ≡ reading (quiet (body_goes_on inside d t)) r
    by Left is = ap (λ (n : ℕ). reading (quiet (body_goes_on n d t)) r) (sym is)
    by Right is =
        let less : d.depth - 1 ≡ inside = omega (arith, is) in
        ap (λ (b : Bool). if b then definition_over d r else reading (quiet (body_goes_on (d.depth - 1) d t)) r) (above_zero d.depth inside is)
        ∙ ap (λ (n : ℕ). reading (quiet (body_goes_on n d t)) r) less
    by Neither is = ap (λ (k : Option ℕ). reading (quiet (body_or_mark k d t)) r) is.1 ∙ ap (λ (n : ℕ). reading (quiet (body_goes_on n d t)) r) (sym is.0)

plain_body : (d : Definition) (mm : Meaning) → d.is_expanded ≡ false → wanted (reading_of (in_body d)) mm ≡ None
unfolding wanted reading_of
plain_body d mm plain = ap (λ (b : Bool). wanted (body_reading b d.mark) mm) plain

body_copies : (left : ℕ) (d : Definition) (m : Mouth) (t : Token) (ts : List Token) (inside : ℕ) → fresh_in m.input.levels ≡ t ∷ ts → d.mark ≡ None → d.is_expanded ≡ false → IsCopied m.rest.values t d.depth inside → Copies left (in_body d) (in_body (record d { depth = inside; body = d.body ++ t ∷ []; mark = None })) m
unfolding assign_row made beside turned_by
body_copies left d m t ts inside is mark plain copied =
    gathers left (in_body d) m t ts is copied.inner (plain_body d (token_meaning m.rest.values t) plain)
    ∙ ap (λ (p : Planned). planned_turn left t p (taken 1 m)) (body_row_is d t (token_meaning m.rest.values t) m.rest inside mark copied.copied)

-- ---- many tokens

pub within_all : (n : ℕ) (ts us : List Token) (t : Token) → drop n ts ≡ t ∷ us → n < length ts
within_all zero [] us t is = absurd (let no : [] ≡ t ∷ us = is in cc)
within_all zero (x ∷ xs) us t is = omega arith
within_all (suc n) [] us t is = absurd (let no : [] ≡ t ∷ us = is in cc)
within_all (suc n) (x ∷ xs) us t is = let less = within_all n xs us t is in omega (arith, less)

take_one_more : (n : ℕ) (ts us : List Token) (t : Token) → drop n ts ≡ t ∷ us → take (suc n) ts ≡ take n ts ++ t ∷ []
take_one_more zero [] us t is = absurd (let no : [] ≡ t ∷ us = is in cc)
take_one_more zero (x ∷ xs) us t is = let same : x ≡ t = cc in ap (λ (u : Token). u ∷ []) same
take_one_more (suc n) [] us t is = absurd (let no : [] ≡ t ∷ us = is in cc)
take_one_more (suc n) (x ∷ xs) us t is = ap (λ (vs : List Token). x ∷ vs) (take_one_more n xs us t is)

pub as_many : (v : Values) (n : ℕ) (ts : List Token) (before inside : ℕ) → AreCopied v n ts before inside → n ≤ length ts
as_many v zero ts before inside all = omega arith
as_many v (suc n) ts before inside all = let less = within_all n ts all.2 all.1 all.3 in omega (arith, less)

-- the tokens behind some are those that come then
pub fresh_behind : (n : ℕ) (i : InputState) → n < length (fresh_in i.levels) → fresh_in (input_behind n i).levels ≡ drop n (fresh_in i.levels)
fresh_behind zero i less = refl
fresh_behind (suc n) i less = rest (suc n) i less

pub one_behind : (n : ℕ) (i : InputState) → n < length (fresh_in i.levels) → skipped 1 (input_behind n i) ≡ input_behind (suc n) i
one_behind zero i less = refl
one_behind (suc n) i less = let same : suc n + 1 ≡ suc (suc n) = omega arith in sym (more (suc n) i less) ∙ ap (λ (k : ℕ). skipped k i) same

pub no_deeper : (n : ℕ) (i : InputState) → length i.levels ≤ 10000 → length (input_behind n i).levels ≤ 10000
unfolding skipped
no_deeper zero i le = le
no_deeper (suc n) i le = let fewer = fewer_in (suc n) i.levels in omega (arith, fewer, le)

-- one token more
pub step_on : (budget n left : ℕ) (s t : Scan) (start m : Mouth) → n < length (fresh_in m.input.levels) → Runs budget (mouth_at Reading start) (mouth_at Reading (scanning left s (behind n m))) → Copies left s t (behind n m) → length m.entries < 10000 → length m.input.levels ≤ 10000 → m.spent + (suc n + suc n) ≤ budget → Runs budget (mouth_at Reading start) (mouth_at Reading (scanning left t (behind (suc n) m)))
step_on budget n left s t start m less before copies entries levels room =
    let one = step budget left s t (behind n m) copies entries (no_deeper n m.input levels) (omega (arith, room)) in
    let count : ((m.spent + (n + n)) + 1) + 1 ≡ m.spent + (suc n + suc n) = omega arith in
    let now : charged 1 (scanning left t (taken 1 (behind n m))) ≡ scanning left t (behind (suc n) m) =
    ap (λ (i : InputState). scanning left t (record m { input = i; spent = ((m.spent + (n + n)) + 1) + 1 })) (one_behind n m.input less)
    ∙ ap (λ (k : ℕ). scanning left t (record m { input = input_behind (suc n) m.input; spent = k })) count in
    subst (λ (v : Mouth). Runs budget (mouth_at Reading start) (mouth_at Reading v)) now (runs_on before one)

nothing_copied : (d : Definition) (depth : ℕ) → d.mark ≡ None → depth ≡ d.depth → with_copied [] depth d ≡ d
nothing_copied d depth mark is =
    ap (λ (ts : List Token). record d { depth = depth; body = ts; mark = None }) (append-nil d.body)
    ∙ ap (λ (k : Option ParameterMark). record d { depth = depth; mark = k }) (sym mark)
    ∙ ap (λ (n : ℕ). record d { depth = n }) is

more_copied : (d : Definition) (depth inside : ℕ) (ts us : List Token) (t : Token) (n : ℕ) → drop n ts ≡ t ∷ us → record (with_copied (take n ts) depth d) { depth = inside; body = (d.body ++ take n ts) ++ t ∷ []; mark = None } ≡ with_copied (take (suc n) ts) inside d
more_copied d depth inside ts us t n is =
    let whole : (d.body ++ take n ts) ++ t ∷ [] ≡ d.body ++ take (suc n) ts = sorted d.body (take n ts) (t ∷ []) ∙ ap (λ (vs : List Token). d.body ++ vs) (sym (take_one_more n ts us t is)) in
    ap (λ (vs : List Token). record d { depth = inside; body = vs; mark = None }) whole
  where
    sorted : (xs ys zs : List Token) → (xs ++ ys) ++ zs ≡ xs ++ (ys ++ zs)
    sorted [] ys zs = refl
    sorted (x ∷ xs) ys zs = ap (λ (vs : List Token). x ∷ vs) (sorted xs ys zs)

body_runs : (budget n left inside : ℕ) (d : Definition) (m : Mouth) → d.mark ≡ None → d.is_expanded ≡ false → length m.entries < 10000 → length m.input.levels ≤ 10000 → AreCopied m.rest.values n (fresh_in m.input.levels) d.depth inside → m.spent + (n + n) ≤ budget → Runs budget (mouth_at Reading (scanning left (in_body d) m)) (mouth_at Reading (scanning left (in_body (with_copied (take n (fresh_in m.input.levels)) inside d)) (behind n m)))
body_runs budget zero left inside d m mark plain entries levels all room =
    let none : m.spent + (zero + zero) ≡ m.spent = omega arith in
    stays (ap (λ (k : ℕ). scanning left (in_body (with_copied [] inside d)) (record m { spent = k })) none ∙ ap (λ (e : Definition). scanning left (in_body e) m) (nothing_copied d inside mark all))
body_runs budget (suc n) left inside d m mark plain entries levels all room =
    let less : n < length (fresh_in m.input.levels) = within_all n (fresh_in m.input.levels) all.2 all.1 all.3 in
    let before = body_runs budget n left all.0 d m mark plain entries levels all.4 (omega (arith, room)) in
    let copies = body_copies left (with_copied (take n (fresh_in m.input.levels)) all.0 d) (behind n m) all.1 all.2 inside (fresh_behind n m.input less ∙ all.3) refl plain all.5 in
    let same : Copies left (in_body (with_copied (take n (fresh_in m.input.levels)) all.0 d)) (in_body (with_copied (take (suc n) (fresh_in m.input.levels)) inside d)) (behind n m) = subst (λ (e : Definition). Copies left (in_body (with_copied (take n (fresh_in m.input.levels)) all.0 d)) (in_body e) (behind n m)) (more_copied d all.0 inside (fresh_in m.input.levels) all.2 all.1 n all.3) copies in
    step_on budget n left (in_body (with_copied (take n (fresh_in m.input.levels)) all.0 d)) (in_body (with_copied (take (suc n) (fresh_in m.input.levels)) inside d)) (scanning left (in_body d) m) m less before same entries levels room

-- ---- as the code has it

pub copied_next : (v : Values) (n i before depth inside : ℕ) (ts : List Token) (d : Token) → n ≡ i → i < length ts → AreCopied v n ts before depth → is_outer (token_meaning v (get_or ts i d)) ≡ false → IsCopiedAs (brace_of (get_or ts i d)) (token_meaning v (get_or ts i d)) depth inside → AreCopied v (n + 1) ts before inside
copied_next v n i before depth inside ts d is lt all inner copied =
    let same : suc n ≡ n + 1 = omega arith in
    let next : drop n ts ≡ get_or ts i d ∷ drop (i + 1) ts = ap (λ (k : ℕ). drop k ts) is ∙ drop_more ts i d lt in
    subst (λ (k : ℕ). AreCopied v k ts before inside) same (depth, get_or ts i d, drop (i + 1) ts, next, all, record { inner = inner; copied = copied })

-- the input is what was skipped
pub behind_as : (n : ℕ) (m : Mouth) (i : InputState) (spent : ℕ) → 0 < n → i ≡ skipped n m.input → spent ≡ m.spent + (n + n) → behind n m ≡ record m { input = i; spent = spent }
behind_as zero m i spent some is count = absurd (omega (arith, some))
behind_as (suc n) m i spent some is count =
    ap (λ (j : InputState). record m { input = j; spent = m.spent + (suc n + suc n) }) (sym is)
    ∙ ap (λ (k : ℕ). record m { input = i; spent = k }) (sym count)

pub body_runs_to : (budget n left inside : ℕ) (d : Definition) (m : Mouth) (i : InputState) (ts : List Token) (spent : ℕ) → d.mark ≡ None → d.is_expanded ≡ false → length m.entries < 10000 → length m.input.levels ≤ 10000 → ts ≡ fresh_in m.input.levels → AreCopied m.rest.values n ts d.depth inside → 0 < n → m.spent + (n + n) ≤ budget → i ≡ skipped n m.input → spent ≡ m.spent + (n + n) → Runs budget (mouth_at Reading (scanning left (in_body d) m)) (mouth_at Reading (scanning left (in_body (with_copied (take n ts) inside d)) (record m { input = i; spent = spent })))
body_runs_to budget n left inside d m i ts spent mark plain entries levels same all some room is count =
    let here : AreCopied m.rest.values n (fresh_in m.input.levels) d.depth inside = subst (λ (us : List Token). AreCopied m.rest.values n us d.depth inside) same all in
    let now : scanning left (in_body (with_copied (take n (fresh_in m.input.levels)) inside d)) (behind n m) ≡ scanning left (in_body (with_copied (take n ts) inside d)) (record m { input = i; spent = spent }) =
    ap (λ (us : List Token). scanning left (in_body (with_copied (take n us) inside d)) (behind n m)) (sym same)
    ∙ ap (λ (v : Mouth). scanning left (in_body (with_copied (take n ts) inside d)) v) (behind_as n m i spent some is count) in
    subst (λ (v : Mouth). Runs budget (mouth_at Reading (scanning left (in_body d) m)) (mouth_at Reading v)) now (body_runs budget n left inside d m mark plain entries levels here room)

-- the same where the definition and the mouth are known by equations
pub body_runs_as : (budget n left inside : ℕ) (d e : Definition) (m new : Mouth) (i : InputState) (ts : List Token) (spent : ℕ) → new ≡ scanning left (in_body e) (record m { input = i; spent = spent }) → e ≡ with_copied (take n ts) inside d → i ≡ skipped n m.input → spent ≡ m.spent + (n + n) → d.mark ≡ None → d.is_expanded ≡ false → length m.entries < 10000 → length m.input.levels ≤ 10000 → ts ≡ fresh_in m.input.levels → AreCopied m.rest.values n ts d.depth inside → 0 < n → m.spent + (n + n) ≤ budget → Runs budget (mouth_at Reading (scanning left (in_body d) m)) (mouth_at Reading new)
body_runs_as budget n left inside d e m new i ts spent now copied is count mark plain entries levels same all some room =
    let reached : scanning left (in_body (with_copied (take n ts) inside d)) (record m { input = i; spent = spent }) ≡ new =
    ap (λ (f : Definition). scanning left (in_body f) (record m { input = i; spent = spent })) (sym copied) ∙ sym now in
    subst (λ (v : Mouth). Runs budget (mouth_at Reading (scanning left (in_body d) m)) (mouth_at Reading v)) reached (body_runs_to budget n left inside d m i ts spent mark plain entries levels same all some room is count)
