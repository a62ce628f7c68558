-- EACH TURN goes on: the central lemmas hold for any plan, any start and any finisher, so no row owes anything.
use Rattle.std.proofs.Common.{◌≡◌, ℕ, zero, suc, ◌+◌, ◌-◌, ◌*◌, ◌<◌, ◌≤◌, nat_le, ◌++◌, ◌∙◌, inl, inr, ◌⊎◌, Bool, true, false, List, [], ◌∷◌, length, Option, Some, None, refl, sym, subst, arith}
use Rattle.std.proofs.lemmas.Bool.Decides.{nat_tests}
use Rattle.std.proofs.lemmas.List.{length-append}
use Rattle.etx_matter.specs.declared.token.Token.{Token}
use Rattle.etx_matter.specs.declared.deed.Deed.TheVariants as deed
use Rattle.etx_input.specs.Levels.{with_list}
use Rattle.etx_input.specs.declared.origin.Origin.{Origin}
use Rattle.etx_input.specs.declared.origin.Origin.TheVariants as origin
use Rattle.etx_state.specs.declared.scan.ExpansionScan.{ExpansionScan}
use Rattle.etx_input.specs.Levels.{line_number}
use Rattle.etx_state.specs.declared.taker.NumberScan.{NumberScan}
use Rattle.etx_state.specs.declared.taker.Taker.{Taker}
use Rattle.etx_state.specs.declared.scan.OpenText.{OpenText}
use Rattle.etx_state.specs.declared.scan.TextFinish.{TextFinish}
use Rattle.etx_state.specs.declared.scan.Value.{Value}
use Rattle.etx_state.specs.declared.scan.Keeper.{Keeper}
use Rattle.etx_state.specs.declared.scan.Keeper.TheVariants as keeper
use Rattle.etx_state.specs.declared.scan.Scan.{Scan}
use Rattle.etx_state.specs.declared.scan.Scan.TheVariants as scan
use Rattle.etx_state.specs.declared.scan.Entry.{Entry}
use Rattle.etx_state.specs.declared.scan.Entry.TheVariants as entry
use Rattle.etx_state.specs.Rests.{RestState}
use Rattle.etx_state.specs.Mouths.{Mouth, with_rest}
use Rattle.etx_answers.specs.declared.meaning.Expandable.{Expandable}
use Rattle.etx_answers.specs.declared.meaning.Reading.{Reading}
use Rattle.etx_answers.specs.declared.meaning.Reading.TheVariants as reading_as
use Rattle.etx_expand.specs.declared.get.Got.{Got}
use Rattle.etx_expand.specs.declared.get.Got.TheVariants as got
use Rattle.etx_expand.specs.declared.fetch.Idle.{Idle}
use Rattle.etx_expand.specs.declared.fetch.Idle.TheVariants as idle
use Rattle.etx_expand.specs.declared.fetch.Fetched.{Fetched}
use Rattle.etx_expand.specs.declared.fetch.Fetched.TheVariants as fetched
use Rattle.etx_answers.specs.declared.plan.Insert.{Insert}
use Rattle.etx_answers.specs.declared.plan.Insert.TheVariants as insert
use Rattle.etx_answers.specs.declared.plan.Failure.{Failure}
use Rattle.etx_answers.specs.declared.plan.Did.{Did}
use Rattle.etx_answers.specs.declared.plan.Did.TheVariants as did
use Rattle.etx_answers.specs.declared.plan.Move.{Move}
use Rattle.etx_answers.specs.declared.plan.Move.TheVariants as move
use Rattle.etx_answers.specs.declared.plan.Push.{Push}
use Rattle.etx_answers.specs.declared.plan.Push.TheVariants as push
use Rattle.etx_answers.specs.declared.plan.Then.{Then}
use Rattle.etx_answers.specs.declared.plan.Then.TheVariants as afterwards
use Rattle.etx_answers.specs.declared.plan.WordPlan.{WordPlan}
use Rattle.etx_answers.specs.declared.plan.WordPlan.TheVariants as words
use Rattle.etx_answers.specs.declared.plan.Ended.{Ended}
use Rattle.etx_answers.specs.declared.plan.Turned.{Turned}
use Rattle.etx_answers.specs.declared.plan.Turned.TheVariants as turned
use Rattle.etx_answers.specs.Answers.{Planned, Begun, Finished, reading}
use Rattle.etx_expand.specs.Moves.{After, after, charged, read_next, put_back, entered, scanning, most_stages, inserted, back_if, insert_if, failed, beside, beside_value, error_deed, turned_by, made, planned_turn, pushed, begun_turn, more, more_given, followed, finished_turn, letters_back, charged_if, letter_kept, word_turn}
use Rattle.etx_expand.specs.Getting.{Getting, watch_by, watch_of, got_of}
use Rattle.etx_expand.specs.Calls.{cut_off}
use Rattle.etx_answers.specs.Meanings.{reading_of, keeper_reading, wanted}
use Rattle.etx_expand.specs.Measure.{turn_weight, say_weight, given_weight, scan_weight, stage_weight, begun_weight, back_weight, held_weight, letters_weight, tokens_weight, levels_weight, entry_weight, weight, Steps, PaidFor, PaysFor, Falls, Comes, Goes}
use Rattle.etx_expand.specs.Turn.{Fetching, wanted_as, fetched_as, fetched_by, scan_fetched, keeper_fetched, main_fetched, expanded_turn, idle_turn, expansion_row, expansion_token, number_token, text_token, kept_idle, kept_with, expand_after_turn, due_turn, say_turn}
use Rattle.etx_numbers.specs.Expressions.{number_row}
use Rattle.etx_expand.specs.Expanding.{expansion_begun}
use Rattle.etx_expand.specs.Texts.{text_row}
use Rattle.etx_state.specs.declared.key.Meaning.{Meaning}
use Rattle.etx_expand.proofs.Gotten.{PaidGot, Pays, got_pays}

-- ---- what is read next weighs nothing, but for tokens that were put back

-- no step was taken, and this much was added at most
pub record Adds (most : ℕ) (old new : Mouth) : Type 0 where
  pub spent : new.spent ≡ old.spent
  pub weight : weight new ≤ weight old + most

next_adds : (ts : List Token) (m : Mouth) → Adds 0 m (read_next origin.Fresh ts m)
unfolding with_list
next_adds [] m = record { spent = refl; weight = omega arith }
next_adds (t ∷ ts) m = record { spent = refl; weight = omega arith }

pub back_adds : (t : Token) (m : Mouth) → Adds back_weight m (put_back t m)
unfolding with_list
back_adds t m = record { spent = refl; weight = omega arith }

kept_adds : (t : Token) (m : Mouth) → Adds back_weight m (read_next origin.Unexpanded (t ∷ []) m)
unfolding with_list
kept_adds t m = record { spent = refl; weight = omega arith }

as_it_is_adds : (ts : List Token) (m : Mouth) → Adds 0 m (read_next origin.Kept ts m)
unfolding with_list
as_it_is_adds [] m = record { spent = refl; weight = omega arith }
as_it_is_adds (t ∷ ts) m = record { spent = refl; weight = omega arith }

inserted_adds : (i : Insert) (m : Mouth) → Adds 0 m (inserted i m)
unfolding inserted
inserted_adds insert.Nothing m = record { spent = refl; weight = omega arith }
inserted_adds (insert.Token t) m = next_adds (t ∷ []) m
inserted_adds (insert.Text ts) m = next_adds ts m
inserted_adds (insert.Kept ts) m = as_it_is_adds ts m

back_if_spent : (b : Bool) (t : Token) (m : Mouth) → (back_if b t m).spent ≡ m.spent
back_if_spent true t m = refl
back_if_spent false t m = refl

pub insert_if_adds : (o : Option Token) (m : Mouth) → Adds 0 m (insert_if o m)
insert_if_adds None m = record { spent = refl; weight = omega arith }
insert_if_adds (Some t) m = next_adds (t ∷ []) m

-- ---- what is done beside

beside_spent : (t : Token) (d : Did) (m : Mouth) → (beside t d m).spent ≡ m.spent
unfolding beside
beside_spent t did.Nothing m = refl
beside_spent t did.Space m = refl
beside_spent t (did.Error f) m = let h = insert_if_adds f.inserted (back_if f.is_back t m) in let k = back_if_spent f.is_back t m in cc (h.spent, k)
beside_spent t (did.End e) m = refl

beside_value_spent : (d : Did) (m : Mouth) → (beside_value d m).spent ≡ m.spent
unfolding beside_value
beside_value_spent did.Nothing m = refl
beside_value_spent did.Space m = refl
beside_value_spent (did.Error f) m = (insert_if_adds f.inserted m).spent
beside_value_spent (did.End e) m = refl

falls_less : (n : ℕ) (old new : Mouth) → n ≤ turn_weight → Falls turn_weight old new → Falls n old new
falls_less n old new h (inl forth) = inl forth
falls_less n old new h (inr less) = inr (less.0, omega (arith, less.1, h))

beside_comes : (t : Token) (d : Did) (old m : Mouth) → Falls turn_weight old m → Comes (turned_by d m) old (beside t d m)
unfolding beside turned_by
beside_comes t did.Nothing old m h = falls_less 1 old m (omega arith) h
beside_comes t did.Space old m h = falls_less 1 old m (omega arith) h
beside_comes t (did.Error f) old m h = tt
beside_comes t (did.End e) old m h = tt

beside_value_comes : (d : Did) (old m : Mouth) → Falls turn_weight old m → Comes (turned_by d m) old (beside_value d m)
unfolding beside_value turned_by
beside_value_comes did.Nothing old m h = falls_less 1 old m (omega arith) h
beside_value_comes did.Space old m h = falls_less 1 old m (omega arith) h
beside_value_comes (did.Error f) old m h = tt
beside_value_comes (did.End e) old m h = tt

-- what was made is done, with what is done beside
beside_goes : (t : Token) (d : Did) (old m : Mouth) → Falls turn_weight old m → Steps 2 old m → Goes old (after (beside t d m) (turned_by d m))
beside_goes t d old m h s = record {
  comes = beside_comes t d old m h;
  forth = omega (arith, beside_spent t d m, s.forth);
  few = omega (arith, beside_spent t d m, s.few);
}

beside_value_goes : (d : Did) (old m : Mouth) → Falls turn_weight old m → Steps 2 old m → Goes old (after (beside_value d m) (turned_by d m))
beside_value_goes d old m h s = record {
  comes = beside_value_comes d old m h;
  forth = omega (arith, beside_value_spent d m, s.forth);
  few = omega (arith, beside_value_spent d m, s.few);
}

-- ---- any plan

-- a step was taken, or less was added than was there to be added
abbrev Fits : ℕ → Mouth → Mouth → Type 0
Fits most old new = (new.spent ≡ old.spent + 1) ⊎ ((new.spent ≡ old.spent) × (weight new + turn_weight ≤ weight old + most))

abbrev scan_worth : ℕ → ℕ
scan_worth left = scan_weight + stage_weight * left

made_fits : (left : ℕ) (t : Token) (go : Move) (m : Mouth) → Fits (back_weight + scan_worth left) m (made left t go m)
unfolding made
made_fits left t (move.Used i) m = let h = inserted_adds i m in inr (h.spent, omega (arith, h.weight))
made_fits left t (move.Begin s) m = inr (refl, omega arith)
made_fits left t (move.Stay s) m = inr (refl, omega arith)
made_fits left t (move.Copied s) m = inl refl
made_fits left t (move.CopiedLast i) m = let h = inserted_adds i m in inl (omega (arith, h.spent))
made_fits left t move.Back m = let h = back_adds t m in inr (h.spent, omega (arith, h.weight))
made_fits left t (move.Gives v) m = inr (refl, omega arith)
made_fits left t (move.GivesBack v) m = let h = back_adds t m in inr (h.spent, omega (arith, h.weight))
made_fits left t (move.Hold by) m = inr (refl, omega arith)
made_fits left t move.Unexpanded m = let h = kept_adds t m in inr (h.spent, omega (arith, h.weight))
made_fits left t (move.Letter s) m = inr (refl, omega arith)

-- a token was paid for, and what was made of it fits
fits_falls : (n k : ℕ) (old m new : Mouth) → Falls n old m → Steps 1 old m → Fits (n + k) m new → (top : Mouth) → top.spent ≡ old.spent → weight old + k ≤ weight top → Falls turn_weight top new
fits_falls n k old m new (inl paid) s (inl one) top same is = inl (omega (arith, one, paid, same))
fits_falls n k old m new (inl paid) s (inr f) top same is = inl (omega (arith, f.0, paid, same))
fits_falls n k old m new (inr paid) s (inl one) top same is = inl (omega (arith, one, paid.0, same))
fits_falls n k old m new (inr paid) s (inr f) top same is = inr (omega (arith, f.0, paid.0, same), omega (arith, f.1, paid.1, is))

fits_steps : (n : ℕ) (old m new : Mouth) → Steps 1 old m → Fits n m new → (top : Mouth) → top.spent ≡ old.spent → Steps 2 top new
fits_steps n old m new s (inl one) top same = record { forth = omega (arith, one, s.forth, same); few = omega (arith, one, s.few, same) }
fits_steps n old m new s (inr f) top same = record { forth = omega (arith, f.0, s.forth, same); few = omega (arith, f.0, s.few, same) }

-- a row changes the rest, which takes no step
rest_steps : (r : RestState) (n : ℕ) (old m : Mouth) → Steps n old m → Steps n old (with_rest r m)
rest_steps r n old m s = record { forth = s.forth; few = s.few }

fits_alone : (n : ℕ) (old new : Mouth) → Fits n old new → Fits (0 + n) old new
fits_alone n old new (inl one) = inl one
fits_alone n old new (inr f) = inr (f.0, omega (arith, f.1))

-- WHATEVER A SCAN'S ROW HAS PLANNED, the turn goes on
planned_over : (left : ℕ) (t : Token) (p : Planned) (old m top : Mouth) → top.spent ≡ old.spent → weight old + scan_worth left ≤ weight top → Falls back_weight old m → Steps 1 old m → Goes top (planned_turn left t p m)
planned_over left t p old m top same is paid steps =
    let fits = made_fits left t p.plan.go (with_rest p.rest m) in
    beside_goes t p.plan.did top (made left t p.plan.go (with_rest p.rest m))
    (fits_falls back_weight (scan_worth left) old (with_rest p.rest m) (made left t p.plan.go (with_rest p.rest m)) paid (rest_steps p.rest 1 old m steps) fits top same is)
    (fits_steps (back_weight + scan_worth left) old (with_rest p.rest m) (made left t p.plan.go (with_rest p.rest m)) (rest_steps p.rest 1 old m steps) fits top same)

pub planned_goes : (left : ℕ) (s : Scan) (t : Token) (p : Planned) (old m : Mouth) → Falls back_weight old m → Steps 1 old m → Goes (scanning left s old) (planned_turn left t p m)
planned_goes left s t p old m paid steps = planned_over left t p old m (scanning left s old) refl (omega arith) paid steps

-- ---- any start

pushed_fits : (p : Push) (m : Mouth) → Fits (back_weight + 0) m (pushed p m)
unfolding pushed
pushed_fits (push.Insert i) m = let h = inserted_adds i m in inr (h.spent, omega (arith, h.weight))
pushed_fits (push.Begin s) m = inr (refl, omega arith)

-- WHATEVER A TOKEN BEGINS, the turn goes on
pub begun_goes : (t : Token) (b : Begun) (old m : Mouth) → Falls back_weight old m → Steps 1 old m → Goes old (begun_turn t b m)
begun_goes t b old m paid steps =
    let fits = pushed_fits b.start.push (with_rest b.rest m) in
    beside_goes t b.start.did old (pushed b.start.push (with_rest b.rest m))
    (fits_falls back_weight 0 old (with_rest b.rest m) (pushed b.start.push (with_rest b.rest m)) paid (rest_steps b.rest 1 old m steps) fits old refl (omega arith))
    (fits_steps (back_weight + 0) old (with_rest b.rest m) (pushed b.start.push (with_rest b.rest m)) (rest_steps b.rest 1 old m steps) fits old refl)

-- ---- any finisher

abbrev given_worth : ℕ → ℕ
given_worth left = given_weight + stage_weight * left

followed_fits : (left : ℕ) (t : Then) (m : Mouth) → Fits (given_worth left) m (followed left t m)
unfolding followed
followed_fits left (afterwards.Insert i) m = let h = inserted_adds i m in inr (h.spent, omega (arith, h.weight))
followed_fits zero (afterwards.More s) m = inl refl
followed_fits (suc n) (afterwards.More s) m = inr (refl, omega arith)
followed_fits zero (afterwards.MoreBehind a s) m = inl refl
followed_fits (suc n) (afterwards.MoreBehind a s) m = inr (refl, omega arith)
followed_fits left (afterwards.Say text) m = inr (refl, omega arith)
followed_fits zero (afterwards.Gives v) m = inl refl
followed_fits (suc n) (afterwards.Gives v) m = inr (refl, omega arith)

-- WHATEVER A FINISHER DECIDES, the turn goes on
pub finished_goes : (left : ℕ) (v : Value) (f : Finished) (m : Mouth) → Goes (entered (entry.Given left v) m) (finished_turn left f m)
finished_goes left v f m =
    let fits = followed_fits left f.ended.then (with_rest f.rest m) in
    beside_value_goes f.ended.did (entered (entry.Given left v) m) (followed left f.ended.then (with_rest f.rest m))
    (fits_falls 0 (given_worth left) m (with_rest f.rest m) (followed left f.ended.then (with_rest f.rest m)) (inr (refl, omega arith)) (record { forth = omega arith; few = omega arith }) (fits_alone (given_worth left) (with_rest f.rest m) (followed left f.ended.then (with_rest f.rest m)) fits) (entered (entry.Given left v) m) refl (omega arith))
    (fits_steps (given_worth left) m (with_rest f.rest m) (followed left f.ended.then (with_rest f.rest m)) (record { forth = omega arith; few = omega arith }) fits (entered (entry.Given left v) m) refl)

-- ---- any word

letters_add : (ls : List Token) (m : Mouth) → Adds (back_weight * length ls) m (letters_back ls m)
unfolding letters_back
letters_add [] m = record { spent = refl; weight = omega arith }
letters_add (t ∷ ts) m =
    let h = letters_add ts m in
    let k = back_adds t (letters_back ts m) in
    record { spent = k.spent ∙ h.spent; weight = omega (arith, h.weight, k.weight) }

not_le : (n : ℕ) → nat_le 7 n ≡ false → n < 7
not_le n e = grind (arith, nat_tests)

letter_falls : (left : ℕ) (ls : List Token) (s s' : Scan) (t : Token) (old m : Mouth) → length ls < 7 → Falls back_weight old m → Falls 1 (entered (entry.Word left ls s) old) (entered (entry.Word left (ls ++ t ∷ []) s') m)
letter_falls left ls s s' t old m few (inl forth) = inl forth
letter_falls left ls s s' t old m few (inr less) =
    let long = length-append ls (t ∷ []) in
    inr (less.0, omega (arith, less.1, few, long))

letter_goes : (left : ℕ) (ls : List Token) (s s' : Scan) (t : Token) (old m : Mouth) → Falls back_weight old m → Steps 1 old m → Goes (entered (entry.Word left ls s) old) (after (letter_kept left ls t s' m) turned.Again)
letter_goes left ls s s' t old m paid steps = by (nat_le 7 (length ls)) refl
  where
    by : (b : Bool) → nat_le 7 (length ls) ≡ b → Goes (entered (entry.Word left ls s) old) (after (entered (entry.Word left (ls ++ t ∷ []) s') (charged_if b m)) turned.Again)
    by true e = record { comes = inl (omega (arith, steps.forth)); forth = omega (arith, steps.forth); few = omega (arith, steps.few) }
    by false e = record { comes = letter_falls left ls s s' t old m (not_le (length ls) e) paid; forth = steps.forth; few = omega (arith, steps.few) }

-- the letters and the token behind them are read again, and what comes then fits
lost_falls : (left : ℕ) (ls : List Token) (s : Scan) (old m n new : Mouth) → Falls back_weight old m → Steps 1 old m → n.spent ≡ m.spent → weight n ≤ weight m + back_weight + back_weight * length ls → Fits (given_worth left) n new → Falls turn_weight (entered (entry.Word left ls s) old) new
lost_falls left ls s old m n new (inl paid) steps same le (inl one) = inl (omega (arith, one, paid, same))
lost_falls left ls s old m n new (inl paid) steps same le (inr f) = inl (omega (arith, f.0, paid, same))
lost_falls left ls s old m n new (inr paid) steps same le (inl one) = inl (omega (arith, one, paid.0, same))
lost_falls left ls s old m n new (inr paid) steps same le (inr f) = inr (omega (arith, f.0, paid.0, same), omega (arith, f.1, paid.1, le))

-- the mouth where they are read again
abbrev lost_mouth : List Token → Token → Mouth → Mouth
lost_mouth ls t m = with_rest m.rest (letters_back ls (put_back t m))

lost_goes : (left : ℕ) (ls : List Token) (s : Scan) (t : Token) (e : Ended) (old m : Mouth) → Falls back_weight old m → Steps 1 old m → Goes (entered (entry.Word left ls s) old) (finished_turn left (record { rest = m.rest; ended = e }) (letters_back ls (put_back t m)))
lost_goes left ls s t e old m paid steps =
    let h = letters_add ls (put_back t m) in
    let k = back_adds t m in
    let same : (lost_mouth ls t m).spent ≡ m.spent = h.spent ∙ k.spent in
    let le : weight (lost_mouth ls t m) ≤ weight m + back_weight + back_weight * length ls = omega (arith, h.weight, k.weight) in
    let fits = followed_fits left e.then (lost_mouth ls t m) in
    beside_value_goes e.did (entered (entry.Word left ls s) old) (followed left e.then (lost_mouth ls t m))
    (lost_falls left ls s old m (lost_mouth ls t m) (followed left e.then (lost_mouth ls t m)) paid steps same le fits)
    (fits_steps (given_worth left) old (lost_mouth ls t m) (followed left e.then (lost_mouth ls t m)) (record { forth = omega (arith, same, steps.forth); few = omega (arith, same, steps.few) }) fits (entered (entry.Word left ls s) old) refl)

-- WHATEVER BECOMES OF A WORD, the turn goes on
pub word_goes : (left : ℕ) (ls : List Token) (s : Scan) (t : Token) (p : WordPlan) (old m : Mouth) → Falls back_weight old m → Steps 1 old m → Goes (entered (entry.Word left ls s) old) (word_turn left ls t p m)
unfolding word_turn
word_goes left ls s t (words.Letter s') old m paid steps = letter_goes left ls s s' t old m paid steps
word_goes left ls s t (words.Found p) old m paid steps = planned_over left t (record { rest = m.rest; plan = p }) old m (entered (entry.Word left ls s) old) refl (omega arith) paid steps
word_goes left ls s t (words.Lost e) old m paid steps = lost_goes left ls s t e old m paid steps

-- ---- what was fetched was paid for

fetched_pays : (by : Reading) (old : Mouth) (g : Getting) → Pays old g → PaysFor old (fetched_by by g)
fetched_pays by old g pays = record { paid = at g.got pays.paid; steps = pays.steps }
  where
    token : (o : Option Expandable) (t : Token) (mm : Meaning) → Falls back_weight old g.now → PaidFor (wanted_as o t mm) old g.now
    token None t mm paid = paid
    token (Some what) t mm paid = paid

    at : (x : Got) → PaidGot x old g.now → PaidFor (fetched_as by x) old g.now
    at (got.Token t mm) paid = token (wanted by mm) t mm paid
    at (got.Over d) paid = paid
    at (got.Cut text) paid = tt

pub scan_fetched_pays : (s : Scan) (m : Mouth) → PaysFor m (scan_fetched s m)
unfolding scan_fetched
scan_fetched_pays s m = fetched_pays (reading_of s) m (got_of (watch_by s (watch_of m.entries)) m) (got_pays (watch_by s (watch_of m.entries)) m)

pub keeper_fetched_pays : (by : Keeper) (m : Mouth) → PaysFor m (keeper_fetched by m)
unfolding keeper_fetched
keeper_fetched_pays by m = fetched_pays (keeper_reading by) m (got_of (watch_of m.entries) m) (got_pays (watch_of m.entries) m)

pub main_fetched_pays : (m : Mouth) → PaysFor m (main_fetched m)
unfolding main_fetched
main_fetched_pays m = fetched_pays reading_as.Expanded m (got_of (watch_of m.entries) m) (got_pays (watch_of m.entries) m)

-- ---- where something stands above as before

pub falls_above : (n : ℕ) (e f : Entry) (old new : Mouth) → entry_weight f ≤ entry_weight e → Falls n old new → Falls n (entered e old) (entered f new)
falls_above n e f old new h (inl forth) = inl forth
falls_above n e f old new h (inr less) = inr (less.0, omega (arith, less.1, h))

pub falls_gone : (n : ℕ) (e : Entry) (old new : Mouth) → Falls n old new → Falls n (entered e old) new
falls_gone n e old new (inl forth) = inl forth
falls_gone n e old new (inr less) = inr (less.0, omega (arith, less.1))

pub comes_above : (t : Turned) (e : Entry) (old new : Mouth) → Comes t old new → Comes t (entered e old) (entered e new)
comes_above turned.Again e old new h = falls_above 1 e e old new (omega arith) h
comes_above (turned.Deed (deed.Fresh a)) e old new h = falls_above 1 e e old new (omega arith) h
comes_above (turned.Deed (deed.Space a)) e old new h = falls_above 1 e e old new (omega arith) h
comes_above (turned.Deed (deed.Text b a)) e old new h = falls_above 1 e e old new (omega arith) h
comes_above (turned.Deed (deed.Error b l a)) e old new h = tt
comes_above (turned.Deed (deed.Create n)) e old new h = absurd h
comes_above (turned.End e') e old new h = tt

pub steps_more : (old new : Mouth) → Steps 1 old new → Steps 2 old new
steps_more old new s = record { forth = s.forth; few = omega (arith, s.few) }

-- nothing came, and what waits waits on
pub over_goes : (e : Entry) (t : Turned) (old m : Mouth) → Comes t old m → Steps 1 old m → Goes (entered e old) (after (entered e m) t)
over_goes e t old m comes steps = record { comes = comes_above t e old m comes; forth = steps.forth; few = omega (arith, steps.few) }

-- it was cut off, which is an error
pub cut_goes : (e f : Entry) (text : List ℕ) (old m : Mouth) → Steps 1 old m → Goes (entered e old) (after (entered f m) (error_deed text m))
cut_goes e f text old m steps = record { comes = tt; forth = steps.forth; few = omega (arith, steps.few) }

-- the same where nothing waits
pub free_goes : (d : Did) (old m : Mouth) → Comes (turned_by d m) old m → Steps 1 old m → Goes old (after m (turned_by d m))
free_goes d old m comes steps = record { comes = comes; forth = steps.forth; few = omega (arith, steps.few) }

pub free_cut : (text : List ℕ) (old m : Mouth) → Steps 1 old m → Goes old (after m (error_deed text m))
free_cut text old m steps = record { comes = tt; forth = steps.forth; few = omega (arith, steps.few) }

pub expanded_goes : (what : Expandable) (t : Token) (old m : Mouth) → Falls back_weight old m → Steps 1 old m → Goes old (expanded_turn what t m)
expanded_goes what t old m paid steps = begun_goes t (expansion_begun what t (line_number m.input) m.rest) old m paid steps

pub above_steps : (e f : Entry) (old m : Mouth) → Steps 1 old m → Steps 1 (entered e old) (entered f m)
above_steps e f old m steps = record { forth = steps.forth; few = steps.few }

pub idle_goes : (left : ℕ) (s : Scan) (i : Idle) (old m : Mouth) → PaidFor (fetched.Idle i) old m → Steps 1 old m → Goes (scanning left s old) (idle_turn left s i m)
unfolding idle_turn
idle_goes left s (idle.Expands t what) old m paid steps = expanded_goes what t (scanning left s old) (scanning left s m) (falls_above back_weight (entry.Scan left s) (entry.Scan left s) old m (omega arith) paid) (above_steps (entry.Scan left s) (entry.Scan left s) old m steps)
idle_goes left s (idle.Over d) old m paid steps = over_goes (entry.Scan left s) (turned_by d m) old m paid steps
idle_goes left s (idle.Cut text) old m paid steps = cut_goes (entry.Scan left s) (entry.Scan left (cut_off s)) text old m steps

-- ---- the turns of expansion's entries

pub expansion_goes : (left : ℕ) (e : ExpansionScan) (t : Token) (mm : Meaning) (old m : Mouth) → Falls back_weight old m → Steps 1 old m → Goes (scanning left (scan.Expansion e) old) (expansion_token left e t mm m)
expansion_goes left e t mm old m paid steps = planned_goes left (scan.Expansion e) t (expansion_row e t mm (line_number m.input) m.rest) old m paid steps

pub number_goes : (left : ℕ) (k : NumberScan) (taker : Taker) (t : Token) (mm : Meaning) (old m : Mouth) → Falls back_weight old m → Steps 1 old m → Goes (scanning left (scan.Number k taker) old) (number_token left k taker t mm m)
number_goes left k taker t mm old m paid steps = planned_goes left (scan.Number k taker) t (reading (number_row k taker t mm (line_number m.input) m.rest) m.rest) old m paid steps

pub text_goes : (left : ℕ) (o : OpenText) (f : TextFinish) (t : Token) (mm : Meaning) (old m : Mouth) → Falls back_weight old m → Steps 1 old m → Goes (scanning left (scan.Text o f) old) (text_token left o f t mm m)
text_goes left o f t mm old m paid steps = planned_goes left (scan.Text o f) t (reading (text_row o f t mm) m.rest) old m paid steps

-- what adds nothing
pub falls_same : (n : ℕ) (old m new : Mouth) → Adds 0 m new → Falls n old m → Falls n old new
falls_same n old m new a (inl forth) = inl (omega (arith, a.spent, forth))
falls_same n old m new a (inr less) = inr (omega (arith, a.spent, less.0), omega (arith, a.weight, less.1))

-- two tokens are read again, one of which was kept
pub both_back : (e : Entry) (first t : Token) (old m : Mouth) → entry_weight e ≡ held_weight → Falls back_weight old m → Steps 1 old m → Falls 1 (entered e old) (put_back first (put_back t m))
both_back e first t old m is (inl forth) steps = let h = back_adds t m in let k = back_adds first (put_back t m) in inl (omega (arith, h.spent, k.spent, forth))
both_back e first t old m is (inr less) steps = let h = back_adds t m in let k = back_adds first (put_back t m) in inr (omega (arith, h.spent, k.spent, less.0), omega (arith, h.weight, k.weight, less.1, is))

pub both_steps : (e : Entry) (first t : Token) (old m : Mouth) → Steps 1 old m → Steps 2 (entered e old) (put_back first (put_back t m))
both_steps e first t old m steps = let h = back_adds t m in let k = back_adds first (put_back t m) in record { forth = omega (arith, h.spent, k.spent, steps.forth); few = omega (arith, h.spent, k.spent, steps.few) }

abbrev kept_entry : Token → Entry
kept_entry kept = entry.Kept kept keeper.ExpandAfter

pub expand_after_goes : (kept : Token) (m : Mouth) → Goes (entered (entry.Kept kept keeper.ExpandAfter) m) (expand_after_turn kept m)
unfolding expand_after_turn
expand_after_goes kept m = by (keeper_fetched keeper.ExpandAfter m).fetched (keeper_fetched keeper.ExpandAfter m).now (keeper_fetched_pays keeper.ExpandAfter m).paid (keeper_fetched_pays keeper.ExpandAfter m).steps
  where
    by : (x : Fetched) (n : Mouth) → PaidFor x m n → Steps 1 m n → Goes (entered (kept_entry kept) m) (kept_with kept x n)
    by (fetched.Token t mm) n paid steps =
        let s = both_steps (kept_entry kept) kept t m n steps in
        record { comes = both_back (kept_entry kept) kept t m n refl paid steps; forth = s.forth; few = s.few }
    by (fetched.Idle (idle.Expands t what)) n paid steps = expanded_goes what t (entered (kept_entry kept) m) (entered (entry.Due kept) n) (falls_above back_weight (kept_entry kept) (entry.Due kept) m n (omega arith) paid) (above_steps (kept_entry kept) (entry.Due kept) m n steps)
    by (fetched.Idle (idle.Over d)) n paid steps = over_goes (kept_entry kept) (turned_by d n) m n paid steps
    by (fetched.Idle (idle.Cut text)) n paid steps = cut_goes (kept_entry kept) (kept_entry kept) text m n steps

pub due_goes : (t : Token) (m : Mouth) → Goes (entered (entry.Due t) m) (due_turn t m)
due_goes t m = let h = back_adds t m in record { comes = inr (h.spent, omega (arith, h.weight)); forth = omega (arith, h.spent); few = omega (arith, h.spent) }

pub say_goes : (text : List ℕ) (m : Mouth) → Goes (entered (entry.Say text) m) (say_turn text m)
say_goes text m = record { comes = inr (refl, omega arith); forth = omega arith; few = omega arith }

-- ---- the same, of what is equal

pub goes_to : (old now : Mouth) (t : Turned) (a : After) → now ≡ a.now → t ≡ a.turned → Goes old a → Goes old (after now t)
goes_to old now t a is same goes = subst (λ (m : Mouth). Goes old (after m t)) (sym is) (subst (λ (u : Turned). Goes old (after a.now u)) (sym same) goes)
