-- The chain's beginning and its end.
use Rattle.std.proofs.Common.{◌≡◌, ◌⊎◌, inl, inr, ℕ, zero, suc, ◌+◌, ◌<◌, ◌≤◌, Bool, true, false, cond, nat_lt, List, [], ◌∷◌, ◌++◌, Option, Some, None, IsSome, refl, sym, ◌∙◌, ap, subst, append_assoc, arith}
use Rattle.std.proofs.lemmas.Bool.{cases_eq, cases_lt}
use Rattle.etx_outside.specs.Entries.{Asked, History, files_after}
use Rattle.etx_outside.specs.Loading.{load_of}
use Rattle.etx_outside.specs.Outside.{Outside, after, Front}
use Rattle.etx_outside.proofs.Outsides.{after-nil, after-append, front_none, front_longer}
use Rattle.etx_settle.specs.Deeds.{JournalState, first_pen, entries, pen_after_all}
use Rattle.etx_matter.specs.declared.deed.Deed.TheVariants.{Create}
use Rattle.etx_matter.specs.declared.deed.Deed.{Deed}
use Rattle.etx_matter.specs.declared.end.End.{End}
use Rattle.etx_matter.specs.declared.end.End.TheVariants.{Hundred, Spent}
use Rattle.etx_matter.specs.Jobs.{JobState}
use Rattle.etx_mouth.specs.Mouths.{MouthState}
use Rattle.etx_mouth.specs.declared.yields.Yield.{Yield}
use Rattle.etx_mouth.specs.declared.yields.Yield.TheVariants.{Quiet, Act, Load, Done}
use Rattle.etx_mouth.specs.Turn.{turned, turn_of, resumed, first_mouth, line_number_of}
use Rattle.etx_mouth.specs.Errors.{is_error}
use Rattle.etx_mouth.specs.Measure.{weight, Goes, GoesOn}
use Rattle.etx_job.specs.Words.{log_name}
use Rattle.etx_job.specs.Chain.{Start, World, with_deeds, closing, ended, with_error, counted, handled, step_open, step_from, step, turned_on, opening, chain, IsMean}
use Rattle.etx_job.specs.Going.{world_of, Going, Over, Cut, Settled}
use Rattle.etx_mouth.proofs.Falling.{turn_goes, resumed_adds}
use Rattle.etx_job.proofs.Acting.{Grows, grows_not, counted_grows}
use Rattle.etx_job.proofs.Coming.{quiet_on, act_on, load_on}
use Rattle.etx_mouth.proofs.Comparing.{lt_true, lt_false}

pub cut_nothing : (start : Start) (first : Outside) → Cut start first first
cut_nothing start first = record { turns = 0; front = front_none _ refl }

pub going_starts : (start : Start) (first : Outside) {mouth : MouthState} {journal : JournalState}
    → mouth ≡ first_mouth start.job.name
    → journal ≡ record { pen = first_pen; waiting = Create (log_name start.job.name) ∷ [] }
    → Going start first mouth 0 journal first
unfolding chain opening
going_starts start first same_mouth same_journal = record {
  turns = 0;
  done = [];
  at = λ i. world_of (sym same_mouth i) 0 (sym same_journal i) [] None;
  now_is = sym (after-nil first);
}

-- the same, as the driver's calls say it
pub starts_as : {start : Start} {first : Outside} {mouth : MouthState} {journal empty : JournalState} {job : JobState} {name log : List ℕ}
    → start.job ≡ job
    → mouth ≡ first_mouth job.name
    → journal ≡ record empty { waiting = empty.waiting ++ Create log ∷ [] }
    → empty ≡ record { pen = first_pen; waiting = [] }
    → log ≡ log_name name
    → name ≡ job.name
    → Going start first mouth 0 journal first
starts_as {start} {first} {mouth} {journal} {empty} {job} {name} {log} is same_mouth pushed is_empty is_log is_name =
    let waits : journal ≡ record { pen = first_pen; waiting = Create (log_name job.name) ∷ [] } =
    pushed
    ∙ ap (λ (j : JournalState). record j { waiting = j.waiting ++ Create log ∷ [] }) is_empty
    ∙ ap (λ (l : List ℕ). record { pen = first_pen; waiting = Create l ∷ [] }) (is_log ∙ ap log_name is_name) in
    going_starts
    start
    first
    (same_mouth ∙ ap (λ (j : JobState). first_mouth j.name) (sym is))
    (waits ∙ ap (λ (j : JobState). record { pen = first_pen; waiting = Create (log_name j.name) ∷ [] }) (sym is))

-- a job begins with no step
pub first_spent : (name : List ℕ) → (first_mouth name).machine.spent ≡ 0
unfolding first_mouth
first_spent name = refl

pub settled : {start : Start} {first now new : Outside} {journal : JournalState} {e : End} {erred : Bool} → Over start first journal e now → new ≡ after (entries journal.pen journal.waiting) now → erred ≡ (pen_after_all journal.pen journal.waiting).has_erred → Settled start e erred first new
settled {start} {first} {now} {new} {journal} {e} {erred} o wrote is = record {
  world = chain start o.turns;
  mean = record { turns = o.turns; reached = refl; has_ended = subst (λ (w : World). IsSome w.end) (sym o.at) refl };
  end_is = ap (λ (w : World). w.end) o.at;
  erred_is = ap (λ (w : World). w.pen.has_erred) o.at ∙ sym is;
  now_is =
      wrote
      ∙ ap (after (entries journal.pen journal.waiting)) o.now_is
      ∙ sym (after-append o.done (entries journal.pen journal.waiting) first)
      ∙ ap (λ (w : World). after w.trace first) (sym o.at);
}

module _ (start : Start) where
  handled_grows : (w : World) (y : Yield) → Grows w (handled start w y)
  handled_grows w Quiet = grows_not w
  handled_grows w (Act d) =
      let grows = counted_grows (is_error d) (with_deeds (d ∷ []) w) in
      record { more = entries w.pen (d ∷ []) ++ grows.more; is = grows.is ∙ append_assoc w.trace (entries w.pen (d ∷ [])) grows.more }
  handled_grows w (Load name) = record { more = Asked name ∷ []; is = refl }
  handled_grows w (Done e) = record { more = entries w.pen (closing e (line_number_of w.mouth)); is = refl }

  step_grows : (w : World) → Grows w (step start w)
  unfolding step
  step_grows w = go w.end
    where
      open_grows : Grows w (step_open start w)
      open_grows = by (nat_lt start.job.budget (turn_of w.mouth).now.machine.spent)
        where
          by : (b : Bool) → Grows w (cond b (ended Spent w) (handled start (turned_on w) (turn_of w.mouth).did))
          by true = record { more = entries w.pen (closing Spent (line_number_of w.mouth)); is = refl }
          by false = let h = handled_grows (turned_on w) (turn_of w.mouth).did in record { more = h.more; is = h.is }

      go : (o : Option End) → Grows w (step_from start w o)
      go None = open_grows
      go (Some e) = grows_not w

  chain_grows : (n m : ℕ) → m ≤ n → Grows (chain start m) (chain start n)
  unfolding chain
  chain_grows zero m le = let same : m ≡ zero = omega arith in subst (λ k. Grows (chain start k) (chain start zero)) (sym same) (grows_not _)
  chain_grows (suc n) m le = elim (cases_eq m (suc n)) [
    | inl same ↦ subst (λ k. Grows (chain start k) (chain start (suc n))) (sym same) (grows_not _)
    | inr other ↦
        let so_far = chain_grows n m (omega arith) in
        let last = step_grows (chain start n) in
        record {
          more = so_far.more ++ last.more;
          is = last.is ∙ ap (λ (h : History). h ++ last.more) so_far.is ∙ append_assoc (chain start m).trace so_far.more last.more;
        }
  ]

  pub step_stays : (w : World) → IsSome w.end → step start w ≡ w
  unfolding step
  step_stays w has = go w.end has
    where
      go : (o : Option End) → IsSome o → step_from start w o ≡ w
      go None none = cc
      go (Some e) has = refl

  chain_stays : (n m : ℕ) → m ≤ n → IsSome (chain start m).end → chain start n ≡ chain start m
  unfolding chain
  chain_stays zero m le has = let same : zero ≡ m = omega arith in ap (chain start) same
  chain_stays (suc n) m le has = elim (cases_eq m (suc n)) [
    | inl same ↦ ap (chain start) (sym same)
    | inr other ↦
        let stays = chain_stays n m (omega arith) has in
        step_stays (chain start n) (subst (λ (w : World). IsSome w.end) (sym stays) has) ∙ stays
  ]

  -- what was cut off at any world of the chain is a front of the last one's trace
  pub cut_of_mean : {first now : Outside} → Cut start first now → (w : World) → IsMean start w → Front w.trace first now
  cut_of_mean {first} {now} cut w mean = subst (λ (v : World). Front v.trace first now) mean.reached (elim (cases_lt cut.turns mean.turns) [
    | inl lt ↦
        let grows = chain_grows mean.turns cut.turns (omega arith) in
        subst (λ (h : History). Front h first now) (sym grows.is) (front_longer grows.more cut.front)
    | inr ge ↦
        let stays = chain_stays cut.turns mean.turns (omega arith) (subst (λ (v : World). IsSome v.end) (sym mean.reached) mean.has_ended) in
        subst (λ (v : World). Front v.trace first now) stays cut.front
  ])

  -- there is only one last world
  pub one_mean : (v w : World) → IsMean start v → IsMean start w → v ≡ w
  one_mean v w a b = sym a.reached ∙ (elim (cases_lt a.turns b.turns) [
    | inl lt ↦ sym (chain_stays b.turns a.turns (omega arith) (subst (λ (u : World). IsSome u.end) (sym a.reached) a.has_ended))
    | inr ge ↦ chain_stays a.turns b.turns (omega arith) (subst (λ (u : World). IsSome u.end) (sym b.reached) b.has_ended)
  ]) ∙ b.reached

  -- ---- each chain ends

  -- the budget isn't passed, and errors are few
  abbrev Within : World → Type 0
  Within w = (w.mouth.machine.spent ≤ start.job.budget) × (w.errors < 100)

  -- a step ends the job, or goes on from a mouth and a count of errors
  abbrev Going_on : MouthState → ℕ → World → Type 0
  Going_on old e w = IsSome w.end ⊎ (Within w × GoesOn old e w.mouth w.errors)

  -- a deed that is an error is counted
  counted_goes : (old : MouthState) (w : World) (d : Deed) (b : Bool) → is_error d ≡ b → Within w → Goes old (turned w.mouth (Act d)) → Going_on old w.errors (counted b w)
  counted_goes old w d false is within goes = inr (within, act_on old w.mouth w.errors w.errors d (λ was. let no : true ≡ false = sym was ∙ is in cc) (λ was. refl) goes)
  counted_goes old w d true is within goes = elim (cases_lt (w.errors + 1) 100) [
    | inl lt ↦
        subst
        (λ b. Going_on old w.errors (cond b (with_error w) (ended Hundred (with_error w))))
        (sym (lt_true (w.errors + 1) 100 lt))
        (inr ((within.0, lt), act_on old w.mouth w.errors (w.errors + 1) d (λ was. omega arith) (λ was. let no : true ≡ false = sym is ∙ was in cc) goes))
    | inr ge ↦ subst (λ b. Going_on old w.errors (cond b (with_error w) (ended Hundred (with_error w)))) (sym (lt_false (w.errors + 1) 100 ge)) (inl refl)
  ]

  handled_goes : (old : MouthState) (w : World) (y : Yield) → Within w → Goes old (turned w.mouth y) → Going_on old w.errors (handled start w y)
  handled_goes old w Quiet within goes = inr (within, quiet_on old w.mouth w.errors goes)
  handled_goes old w (Act d) within goes = counted_goes old (with_deeds (d ∷ []) w) d (is_error d) refl within goes
  handled_goes old w (Load name) within goes =
      let loaded = load_of (files_after w.trace start.files name) in
      let same = resumed_adds name w.mouth loaded in
      inr ((omega (arith, same.spent, within.0), within.1), load_on old w.mouth (resumed name w.mouth loaded) w.errors name same goes)
  handled_goes old w (Done e) within goes = inl refl

  step_goes : (w : World) → w.end ≡ None → w.errors < 100 → Going_on w.mouth w.errors (step start w)
  unfolding step
  step_goes w none few = subst (λ (o : Option End). Going_on w.mouth w.errors (step_from start w o)) (sym none) (elim (cases_lt start.job.budget (turn_of w.mouth).now.machine.spent) [
    | inl lt ↦
        subst
        (λ b. Going_on w.mouth w.errors (cond b (ended Spent w) (handled start (turned_on w) (turn_of w.mouth).did)))
        (sym (lt_true start.job.budget (turn_of w.mouth).now.machine.spent lt))
        (inl refl)
    | inr ge ↦
        subst
        (λ b. Going_on w.mouth w.errors (cond b (ended Spent w) (handled start (turned_on w) (turn_of w.mouth).did)))
        (sym (lt_false start.job.budget (turn_of w.mouth).now.machine.spent ge))
        (handled_goes w.mouth (turned_on w) (turn_of w.mouth).did (ge, few) (turn_goes w.mouth))
  ])

  cases_end : (o : Option End) → (o ≡ None) ⊎ IsSome o
  cases_end None = inl refl
  cases_end (Some e) = inr refl

  abbrev Last : Type 0
  Last = (m : ℕ) × IsSome (chain start m).end

  -- the next world is the last, or goes on
  next_goes : (n : ℕ) → Within (chain start n) → Last ⊎ (Within (chain start (suc n)) × GoesOn (chain start n).mouth (chain start n).errors (chain start (suc n)).mouth (chain start (suc n)).errors)
  unfolding chain
  next_goes n within = elim (cases_end (chain start n).end) [
    | inl none ↦ elim (step_goes (chain start n) none within.1) [ inl has ↦ inl (suc n, has) | inr on ↦ inr on ]
    | inr has ↦ inl (n, has)
  ]

  -- turns that take no step and report no error come to one that does, or to an end
  free_ends : (s e : ℕ) → ((m : ℕ) → s < (chain start m).mouth.machine.spent → Within (chain start m) → Last) → ((m : ℕ) → (chain start m).mouth.machine.spent ≡ s → e < (chain start m).errors → Within (chain start m) → Last) → (i n : ℕ) → (chain start n).mouth.machine.spent ≡ s → (chain start n).errors ≡ e → weight (chain start n).mouth ≤ i → Within (chain start n) → Last
  free_ends s e stepped erred zero n same few light within = elim (next_goes n within) [
    | inl last ↦ last
    | inr on ↦ elim on.1 [
      | inl more ↦ stepped (suc n) (omega (arith, same, more)) on.0
      | inr free ↦ elim free [
        | inl err ↦ erred (suc n) (omega (arith, same, err.0)) (omega (arith, few, err.1)) on.0
        | inr less ↦ absurd (omega (arith, less.2, light))
      ]
    ]
  ]
  free_ends s e stepped erred (suc i) n same few light within = elim (next_goes n within) [
    | inl last ↦ last
    | inr on ↦ elim on.1 [
      | inl more ↦ stepped (suc n) (omega (arith, same, more)) on.0
      | inr free ↦ elim free [
        | inl err ↦ erred (suc n) (omega (arith, same, err.0)) (omega (arith, few, err.1)) on.0
        | inr less ↦ free_ends s e stepped erred i (suc n) (omega (arith, same, less.0)) (omega (arith, few, less.1)) (omega (arith, less.2, light)) on.0
      ]
    ]
  ]

  -- turns that take no step come to one that does, or to an end: errors are few
  errors_end : (s : ℕ) → ((m : ℕ) → s < (chain start m).mouth.machine.spent → Within (chain start m) → Last) → (k n : ℕ) → (chain start n).mouth.machine.spent ≡ s → 100 ≤ (chain start n).errors + k → Within (chain start n) → Last
  errors_end s stepped zero n same near within = absurd (omega (arith, near, within.1))
  errors_end s stepped (suc k) n same near within =
      free_ends
      s
      (chain start n).errors
      stepped
      (λ m still more fine. errors_end s stepped k m still (omega (arith, near, more)) fine)
      (weight (chain start n).mouth)
      n
      same
      refl
      (omega arith)
      within

  ends_from : (k n : ℕ) → start.job.budget ≤ (chain start n).mouth.machine.spent + k → Within (chain start n) → Last
  ends_from zero n near within = errors_end (chain start n).mouth.machine.spent (λ m more fine. absurd (omega (arith, near, more, fine.0))) 100 n refl (omega arith) within
  ends_from (suc k) n near within = errors_end (chain start n).mouth.machine.spent (λ m more fine. ends_from k m (omega (arith, near, more)) fine) 100 n refl (omega arith) within

  first_within : Within (chain start 0)
  unfolding chain opening first_mouth
  first_within = (omega arith, omega arith)

  -- the chain has a last world
  pub mean_of : (w : World) × IsMean start w
  mean_of = let end = ends_from start.job.budget 0 (omega arith) first_within in (chain start end.0, record { turns = end.0; reached = refl; has_ended = end.1 })
