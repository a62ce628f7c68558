-- One step of the chain, as the mouth and the journal make it.
use Rattle.std.proofs.Common.{◌≡◌, ℕ, zero, suc, ◌<◌, ◌≤◌, true, false, cond, List, [], ◌∷◌, ◌++◌, Option, Some, None, refl, sym, ◌∙◌, ap, subst, append_assoc}
use Rattle.std.proofs.lemmas.List.{append-nil}
use Rattle.etx_outside.specs.Entries.{Files, Asked, History, files_after}
use Rattle.etx_outside.specs.Outside.{Outside, after, Front}
use Rattle.etx_outside.specs.Loading.{load_of}
use Rattle.etx_outside.specs.declared.tree.Loaded.{Loaded}
use Rattle.etx_outside.proofs.Outsides.{after-append, front_behind, front_none}
use Rattle.etx_settle.specs.Deeds.{JournalState, entries, pen_after_all}
use Rattle.etx_settle.proofs.Deeds.{entries-append, pen_after_all-append}
use Rattle.etx_matter.specs.declared.deed.Deed.{Deed}
use Rattle.etx_matter.specs.declared.end.End.{End}
use Rattle.etx_matter.specs.declared.end.End.TheVariants.{Spent}
use Rattle.etx_mouth.specs.Mouths.{MouthState}
use Rattle.etx_mouth.specs.declared.yields.Yield.{Yield}
use Rattle.etx_mouth.specs.declared.yields.Yield.TheVariants.{Quiet, Act, Load, Done}
use Rattle.etx_mouth.specs.Turn.{turn_of, resumed, line_number_of}
use Rattle.etx_mouth.specs.Runs.{RunsIn, Runs}
use Rattle.etx_job.specs.Chain.{Start, World, with_deeds, closing, ended, handled, step_open, step, chain}
use Rattle.etx_job.specs.Going.{more_waiting, world_of, IsFor, Going, Over, AfterTurn, Asks, Acts, Cut}
use Rattle.etx_job.specs.Meaning.{AtAsk}
use Rattle.etx_mouth.proofs.Comparing.{lt_true, lt_false}

abbrev pub flushed : JournalState → JournalState
flushed journal = record { pen = pen_after_all journal.pen journal.waiting; waiting = [] }

-- deeds that wait are deeds of the world
pub waiting_more : (mouth : MouthState) (errors : ℕ) (journal : JournalState) (done : History) (end : Option End) (ds : List Deed)
    → record (with_deeds ds (world_of mouth errors journal done None)) { end = end } ≡ world_of mouth errors (more_waiting journal ds) done end
waiting_more mouth errors journal done end ds =
    let pen = sym (pen_after_all-append journal.pen journal.waiting ds) in
    let trace = append_assoc done (entries journal.pen journal.waiting) (entries (pen_after_all journal.pen journal.waiting) ds) ∙ ap (λ (h : History). done ++ h) (sym (entries-append journal.pen journal.waiting ds)) in
    λ i. record { mouth = mouth; errors = errors; pen = pen i; trace = trace i; end = end }

module _ {start : Start} {first now : Outside} {mouth : MouthState} {errors : ℕ} {journal : JournalState} (g : Going start first mouth errors journal now) where
  abbrev here : World
  here = world_of mouth errors journal g.done None

  abbrev there : World
  there = world_of (turn_of mouth).now errors journal g.done None

  next_world : chain start (suc g.turns) ≡ step_open start here
  unfolding chain step
  next_world = ap (step start) g.at

  within : (turn_of mouth).now.machine.spent ≤ start.job.budget → chain start (suc g.turns) ≡ handled start there (turn_of mouth).did
  within le = next_world ∙ ap (λ b. cond b (ended Spent here) (handled start there (turn_of mouth).did)) (lt_false start.job.budget (turn_of mouth).now.machine.spent le)

  beyond : start.job.budget < (turn_of mouth).now.machine.spent → chain start (suc g.turns) ≡ ended Spent here
  beyond lt = next_world ∙ ap (λ b. cond b (ended Spent here) (handled start there (turn_of mouth).did)) (lt_true start.job.budget (turn_of mouth).now.machine.spent lt)

  yields : (y : Yield) → (turn_of mouth).now.machine.spent ≤ start.job.budget → (turn_of mouth).did ≡ y → chain start (suc g.turns) ≡ handled start there y
  yields y le is = within le ∙ ap (handled start there) is

  pub turn_quiet : (turn_of mouth).now.machine.spent ≤ start.job.budget → (turn_of mouth).did ≡ Quiet → Going start first (turn_of mouth).now errors journal now
  turn_quiet lt is = record { turns = suc g.turns; done = g.done; at = yields Quiet lt is; now_is = g.now_is }

  pub turn_act : (d : Deed) → (turn_of mouth).now.machine.spent ≤ start.job.budget → (turn_of mouth).did ≡ Act d → Acts start first (turn_of mouth).now errors journal d now
  turn_act d lt is = record { turns = g.turns; done = g.done; next = yields (Act d) lt is; now_is = g.now_is }

  pub turn_done : (e : End) → (turn_of mouth).now.machine.spent ≤ start.job.budget → (turn_of mouth).did ≡ Done e → Over start first (more_waiting journal (closing e (line_number_of (turn_of mouth).now))) e now
  turn_done e lt is = record {
    turns = suc g.turns;
    mouth = (turn_of mouth).now;
    errors = errors;
    done = g.done;
    at = yields (Done e) lt is ∙ waiting_more (turn_of mouth).now errors journal g.done (Some e) (closing e (line_number_of (turn_of mouth).now));
    now_is = g.now_is;
  }

  pub turn_spent : start.job.budget < (turn_of mouth).now.machine.spent → Over start first (more_waiting journal (closing Spent 0)) Spent now
  turn_spent le = record {
    turns = suc g.turns;
    mouth = mouth;
    errors = errors;
    done = g.done;
    at = beyond le ∙ waiting_more mouth errors journal g.done (Some Spent) (closing Spent 0);
    now_is = g.now_is;
  }

  pub turn_asks : (name : List ℕ) → (turn_of mouth).now.machine.spent ≤ start.job.budget → (turn_of mouth).did ≡ Load name → Asks start first (turn_of mouth).now errors journal name now
  turn_asks name lt is = record {
    turns = g.turns;
    done = g.done;
    next = yields (Load name) lt is;
    now_is = g.now_is;
    at = ap (λ (w : World). w.trace) g.at;
  }

-- what waits was written, and belongs to what came before
pub world_flushed : (mouth : MouthState) (errors : ℕ) (journal : JournalState) (done : History) (end : Option End)
    → world_of mouth errors journal done end ≡ world_of mouth errors (flushed journal) (done ++ entries journal.pen journal.waiting) end
world_flushed mouth errors journal done end = λ i. record {
  mouth = mouth;
  errors = errors;
  pen = pen_after_all journal.pen journal.waiting;
  trace = sym (append-nil (done ++ entries journal.pen journal.waiting)) i;
  end = end;
}

pub now_flushed : (first : Outside) {now new : Outside} (journal : JournalState) (done : History) → now ≡ after done first → new ≡ after (entries journal.pen journal.waiting) now → new ≡ after (done ++ entries journal.pen journal.waiting) first
now_flushed first journal done now_is wrote = wrote ∙ ap (after (entries journal.pen journal.waiting)) now_is ∙ sym (after-append done (entries journal.pen journal.waiting) first)

pub going_flushed : {start : Start} {first now new : Outside} {mouth : MouthState} {errors : ℕ} {journal : JournalState} → Going start first mouth errors journal now → new ≡ after (entries journal.pen journal.waiting) now → Going start first mouth errors (flushed journal) new
going_flushed {start} {first} {now} {new} {mouth} {errors} {journal} g wrote = record {
  turns = g.turns;
  done = g.done ++ entries journal.pen journal.waiting;
  at = g.at ∙ world_flushed mouth errors journal g.done None;
  now_is = now_flushed first journal g.done g.now_is wrote;
}

-- the same, of a mouth, a count and a journal that are equal
pub going_is : {start : Start} {first now : Outside} {mouth mouth' : MouthState} {errors : ℕ} {journal journal' : JournalState} → Going start first mouth errors journal now → mouth' ≡ mouth → journal' ≡ journal → Going start first mouth' errors journal' now
going_is {errors = errors} g same_mouth same_journal = record {
  turns = g.turns;
  done = g.done;
  at = g.at ∙ (λ i. world_of (sym same_mouth i) errors (sym same_journal i) g.done None);
  now_is = g.now_is;
}

-- quiet turns change nothing but the mouth
pub going_runs : {start : Start} {first now : Outside} {old new : MouthState} {errors : ℕ} {journal : JournalState} → Going start first old errors journal now → (budget : ℕ) → start.job.budget ≡ budget → Runs budget old new → Going start first new errors journal now
going_runs {start} {first} {now} {old} {new} {errors} {journal} g budget same r = go r.turns new (subst (λ (b : ℕ). RunsIn b r.turns old new) (sym same) r.run)
  where
    go : (n : ℕ) (v : MouthState) → RunsIn start.job.budget n old v → Going start first v errors journal now
    go zero v is = going_is g is refl
    go (suc n) v run = going_is (turn_quiet (go n run.0 run.1.0) run.1.1.within run.1.1.did) run.1.1.now refl

pub over_is : {start : Start} {first now : Outside} {journal journal' : JournalState} {e : End} → Over start first journal e now → journal' ≡ journal → Over start first journal' e now
over_is {e = e} o same = record {
  turns = o.turns;
  mouth = o.mouth;
  errors = o.errors;
  done = o.done;
  at = o.at ∙ (λ i. world_of o.mouth o.errors (sym same i) o.done (Some e));
  now_is = o.now_is;
}

pub asks_is : {start : Start} {first now : Outside} {mouth mouth' : MouthState} {errors : ℕ} {journal : JournalState} {name name' : List ℕ} → Asks start first mouth errors journal name now → mouth' ≡ mouth → name' ≡ name → Asks start first mouth' errors journal name' now
asks_is {start = start} {errors = errors} {journal = journal} a same_mouth same_name = record {
  turns = a.turns;
  done = a.done;
  next = a.next ∙ (λ i. handled start (world_of (sym same_mouth i) errors journal a.done None) (Load (sym same_name i)));
  now_is = a.now_is;
  at = a.at;
}

pub acts_is : {start : Start} {first now : Outside} {mouth mouth' : MouthState} {errors : ℕ} {journal : JournalState} {d : Deed} → Acts start first mouth errors journal d now → mouth' ≡ mouth → Acts start first mouth' errors journal d now
acts_is {start = start} {errors = errors} {journal = journal} {d = d} a same_mouth = record {
  turns = a.turns;
  done = a.done;
  next = a.next ∙ (λ i. handled start (world_of (sym same_mouth i) errors journal a.done None) (Act d));
  now_is = a.now_is;
}

-- a front of what waits was written
pub cut_going : {start : Start} {first now new : Outside} {mouth : MouthState} {errors : ℕ} {journal : JournalState} → Going start first mouth errors journal now → Front (entries journal.pen journal.waiting) now new → Cut start first new
cut_going {start} {first} {now} {new} g f = record {
  turns = g.turns;
  front = subst (λ (w : World). Front w.trace first new) (sym g.at) (front_behind g.done g.now_is f);
}

pub cut_over : {start : Start} {first now new : Outside} {journal : JournalState} {e : End} → Over start first journal e now → Front (entries journal.pen journal.waiting) now new → Cut start first new
cut_over {start} {first} {now} {new} o f = record {
  turns = o.turns;
  front = subst (λ (w : World). Front w.trace first new) (sym o.at) (front_behind o.done o.now_is f);
}

-- what stands after a turn, where it is known whether the turn ended the job
pub over_of : (start : Start) (first : Outside) (mouth : MouthState) (errors : ℕ) (journal : JournalState) (now : Outside) {o : Option End} {e : End} → o ≡ Some e → AfterTurn o start first mouth errors journal now → Over start first journal e now
over_of start first mouth errors journal now is after = subst (λ (o : Option End). AfterTurn o start first mouth errors journal now) is after

pub going_of : (start : Start) (first : Outside) (mouth : MouthState) (errors : ℕ) (journal : JournalState) (now : Outside) {o : Option End} → o ≡ None → AfterTurn o start first mouth errors journal now → Going start first mouth errors journal now
going_of start first mouth errors journal now is after = subst (λ (o : Option End). AfterTurn o start first mouth errors journal now) is after

-- nothing more was written
pub cut_here : {start : Start} {first now : Outside} {mouth : MouthState} {errors : ℕ} {journal : JournalState} → Going start first mouth errors journal now → Cut start first now
cut_here g = cut_going g (front_none _ refl)

module _ {start : Start} {first now : Outside} {mouth : MouthState} {errors : ℕ} {journal : JournalState} {name : List ℕ} (a : Asks start first mouth errors journal name now) where
  pub cut_flush : {new : Outside} → Front (entries journal.pen journal.waiting) now new → Cut start first new
  cut_flush {new} f = record { turns = a.turns; front = subst (λ (h : History). Front h first new) (sym a.at) (front_behind a.done a.now_is f) }

  module _ {flushed_now : Outside} (wrote : flushed_now ≡ after (entries journal.pen journal.waiting) now) where
    all : flushed_now ≡ after (a.done ++ entries journal.pen journal.waiting) first
    all = now_flushed first journal a.done a.now_is wrote

    asked_all : {asked_now : Outside} → asked_now ≡ after (Asked name ∷ []) flushed_now → asked_now ≡ after (a.done ++ entries journal.pen journal.waiting ++ Asked name ∷ []) first
    asked_all asked = asked ∙ ap (after (Asked name ∷ [])) all ∙ sym (after-append (a.done ++ entries journal.pen journal.waiting) (Asked name ∷ []) first)

    pub read_at : {asked_now : Outside} → asked_now ≡ after (Asked name ∷ []) flushed_now → AtAsk start first asked_now
    read_at asked = record {
      turns = a.turns;
      name = name;
      asks = ap (λ (w : World). w.trace) a.next ∙ ap (λ (h : History). h ++ Asked name ∷ []) (sym a.at);
      now_is = asked_all asked ∙ ap (λ (h : History). after (h ++ Asked name ∷ []) first) (sym a.at);
    }

    pub cut_load : {asked_now : Outside} → Front (Asked name ∷ []) flushed_now asked_now → Cut start first asked_now
    cut_load {asked_now} f = record { turns = suc a.turns; front = subst (λ (w : World). Front w.trace first asked_now) (sym a.next) (front_behind (a.done ++ entries journal.pen journal.waiting) all f) }

    pub answered : {asked_now : Outside} (loaded : Loaded) → IsFor start first → asked_now ≡ after (Asked name ∷ []) flushed_now → loaded ≡ load_of (flushed_now.files name) → Going start first (resumed name mouth loaded) errors (flushed journal) asked_now
    unfolding after
    answered {asked_now} loaded files asked answer =
        let whole = a.done ++ entries journal.pen journal.waiting in
        let there : load_of (files_after whole start.files name) ≡ loaded = ap (λ (fs : Files). load_of (files_after whole fs name)) files ∙ sym (answer ∙ ap (λ (o : Outside). load_of (o.files name)) all) in
        record {
          turns = suc a.turns;
          done = whole ++ Asked name ∷ [];
          at = a.next ∙ (λ i. record {
            mouth = resumed name mouth (there i);
            errors = errors;
            pen = pen_after_all journal.pen journal.waiting;
            trace = sym (append-nil (whole ++ Asked name ∷ [])) i;
            end = None;
          });
          now_is = asked_all asked;
        }
