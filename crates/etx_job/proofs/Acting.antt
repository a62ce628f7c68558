-- A deed is done, and counted if it is an error.
use Rattle.std.proofs.Common.{◌≡◌, ℕ, suc, ◌+◌, ◌<◌, ◌≤◌, Bool, true, false, cond, nat_lt, [], ◌∷◌, ◌++◌, Some, None, refl, sym, ◌∙◌, ap, subst}
use Rattle.std.proofs.lemmas.List.{append-nil}
use Rattle.etx_outside.specs.Entries.{History}
use Rattle.etx_outside.specs.Outside.{Outside, after, Front}
use Rattle.etx_outside.proofs.Outsides.{front_behind, front_longer}
use Rattle.etx_settle.specs.Deeds.{JournalState, entries}
use Rattle.etx_matter.specs.declared.deed.Deed.{Deed}
use Rattle.etx_matter.specs.declared.end.End.TheVariants.{Hundred}
use Rattle.etx_mouth.specs.Mouths.{MouthState}
use Rattle.etx_mouth.specs.Turn.{line_number_of}
use Rattle.etx_mouth.specs.Errors.{is_error}
use Rattle.etx_job.specs.Errors.{most_errors}
use Rattle.etx_job.specs.Chain.{Start, World, closing, ended, with_error, unless_last, counted, chain}
use Rattle.etx_job.specs.Going.{more_waiting, world_of, Going, Over, Acts, Cut}
use Rattle.etx_mouth.proofs.Comparing.{lt_true, lt_false}
use Rattle.etx_job.proofs.Turns.{flushed, waiting_more, world_flushed, now_flushed}

-- how a world's trace goes on
pub record Grows (old new : World) : Type 0 where
  pub more : History
  pub is : new.trace ≡ old.trace ++ more

pub grows_not : (w : World) → Grows w w
grows_not w = record { more = []; is = sym (append-nil w.trace) }

pub counted_grows : (b : Bool) (w : World) → Grows w (counted b w)
counted_grows false w = grows_not w
counted_grows true w = by (nat_lt (w.errors + 1) most_errors)
  where
    by : (b : Bool) → Grows w (cond b (with_error w) (ended Hundred (with_error w)))
    by true = record { more = []; is = sym (append-nil w.trace) }
    by false = record { more = entries w.pen (closing Hundred (line_number_of w.mouth)); is = refl }

module _ {start : Start} {first now : Outside} {mouth : MouthState} {errors : ℕ} {journal : JournalState} {deed : Deed} (a : Acts start first mouth errors journal deed now) {waits : JournalState} (same : waits ≡ more_waiting journal (deed ∷ [])) where
  -- the deed waits
  abbrev here : World
  here = world_of mouth errors waits a.done None

  -- and is counted as an error
  abbrev there : World
  there = world_of mouth (errors + 1) waits a.done None

  acted : chain start (suc a.turns) ≡ counted (is_error deed) here
  acted = a.next ∙ ap (counted (is_error deed)) (waiting_more mouth errors journal a.done None (deed ∷ []) ∙ ap (λ (j : JournalState). world_of mouth errors j a.done None) (sym same))

  acted_error : is_error deed ≡ true → chain start (suc a.turns) ≡ unless_last there
  acted_error is = acted ∙ ap (λ b. counted b here) is

  pub cut_act : {new : Outside} → Front (entries waits.pen waits.waiting) now new → Cut start first new
  cut_act {new} f =
      let grows = counted_grows (is_error deed) here in
      let whole : Front (counted (is_error deed) here).trace first new =
      subst (λ (h : History). Front h first new) (sym grows.is) (front_longer grows.more (front_behind a.done a.now_is f)) in
      record { turns = suc a.turns; front = subst (λ (w : World). Front w.trace first new) (sym acted) whole }

  pub act_other : is_error deed ≡ false → Going start first mouth errors waits now
  act_other is = record { turns = suc a.turns; done = a.done; at = acted ∙ ap (λ b. counted b here) is; now_is = a.now_is }

  pub act_error : is_error deed ≡ true → errors + 1 < 100 → Going start first mouth (errors + 1) waits now
  act_error is lt = record {
    turns = suc a.turns;
    done = a.done;
    at = acted_error is ∙ ap (λ b. cond b there (ended Hundred there)) (lt_true (errors + 1) 100 lt);
    now_is = a.now_is;
  }

  -- the last error was written, and what its end adds waits
  pub act_last : {new : Outside} {closes : JournalState} → is_error deed ≡ true → 100 ≤ errors + 1 → new ≡ after (entries waits.pen waits.waiting) now → closes ≡ more_waiting (flushed waits) (closing Hundred 0) → Over start first closes Hundred new
  act_last {new} {closes} is ge wrote closed = record {
    turns = suc a.turns;
    mouth = mouth;
    errors = errors + 1;
    done = a.done ++ entries waits.pen waits.waiting;
    at = acted_error is
        ∙ ap (λ b. cond b there (ended Hundred there)) (lt_false (errors + 1) 100 ge)
        ∙ ap (ended Hundred) (world_flushed mouth (errors + 1) waits a.done None)
        ∙ waiting_more mouth (errors + 1) (flushed waits) (a.done ++ entries waits.pen waits.waiting) (Some Hundred) (closing Hundred 0)
        ∙ ap (λ (j : JournalState). world_of mouth (errors + 1) j (a.done ++ entries waits.pen waits.waiting) (Some Hundred)) (sym closed);
    now_is = now_flushed first waits a.done a.now_is wrote;
  }
