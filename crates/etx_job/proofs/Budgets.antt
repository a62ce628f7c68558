-- More budget changes nothing, unless the budget was spent.
use Rattle.std.proofs.Common.{◌≡◌, ◌⊎◌, inl, inr, ℕ, zero, suc, ◌≤◌, cond, Option, None, Some, IsSome, refl, sym, ◌∙◌, ap, subst, arith}
use Rattle.std.proofs.lemmas.Bool.{cases_lt}
use Rattle.etx_outside.specs.Entries.{Files}
use Rattle.etx_matter.specs.Jobs.{JobState}
use Rattle.etx_matter.specs.declared.end.End.{End}
use Rattle.etx_matter.specs.declared.end.End.TheVariants as end
use Rattle.etx_matter.specs.declared.end.Status.TheVariants.{Spent}
use Rattle.etx_mouth.specs.declared.yields.Yield.{Yield}
use Rattle.etx_mouth.specs.declared.yields.Yield.TheVariants.{Quiet, Act, Load, Done}
use Rattle.etx_mouth.specs.Turn.{turn_of}
use Rattle.etx_job.specs.Chain.{Start, World, ended, handled, turned_on, step_open, step_from, step, opening, chain}
use Rattle.etx_job.specs.Meaning.{Meaning, start_of, status_of, IsMeaningOfJob}
use Rattle.etx_job.proofs.Ends.{step_stays}
use Rattle.etx_mouth.proofs.Comparing.{lt_true, lt_false}

module _ (job : JobState) (budget : ℕ) (files : Files) (le : job.budget ≤ budget) where
  abbrev less : Start
  less = start_of job files

  abbrev more : Start
  more = start_of (record job { budget = budget }) files

  abbrev IsSpent : World → Type 0
  IsSpent w = w.end ≡ Some end.Spent

  same_opening : opening less ≡ opening more
  unfolding opening
  same_opening = refl

  same_handled : (w : World) (y : Yield) → handled less w y ≡ handled more w y
  same_handled w Quiet = refl
  same_handled w (Act d) = refl
  same_handled w (Load name) = refl
  same_handled w (Done e) = refl

  -- a turn passes the lesser budget, or neither
  open_same : (w : World) → (step_open less w ≡ step_open more w) ⊎ IsSpent (step_open less w)
  open_same w =
      let spent = (turn_of w.mouth).now.machine.spent in
      let there = turned_on w in
      let did = (turn_of w.mouth).did in
      elim (cases_lt job.budget spent) [
        | inl lt ↦ inr (subst (λ b. IsSpent (cond b (ended end.Spent w) (handled less there did))) (sym (lt_true job.budget spent lt)) refl)
        | inr ge ↦ inl (
            ap (λ b. cond b (ended end.Spent w) (handled less there did)) (lt_false job.budget spent ge)
            ∙ same_handled there did
            ∙ sym (ap (λ b. cond b (ended end.Spent w) (handled more there did)) (lt_false budget spent (omega (arith, ge, le))))
            )
      ]

  step_same : (w : World) → (step less w ≡ step more w) ⊎ IsSpent (step less w)
  unfolding step
  step_same w = by w.end
    where
      by : (o : Option End) → (step_from less w o ≡ step_from more w o) ⊎ IsSpent (step_from less w o)
      by None = open_same w
      by (Some e) = inl refl

  chain_same : (n : ℕ) → (chain less n ≡ chain more n) ⊎ IsSpent (chain less n)
  unfolding chain
  chain_same zero = inl same_opening
  chain_same (suc n) = elim (chain_same n) [
    | inl same ↦ elim (step_same (chain less n)) [ inl on ↦ inl (on ∙ ap (step more) same) | inr spent ↦ inr spent ]
    | inr spent ↦
        let stays = step_stays less (chain less n) (subst (λ (o : Option End). IsSome o) (sym spent) refl) in
        inr (subst (λ (w : World). IsSpent w) (sym stays) spent)
  ]

  spent_end : (w : World) (e : End) → w.end ≡ Some e → IsSpent w → e ≡ end.Spent
  spent_end w e is spent = let same : Some e ≡ Some end.Spent = sym is ∙ spent in cc

  pub more_same : (m : Meaning) → (m.status ≡ Spent → ⊥) → IsMeaningOfJob less m → IsMeaningOfJob more m
  more_same m not a = elim (chain_same a.mean.turns) [
    | inl same ↦ record {
      world = a.world;
      mean = record { turns = a.mean.turns; reached = sym same ∙ a.mean.reached; has_ended = a.mean.has_ended };
      end = a.end;
      ends = a.ends;
      is = a.is;
    }
    | inr spent ↦
        let over = spent_end a.world a.end a.ends (subst (λ (w : World). IsSpent w) a.mean.reached spent) in
        absurd (not (ap (λ (n : Meaning). n.status) a.is ∙ ap (λ (e : End). status_of e a.world.pen.has_erred) over))
  ]
