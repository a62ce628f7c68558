-- What a caller of the top call sees.
use Rattle.std.proofs.Common.{◌≡◌, ℕ, Bool, List, ◌++◌, Option, Some, None, IsSome, MatchOption, refl, sym, ◌∙◌, ap, subst}
use Rattle.etx_outside.specs.Entries.{Files, History, files_after, asked_in, said}
use Rattle.etx_outside.specs.Outside.{Outside, outside_of, after}
use Rattle.etx_matter.specs.Jobs.{JobState}
use Rattle.etx_matter.specs.declared.end.End.{End}
use Rattle.etx_matter.specs.declared.end.Status.{Status}
use Rattle.etx_matter.specs.declared.end.Status.TheVariants.{Clean, Errors, Stopped, Spent, Usage, ReadFault, WriteFault, OutOfMemory}
use Rattle.etx_job.specs.Chain.{Start, World}
use Rattle.etx_job.specs.Going.{IsFor, Cut, Settled}
use Rattle.etx_job.specs.Meaning.{Meaning, IsEnding, IsRefusal, status_of, start_of, usage, IsMeaningOfJob, IsMeaning}
use Rattle.etx_job.specs.Words.{job_asked}
use Rattle.etx_job.proofs.Ends.{cut_of_mean, one_mean, mean_of}

-- an end that is there
some_end : (o : Option End) → IsSome o → (e : End) × (o ≡ Some e)
some_end None none = cc
some_end (Some e) has = (e, refl)

-- an answer that is both an ending and a refusal
pub usage_of : (s : Status) → IsEnding s → IsRefusal s → s ≡ Usage
usage_of Clean ends refuses = absurd refuses
usage_of Errors ends refuses = absurd refuses
usage_of Stopped ends refuses = absurd refuses
usage_of Spent ends refuses = absurd refuses
usage_of Usage ends refuses = refl
usage_of ReadFault ends refuses = absurd refuses
usage_of WriteFault ends refuses = absurd ends
usage_of OutOfMemory ends refuses = absurd ends

-- the meaning of words of no known form
pub usage_meant : (words : List (List ℕ)) (files : Files) → job_asked words ≡ None → IsMeaning words files usage
usage_meant words files none = subst (λ (o : Option JobState). MatchOption o (usage ≡ usage) (λ job. IsMeaningOfJob (start_of job files) usage)) (sym none) refl

-- each job has a meaning, and one alone
pub meaning_of_job : (start : Start) → (m : Meaning) × IsMeaningOfJob start m
meaning_of_job start =
    let mean = mean_of start in
    let end = some_end mean.0.end mean.1.has_ended in
    (record { history = mean.0.trace; status = status_of end.0 mean.0.pen.has_erred }, record { world = mean.0; mean = mean.1; end = end.0; ends = end.1; is = refl })

abbrev end_meaning : World → End → Meaning
end_meaning w e = record { history = w.trace; status = status_of e w.pen.has_erred }

same_meaning : (v w : World) (d e : End) → v ≡ w → v.end ≡ Some d → w.end ≡ Some e → end_meaning v d ≡ end_meaning w e
same_meaning v w d e same is it_is =
    let there : Some d ≡ Some e = sym is ∙ ap (λ (u : World). u.end) same ∙ it_is in
    let ends : d ≡ e = cc in
    λ i. end_meaning (same i) (ends i)

pub one_meaning_of_job : (start : Start) (m n : Meaning) → IsMeaningOfJob start m → IsMeaningOfJob start n → m ≡ n
one_meaning_of_job start m n a b = a.is ∙ same_meaning a.world b.world a.end b.end (one_mean start a.world b.world a.mean b.mean) a.ends b.ends ∙ sym b.is

-- and so have words
pub meaning_of : (words : List (List ℕ)) (files : Files) → (m : Meaning) × IsMeaning words files m
meaning_of words files = by (job_asked words)
  where
    by : (o : Option JobState) → (m : Meaning) × MatchOption o (m ≡ usage) (λ job. IsMeaningOfJob (start_of job files) m)
    by None = (usage, refl)
    by (Some job) = meaning_of_job (start_of job files)

pub one_meaning : (words : List (List ℕ)) (files : Files) (m n : Meaning) → IsMeaning words files m → IsMeaning words files n → m ≡ n
one_meaning words files m n a b = by (job_asked words) a b
  where
    by : (o : Option JobState) → MatchOption o (m ≡ usage) (λ job. IsMeaningOfJob (start_of job files) m) → MatchOption o (n ≡ usage) (λ job. IsMeaningOfJob (start_of job files) n) → m ≡ n
    by None is it_is = is ∙ sym it_is
    by (Some job) is it_is = one_meaning_of_job (start_of job files) m n is it_is

pub for_start : {F T : Type 0} (files : F → Files) (asked : F → List (List ℕ)) (text : T → List ℕ) (job : JobState) (old : F) (before : T) → IsFor (start_of job (files old)) (outside_of files asked text old before)
unfolding outside_of
for_start files asked text job old before = refl

module _ {F T : Type 0} (files : F → Files) (asked : F → List (List ℕ)) (text : T → List ℕ) (job : JobState) (old new : F) (before now : T) where
  abbrev start : Start
  start = start_of job (files old)

  -- a job that has ended, and all of whose history was done
  pub whole_for : (e : End) (erred : Bool) (s : Status) → Settled start e erred (outside_of files asked text old before) (outside_of files asked text new now) → s ≡ status_of e erred
      → (m : Meaning) × IsMeaningOfJob start m × (s ≡ m.status) × (files new ≡ files_after m.history (files old)) × (asked new ≡ asked old ++ asked_in m.history) × (text now ≡ text before ++ said m.history)
  unfolding outside_of after
  whole_for e erred s settled is = (
    record { history = settled.world.trace; status = status_of e settled.world.pen.has_erred },
    record { world = settled.world; mean = settled.mean; end = e; ends = settled.end_is; is = refl },
    is ∙ ap (status_of e) (sym settled.erred_is),
    ap (λ (o : Outside). o.files) settled.now_is,
    ap (λ (o : Outside). o.asked) settled.now_is,
    ap (λ (o : Outside). o.text) settled.now_is,
  )

  -- a job of whose history some first entries were done
  pub front_for : Cut start (outside_of files asked text old before) (outside_of files asked text new now)
      → (m : Meaning) × IsMeaningOfJob start m × ((h : History) × (rest : History) × (h ++ rest ≡ m.history) × (files new ≡ files_after h (files old)) × (asked new ≡ asked old ++ asked_in h) × (text now ≡ text before ++ said h))
  unfolding outside_of after
  front_for cut =
      let mean = mean_of start in
      let end = some_end mean.0.end mean.1.has_ended in
      let front = cut_of_mean start cut mean.0 mean.1 in (
        record { history = mean.0.trace; status = status_of end.0 mean.0.pen.has_erred },
        record { world = mean.0; mean = mean.1; end = end.0; ends = end.1; is = refl },
        (
          front.written,
          front.rest,
          front.parts,
          ap (λ (o : Outside). o.files) front.now,
          ap (λ (o : Outside). o.asked) front.now,
          ap (λ (o : Outside). o.text) front.now,
        ),
      )
