-- The laws of quiet turns.
use Rattle.std.proofs.Common.{◌≡◌, ℕ, zero, suc, ◌<◌, ◌≤◌, ◌⊎◌, inl, inr, Option, Some, None, refl, sym, ◌∙◌, ap, subst, arith}
use Rattle.std.proofs.lemmas.Bool.{cases_eq, cases_lt}
use Rattle.etx_mouth.specs.declared.yields.Yield.{Yield}
use Rattle.etx_mouth.specs.declared.yields.Yield.TheVariants.{Quiet, Act, Load, Done}
use Rattle.etx_mouth.specs.declared.yields.Halt.{Halt}
use Rattle.etx_mouth.specs.declared.yields.Halt.TheVariants as halt
use Rattle.etx_mouth.specs.Mouths.{MouthState}
use Rattle.etx_mouth.specs.Turn.{Turned, turned, turn_of}
use Rattle.etx_mouth.specs.Measure.{weight, Falls, least, Goes}
use Rattle.etx_mouth.specs.Runs.{IsQuiet, RunsIn, Runs, HaltsAt, Advances, yield_at, RunGoes}
use Rattle.etx_mouth.proofs.Falling.{turn_goes_to}

pub runs_none : {budget : ℕ} {old new : MouthState} → new ≡ old → Runs budget old new
runs_none is = record { turns = 0; run = is }

pub runs_more : {budget : ℕ} {old mid new : MouthState} → Runs budget old mid → IsQuiet budget mid new → Runs budget old new
runs_more {mid = mid} r q = record { turns = suc r.turns; run = (mid, (r.run, q)) }

pub runs_one : {budget : ℕ} {old new : MouthState} → IsQuiet budget old new → Runs budget old new
runs_one q = runs_more (runs_none refl) q

pub runs_on : {budget : ℕ} {old mid new : MouthState} → Runs budget old mid → Runs budget mid new → Runs budget old new
runs_on {budget} {old} {mid} {new} a b = go b.turns new b.run
  where
    go : (n : ℕ) (v : MouthState) → RunsIn budget n mid v → Runs budget old v
    go zero v is = subst (λ (u : MouthState). Runs budget old u) (sym is) a
    go (suc n) v r = runs_more (go n r.0 r.1.0) r.1.1

-- ---- what a run makes smaller

pub quiet_falls : {budget : ℕ} {old new : MouthState} → IsQuiet budget old new → Falls 1 old new
quiet_falls {budget} {old} {new} q = elim (turn_goes_to old new Quiet q.now (sym q.did)) [
  | inl never ↦ absurd never
  | inr on ↦ elim on [ inl never ↦ absurd never.0 | inr f ↦ f ]
]

-- a step was taken, or the weight didn't rise
abbrev pub Sinks : MouthState → MouthState → Type 0
Sinks old new = (old.machine.spent < new.machine.spent) ⊎ ((new.machine.spent ≡ old.machine.spent) × (weight new ≤ weight old))

sinks_not : (old new : MouthState) → new ≡ old → Sinks old new
sinks_not old new is = subst (λ (v : MouthState). Sinks old v) (sym is) (inr (refl, omega arith))

sinks_as : (n : ℕ) (old new : MouthState) → Falls n old new → Sinks old new
sinks_as n old new f = elim f [ inl more ↦ inl more | inr less ↦ inr (less.0, omega (arith, less.1)) ]

falls_sinks : (n : ℕ) (old mid new : MouthState) → Sinks old mid → Falls n mid new → Falls n old new
falls_sinks n old mid new s f = elim s [
  | inl more ↦ elim f [ inl still ↦ inl (omega (arith, more, still)) | inr less ↦ inl (omega (arith, more, less.0)) ]
  | inr same ↦ elim f [
    | inl still ↦ inl (omega (arith, same.0, still))
    | inr less ↦ inr (omega (arith, same.0, less.0), omega (arith, same.1, less.1))
  ]
]

pub runs_sinks : {budget : ℕ} {old new : MouthState} → Runs budget old new → Sinks old new
runs_sinks {budget} {old} {new} r = go r.turns new r.run
  where
    go : (n : ℕ) (v : MouthState) → RunsIn budget n old v → Sinks old v
    go zero v is = sinks_not old v is
    go (suc n) v s = sinks_as 1 old v (falls_sinks 1 old s.0 v (go n s.0 s.1.0) (quiet_falls s.1.1))

pub runs_falls : {budget : ℕ} {old mid : MouthState} (new : MouthState) → Runs budget old mid → Falls 1 mid new → Falls 1 old new
runs_falls {budget} {old} {mid} new r f = falls_sinks 1 old mid new (runs_sinks r) f

no_less : (old mid new : MouthState) → Sinks old mid → mid.machine.spent ≤ new.machine.spent → old.machine.spent ≤ new.machine.spent
no_less old mid new s le = elim s [ inl more ↦ omega (arith, more, le) | inr same ↦ omega (arith, same.0, le) ]

goes_from : (old mid new : MouthState) (y : Yield) → Sinks old mid → Goes mid (turned new y) → Goes old (turned new y)
goes_from old mid new y s goes = elim goes [
  | inl ends ↦ inl ends
  | inr on ↦ elim on [ inl errs ↦ inr (inl (errs.0, no_less old mid new s errs.1)) | inr f ↦ inr (inr (falls_sinks (least y) old mid new s f)) ]
]

pub goes_after : {budget : ℕ} {old mid : MouthState} (new : MouthState) (why : Halt) → Runs budget old mid → RunGoes mid new why → RunGoes old new why
goes_after {budget} {old} {mid} new why r goes = goes_from old mid new (yield_at why) (runs_sinks r) goes

-- a run stays within the budget
pub runs_within : {budget : ℕ} {old new : MouthState} → old.machine.spent ≤ budget → Runs budget old new → new.machine.spent ≤ budget
runs_within {budget} {old} {new} le r = go r.turns new r.run
  where
    go : (n : ℕ) (v : MouthState) → RunsIn budget n old v → v.machine.spent ≤ budget
    go zero v is = subst (λ (u : MouthState). u.machine.spent ≤ budget) (sym is) le
    go (suc n) v s = subst (λ (u : MouthState). u.machine.spent ≤ budget) (sym s.1.1.now) s.1.1.within

-- ---- where a run halts

pub advances_on : {budget : ℕ} {old mid new : MouthState} {why : Halt} → Runs budget old mid → Advances budget mid new why → Advances budget old new why
advances_on r a = record { last = a.last; runs = runs_on r a.runs; now = a.now; halts = a.halts }

pub quiet_within : {budget : ℕ} {mid new : MouthState} (did : Yield) → new ≡ (turn_of mid).now → did ≡ (turn_of mid).did → did ≡ Quiet → new.machine.spent ≤ budget → IsQuiet budget mid new
quiet_within {budget} did now is quiet le = record { did = sym is ∙ quiet; within = subst (λ (v : MouthState). v.machine.spent ≤ budget) now le; now = now }

held : Halt → Option Halt → Halt
held other None = other
held other (Some why) = why

-- a turn that halts, said of the halt that an option holds
pub advances_as : {budget : ℕ} {old mid : MouthState} (new : MouthState) (why held_why : Halt) → Runs budget old mid → new ≡ (turn_of mid).now → HaltsAt budget (turn_of mid) why → Some why ≡ Some held_why → Advances budget old new held_why
unfolding held
advances_as {budget} {old} {mid} new why held_why r now halts is = subst (λ (h : Halt). Advances budget old new h) (ap (held why) is) (record { last = mid; runs = r; now = now; halts = halts })

pub goes_as : (old new : MouthState) (why held_why : Halt) → RunGoes old new why → Some why ≡ Some held_why → RunGoes old new held_why
unfolding held
goes_as old new why held_why goes is = subst (λ (h : Halt). RunGoes old new h) (ap (held why) is) goes

-- what a yield made smaller, where it is known
pub goes_at : (old new : MouthState) {did y : Yield} → did ≡ y → Goes old (turned new did) → Goes old (turned new y)
goes_at old new is goes = subst (λ (y : Yield). Goes old (turned new y)) is goes

-- within the budget a turn yields this
pub yields_at : {budget : ℕ} (mid new : MouthState) {did y : Yield} → new ≡ (turn_of mid).now → did ≡ (turn_of mid).did → did ≡ y → new.machine.spent ≤ budget → ((turn_of mid).now.machine.spent ≤ budget) × ((turn_of mid).did ≡ y)
yields_at {budget} mid new now is known le = (subst (λ (v : MouthState). v.machine.spent ≤ budget) now le, sym is ∙ known)

-- where a run halts for a reason that is known
pub halts_as : {budget : ℕ} {old new : MouthState} {why known : Halt} (a : Advances budget old new why) → why ≡ known → HaltsAt budget (turn_of a.last) known
halts_as {budget} a is = subst (λ (h : Halt). HaltsAt budget (turn_of a.last) h) is a.halts

pub goes_to : (old new : MouthState) {why known : Halt} → why ≡ known → RunGoes old new why → RunGoes old new known
goes_to old new is goes = subst (λ (h : Halt). RunGoes old new h) is goes

-- ---- a run halts at one place alone, and for one reason

one_run : (budget n : ℕ) (old v w : MouthState) → RunsIn budget n old v → RunsIn budget n old w → v ≡ w
one_run budget zero old v w a b = a ∙ sym b
one_run budget (suc n) old v w a b = a.1.1.now ∙ ap (λ (u : MouthState). (turn_of u).now) (one_run budget n old a.0 b.0 a.1.0 b.1.0) ∙ sym b.1.1.now

abbrev TurnsQuietly : ℕ → MouthState → Type 0
TurnsQuietly budget v = ((turn_of v).did ≡ Quiet) × ((turn_of v).now.machine.spent ≤ budget)

-- each turn of a run but the last is quiet
quiet_at : (budget m n : ℕ) (old u v : MouthState) → m < n → RunsIn budget m old u → RunsIn budget n old v → TurnsQuietly budget u
quiet_at budget m zero old u v lt a b = absurd (omega (arith, lt))
quiet_at budget m (suc n) old u v lt a b = elim (cases_eq m n) [
  | inl same ↦
      let at : u ≡ b.0 = one_run budget n old u b.0 (subst (λ k. RunsIn budget k old u) same a) b.1.0 in
      subst (λ (w : MouthState). TurnsQuietly budget w) (sym at) (b.1.1.did, b.1.1.within)
  | inr other ↦ quiet_at budget m n old u b.0 (omega (arith, lt)) a b.1.0
]

halts_not : (budget : ℕ) (t : Turned) (why : Halt) → HaltsAt budget t why → t.did ≡ Quiet → t.now.machine.spent ≤ budget → ⊥
halts_not budget t halt.Spent at quiet le = absurd (omega (arith, at, le))
halts_not budget t (halt.Act d) at quiet le = let no : Quiet ≡ Act d = sym quiet ∙ at.1 in cc
halts_not budget t (halt.Load name) at quiet le = let no : Quiet ≡ Load name = sym quiet ∙ at.1 in cc
halts_not budget t (halt.Done e) at quiet le = let no : Quiet ≡ Done e = sym quiet ∙ at.1 in cc

one_halt : (budget : ℕ) (t : Turned) (why other : Halt) → HaltsAt budget t why → HaltsAt budget t other → why ≡ other
one_halt budget t halt.Spent halt.Spent a b = refl
one_halt budget t halt.Spent (halt.Act d) a b = absurd (omega (arith, a, b.0))
one_halt budget t halt.Spent (halt.Load name) a b = absurd (omega (arith, a, b.0))
one_halt budget t halt.Spent (halt.Done e) a b = absurd (omega (arith, a, b.0))
one_halt budget t (halt.Act d) halt.Spent a b = absurd (omega (arith, a.0, b))
one_halt budget t (halt.Act d) (halt.Act c) a b = let same : Act d ≡ Act c = sym a.1 ∙ b.1 in cc
one_halt budget t (halt.Act d) (halt.Load name) a b = let no : Act d ≡ Load name = sym a.1 ∙ b.1 in cc
one_halt budget t (halt.Act d) (halt.Done e) a b = let no : Act d ≡ Done e = sym a.1 ∙ b.1 in cc
one_halt budget t (halt.Load name) halt.Spent a b = absurd (omega (arith, a.0, b))
one_halt budget t (halt.Load name) (halt.Act d) a b = let no : Load name ≡ Act d = sym a.1 ∙ b.1 in cc
one_halt budget t (halt.Load name) (halt.Load file) a b = let same : Load name ≡ Load file = sym a.1 ∙ b.1 in cc
one_halt budget t (halt.Load name) (halt.Done e) a b = let no : Load name ≡ Done e = sym a.1 ∙ b.1 in cc
one_halt budget t (halt.Done e) halt.Spent a b = absurd (omega (arith, a.0, b))
one_halt budget t (halt.Done e) (halt.Act d) a b = let no : Done e ≡ Act d = sym a.1 ∙ b.1 in cc
one_halt budget t (halt.Done e) (halt.Load name) a b = let no : Done e ≡ Load name = sym a.1 ∙ b.1 in cc
one_halt budget t (halt.Done e) (halt.Done f) a b = let same : Done e ≡ Done f = sym a.1 ∙ b.1 in cc

-- no run goes on behind the place at which another halts
no_further : (budget : ℕ) (old new other : MouthState) (why : Halt) (a : Advances budget old new why) (r : Runs budget old other) → a.runs.turns < r.turns → ⊥
no_further budget old new other why a r lt =
    let quiet = quiet_at budget a.runs.turns r.turns old a.last other lt a.runs.run r.run in
    halts_not budget (turn_of a.last) why a.halts quiet.0 quiet.1

one_last : (budget : ℕ) (old new other : MouthState) (why wherefore : Halt) (a : Advances budget old new why) (b : Advances budget old other wherefore) → a.last ≡ b.last
one_last budget old new other why wherefore a b = elim (cases_eq a.runs.turns b.runs.turns) [
  | inl same ↦ one_run budget b.runs.turns old a.last b.last (subst (λ k. RunsIn budget k old a.last) same a.runs.run) b.runs.run
  | inr differs ↦ elim (cases_lt a.runs.turns b.runs.turns) [
    | inl lt ↦ absurd (no_further budget old new b.last why a b.runs lt)
    | inr ge ↦ absurd (no_further budget old other a.last wherefore b a.runs (omega (arith, ge, differs)))
  ]
]

pub one_reason : (budget : ℕ) (old new other : MouthState) (why wherefore : Halt) → Advances budget old new why → Advances budget old other wherefore → why ≡ wherefore
one_reason budget old new other why wherefore a b =
    let at : HaltsAt budget (turn_of b.last) why = subst (λ (v : MouthState). HaltsAt budget (turn_of v) why) (one_last budget old new other why wherefore a b) a.halts in
    one_halt budget (turn_of b.last) why wherefore at b.halts

pub one_place : (budget : ℕ) (old new other : MouthState) (why wherefore : Halt) → Advances budget old new why → Advances budget old other wherefore → new ≡ other
one_place budget old new other why wherefore a b = a.now ∙ ap (λ (v : MouthState). (turn_of v).now) (one_last budget old new other why wherefore a b) ∙ sym b.now
