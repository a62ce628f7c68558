-- What a turn and what becomes of its yield make smaller together.
use Rattle.std.proofs.Common.{◌≡◌, inl, inr, ℕ, ◌<◌, ◌≤◌, Bool, true, false, List, refl, arith}
use Rattle.std.proofs.lemmas.Bool.{cases_lt}
use Rattle.etx_expand.specs.Measure.{turn_weight}
use Rattle.etx_matter.specs.declared.deed.Deed.{Deed}
use Rattle.etx_mouth.specs.Mouths.{MouthState}
use Rattle.etx_mouth.specs.declared.yields.Yield.TheVariants.{Quiet, Act, Load}
use Rattle.etx_mouth.specs.Turn.{turned}
use Rattle.etx_mouth.specs.Errors.{is_error}
use Rattle.etx_mouth.specs.Measure.{Falls, Goes, GoesOn, IsAnswered}

falls_on : (old new : MouthState) (e : ℕ) → Falls 1 old new → GoesOn old e new e
falls_on old new e f = elim f [ inl more ↦ inl more | inr less ↦ inr (inr (less.0, refl, omega (arith, less.1))) ]

pub quiet_on : (old new : MouthState) (e : ℕ) → Goes old (turned new Quiet) → GoesOn old e new e
quiet_on old new e goes = elim goes [ inl never ↦ absurd never | inr on ↦ elim on [ inl never ↦ absurd never.0 | inr f ↦ falls_on old new e f ] ]

-- an error is counted, and no step was given back
error_on : (old new : MouthState) (e f : ℕ) → old.machine.spent ≤ new.machine.spent → e < f → GoesOn old e new f
error_on old new e f le more = elim (cases_lt old.machine.spent new.machine.spent) [ inl lt ↦ inl lt | inr ge ↦ inr (inl (omega (arith, le, ge), more)) ]

falls_to : (old new : MouthState) (e f : ℕ) (b : Bool) → (b ≡ true → e < f) → (b ≡ false → f ≡ e) → Falls 1 old new → GoesOn old e new f
falls_to old new e f true more same falls = elim falls [ inl lt ↦ inl lt | inr less ↦ inr (inl (less.0, more refl)) ]
falls_to old new e f false more same falls = elim falls [ inl lt ↦ inl lt | inr less ↦ inr (inr (less.0, same refl, omega (arith, less.1))) ]

pub act_on : (old new : MouthState) (e f : ℕ) (d : Deed) → (is_error d ≡ true → e < f) → (is_error d ≡ false → f ≡ e) → Goes old (turned new (Act d)) → GoesOn old e new f
act_on old new e f d more same goes = elim goes [
  | inl never ↦ absurd never
  | inr on ↦ elim on [ inl errs ↦ error_on old new e f errs.1 (more errs.0) | inr falls ↦ falls_to old new e f (is_error d) more same falls ]
]

-- an answer adds less than the turn that asked took away
answered_on : (old mid new : MouthState) (e : ℕ) → IsAnswered mid new → Falls turn_weight old mid → GoesOn old e new e
answered_on old mid new e same f = elim f [
  | inl more ↦ inl (omega (arith, same.spent, more))
  | inr less ↦ inr (inr (omega (arith, same.spent, less.0), refl, omega (arith, same.weight, less.1)))
]

pub load_on : (old mid new : MouthState) (e : ℕ) (name : List ℕ) → IsAnswered mid new → Goes old (turned mid (Load name)) → GoesOn old e new e
load_on old mid new e name same goes = elim goes [
  | inl never ↦ absurd never
  | inr on ↦ elim on [ inl never ↦ absurd never.0 | inr f ↦ answered_on old mid new e same f ]
]
