-- Each turn ends the job, reports an error, takes a step, or makes the weight less.
use Rattle.std.proofs.Common.{◌≡◌, ℕ, List, ◌≤◌, inl, inr, refl, sym, subst, arith}
use Rattle.etx_outside.specs.declared.tree.Loaded.{Loaded}
use Rattle.etx_outside.specs.declared.tree.Loaded.TheVariants as loaded
use Rattle.etx_matter.specs.declared.deed.Deed.{Deed}
use Rattle.etx_matter.specs.declared.deed.Deed.TheVariants as deed
use Rattle.etx_input.specs.Levels.{with_file}
use Rattle.etx_state.specs.Mouths.{Mouth}
use Rattle.etx_answers.specs.declared.plan.Turned.{Turned as Came}
use Rattle.etx_answers.specs.declared.plan.Turned.TheVariants as came
use Rattle.etx_expand.specs.Measure.{Falls as MachineFalls, Comes}
use Rattle.etx_mouth.specs.declared.mouth.Source.{Source}
use Rattle.etx_mouth.specs.declared.mouth.Source.TheVariants.{Unasked, Absent, Refused, Reading}
use Rattle.etx_mouth.specs.declared.yields.Yield.{Yield}
use Rattle.etx_mouth.specs.declared.yields.Yield.TheVariants.{Act}
use Rattle.etx_mouth.specs.Mouths.{MouthState, mouth_at}
use Rattle.etx_mouth.specs.Machine.{machine_turn}
use Rattle.etx_mouth.specs.Turn.{turned, yield_of, source_turn, turn_of, answered, resumed}
use Rattle.etx_mouth.specs.Measure.{Falls, Goes, IsAnswered}
use Rattle.etx_mouth.proofs.Machines.{machine_goes}

-- where the machine falls, the mouth that reads from it does
falls : (n : ℕ) (old new : Mouth) → MachineFalls n old new → Falls n (mouth_at Reading old) (mouth_at Reading new)
falls n old new (inl more) = inl more
falls n old new (inr fell) = inr (fell.0, omega (arith, fell.1))

deed_goes : (d : Deed) (old new : Mouth) → old.spent ≤ new.spent → Comes (came.Deed d) old new → Goes (mouth_at Reading old) (turned (mouth_at Reading new) (yield_of (came.Deed d)))
deed_goes (deed.Fresh who) old new later comes = inr (inr (falls 1 old new comes))
deed_goes (deed.Space who) old new later comes = inr (inr (falls 1 old new comes))
deed_goes (deed.Text bytes who) old new later comes = inr (inr (falls 1 old new comes))
deed_goes (deed.Error text line who) old new later comes = inr (inl (refl, later))
deed_goes (deed.Create name) old new later comes = absurd comes

reading_goes : (t : Came) (old new : Mouth) → old.spent ≤ new.spent → Comes t old new → Goes (mouth_at Reading old) (turned (mouth_at Reading new) (yield_of t))
reading_goes came.Again old new later comes = inr (inr (falls 1 old new comes))
reading_goes (came.Deed d) old new later comes = deed_goes d old new later comes
reading_goes (came.End e) old new later comes = inl tt

source_goes : (s : Source) (m : Mouth) → Goes (mouth_at s m) (source_turn s m)
source_goes (Unasked name) m = inr (inr (inr (refl, omega arith)))
source_goes (Absent name) m = inr (inr (inr (refl, omega arith)))
source_goes Refused m = inl tt
source_goes Reading m = reading_goes (machine_turn m).turned m (machine_turn m).now (machine_goes m).forth (machine_goes m).comes

pub turn_goes : (v : MouthState) → Goes v (turn_of v)
unfolding turn_of
turn_goes v = source_goes v.source v.machine

-- the same, of a mouth and a yield that are equal
pub turn_goes_to : (old new : MouthState) (did : Yield) → new ≡ (turn_of old).now → did ≡ (turn_of old).did → Goes old (turned new did)
turn_goes_to old new did now is = subst (λ (v : MouthState). Goes old (turned v did)) (sym now) (subst (λ (y : Yield). Goes old (turned (turn_of old).now y)) (sym is) (turn_goes old))

-- ---- no turn creates a file

yield_makes_nothing : (t : Came) (q : List ℕ) (old new : Mouth) → Comes t old new → yield_of t ≡ Act (deed.Create q) → ⊥
yield_makes_nothing came.Again q old new comes is = cc
yield_makes_nothing (came.Deed (deed.Fresh who)) q old new comes is = cc
yield_makes_nothing (came.Deed (deed.Space who)) q old new comes is = cc
yield_makes_nothing (came.Deed (deed.Text bytes who)) q old new comes is = cc
yield_makes_nothing (came.Deed (deed.Error text line who)) q old new comes is = cc
yield_makes_nothing (came.Deed (deed.Create name)) q old new comes is = comes
yield_makes_nothing (came.End e) q old new comes is = cc

source_makes_nothing : (s : Source) (m : Mouth) (q : List ℕ) → (source_turn s m).did ≡ Act (deed.Create q) → ⊥
source_makes_nothing (Unasked name) m q is = cc
source_makes_nothing (Absent name) m q is = cc
source_makes_nothing Refused m q is = cc
source_makes_nothing Reading m q is = yield_makes_nothing (machine_turn m).turned q m (machine_turn m).now (machine_goes m).comes is

pub turn_makes_nothing : (v : MouthState) (q : List ℕ) → (turn_of v).did ≡ Act (deed.Create q) → ⊥
unfolding turn_of
turn_makes_nothing v q is = source_makes_nothing v.source v.machine q is

-- ---- the answer of a load

answered_adds : (name : List ℕ) (s : Source) (l : Loaded) (m : Mouth) → IsAnswered (mouth_at s m) (answered name l m)
unfolding with_file
answered_adds name s loaded.Absent m = record { spent = refl; weight = omega arith }
answered_adds name s loaded.TooLong m = record { spent = refl; weight = omega arith }
answered_adds name s (loaded.Bytes text) m = record { spent = refl; weight = omega arith }

pub resumed_adds : (name : List ℕ) (v : MouthState) (l : Loaded) → IsAnswered v (resumed name v l)
unfolding resumed
resumed_adds name v l = answered_adds name v.source l v.machine

pub resumed_adds_to : (name : List ℕ) (v new : MouthState) (l : Loaded) → new ≡ resumed name v l → IsAnswered v new
resumed_adds_to name v new l is = subst (λ (u : MouthState). IsAnswered v u) (sym is) (resumed_adds name v l)
