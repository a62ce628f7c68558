-- The history of a store: what it has under each slot at each place.
use Rattle.std.specs.Prelude.{◌≡◌, ℕ, ◌+◌, ◌≤◌, List, [], ◌∷◌, length, drop, Option, Some, IsSome, if◌then◌else◌, refl}
use Rattle.std.specs.Coded.{Coded, code_by, coded_list, coded×, coded_option}
use Rattle.etx_undo.specs.declared.slot.Slot.{Slot}
use Rattle.etx_undo.specs.Slots.{slot_code, same}
use Rattle.etx_undo.specs.Tables.{Entries, entries_code, look}

-- the entries now, and what each set took the place of, the oldest first
pub record Kept (V : Type 0) : Type 0 where
  pub entries : Entries V
  pub saved : List (Slot × Option V)

abbrev pub kept_code : {V : Type 0} → Coded V → Coded (Kept V)
kept_code {V} c = code_by (Entries V × List (Slot × Option V)) (coded× (entries_code c) (coded_list (coded× slot_code (coded_option c))))
    (λ s. (s.entries, s.saved)) (λ p. record { entries = p.0; saved = p.1 }) (λ _. refl)

module _ {V : Type 0} where
  -- the place now: the number of sets that stand
  abbrev pub place : Kept V → ℕ
  place s = length s.saved

  -- what the first of the sets on q took the place of, and now where there is none
  abbrev pub first_saved : Slot → List (Slot × Option V) → Option V → Option V
  first_saved q [] now = now
  first_saved q (s ∷ ss) now = if same s.0 q then s.1 else first_saved q ss now

  -- each slot that was set has a value after its set
  abbrev pub IsBacked : Entries V → List (Slot × Option V) → Type 0
  IsBacked entries [] = Unit {0}
  IsBacked entries (s ∷ ss) = IsSome (first_saved s.0 ss (look entries s.0)) × IsBacked entries ss

  -- the value under the slot q now
  abbrev pub present : Kept V → Slot → Option V
  present s q = look s.entries q

  -- the value under the slot q at the place p
  abbrev pub at : Kept V → ℕ → Slot → Option V
  at s p q = first_saved q (drop p s.saved) (present s q)

  -- the two have the same values at each place up to p
  abbrev pub SameUpTo : ℕ → Kept V → Kept V → Type 0
  SameUpTo p old new = (p' : ℕ) (q : Slot) → p' ≤ p → at new p' q ≡ at old p' q

  -- one place more, where k has v, and all earlier places as they were
  pub record IsSet (old new : Kept V) (k : Slot) (v : V) : Type 0 where
    pub more : place new ≡ place old + 1
    pub now : (q : Slot) → present new q ≡ (if same k q then Some v else present old q)
    pub before : SameUpTo (place old) old new

  -- new came of old by sets and goings back to places not before p
  pub record IsSince (p : ℕ) (old new : Kept V) : Type 0 where
    pub live : p ≤ place new
    pub same : SameUpTo p old new

  -- new is old gone back to place p, which was live
  pub record IsBack (p : ℕ) (old new : Kept V) : Type 0 where
    pub live : p ≤ place old
    pub back : place new ≡ p
    pub now : (q : Slot) → present new q ≡ at old p q
    pub same : SameUpTo p old new

-- what changes a store between two times at which it forgets: a set of a slot, or a going back to a place
pub data Deed (V : Type 0) : Type 0 where
  Sets : Slot → V → Deed V
  Goes : ℕ → Deed V

module _ {V : Type 0} where
  -- what a deed makes of the store old
  abbrev pub Does : Deed V → Kept V → Kept V → Type 0
  Does (Sets k v) old new = IsSet old new k v
  Does (Goes p) old new = IsBack p old new

  -- the deed doesn't go back to a place before p
  abbrev pub IsFrom : ℕ → Deed V → Type 0
  IsFrom p (Sets k v) = Unit {0}
  IsFrom p (Goes p') = p ≤ p'

  -- new came of old by these deeds in order, none of which goes back to a place before p
  abbrev pub CameBy : ℕ → List (Deed V) → Kept V → Kept V → Type 0
  CameBy p [] old new = old ≡ new
  CameBy p (d ∷ ds) old new = (next : Kept V) × IsFrom p d × Does d old next × CameBy p ds next new
