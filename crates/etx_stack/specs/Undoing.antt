-- The history of a stack: what its list was at each mark.
use Rattle.std.specs.Prelude.{Bool, nat_lt, ◌-◌, slice_set, ◌≡◌, ℕ, ◌+◌, ◌≤◌, ◌<◌, List, [], ◌∷◌, ◌++◌, length, take, drop, refl}
use Rattle.std.specs.Coded.{Coded, code_by, coded_list, coded×, coded_ℕ}
use Rattle.etx_stack.specs.declared.stack.Mark.{Mark}

-- the items, the last one last; what marks need, the oldest first, each with its place; and how many items stand as at the last mark
pub record Stacked (T : Type 0) : Type 0 where
  pub items : List T
  pub taken : List (ℕ × T)
  pub guard : ℕ

abbrev pub stacked_code : {T : Type 0} → Coded T → Coded (Stacked T)
stacked_code {T} c = code_by (List T × (List (ℕ × T) × ℕ)) (coded× (coded_list c) (coded× (coded_list (coded× coded_ℕ c)) coded_ℕ))
    (λ s. (s.items, (s.taken, s.guard))) (λ p. record { items = p.0; taken = p.1.0; guard = p.1.1 }) (λ _. refl)

module _ {T : Type 0} where
  -- an item in its place again, with none behind it
  abbrev pub put_back : ℕ × T → List T → List T
  put_back e xs = take e.0 xs ++ e.1 ∷ []

  abbrev pub undone : List (ℕ × T) → List T → List T
  undone [] xs = xs
  undone (e ∷ es) xs = put_back e (undone es xs)

  -- how many items stood as at the last mark, before these were taken
  abbrev pub bound : ℕ → List (ℕ × T) → ℕ
  bound g [] = g
  bound g (e ∷ es) = e.0 + 1

  abbrev pub IsGuarded : ℕ → List (ℕ × T) → Type 0
  IsGuarded g [] = Unit {0}
  IsGuarded g (e ∷ es) = (e.0 ≤ bound g es) × IsGuarded g es

  -- each has its place below n
  abbrev pub AreBelow : ℕ → List (ℕ × T) → Type 0
  AreBelow n [] = Unit {0}
  AreBelow n (e ∷ es) = (e.0 < n) × AreBelow n es

  -- there is a last item, and no mark needs it
  abbrev pub is_free : Stacked T → Bool
  is_free s = nat_lt s.guard (length s.items)

  -- another item in the place of the last
  abbrev pub with_last : Stacked T → T → Stacked T
  with_last s x = record s { items = slice_set s.items (length s.items - 1) x }

  -- the list at the mark
  abbrev pub at : Stacked T → Mark → List T
  at s m = take m.len (undone (drop m.taken s.taken) s.items)

  -- one can go back to the mark
  pub record IsLive (m : Mark) (s : Stacked T) : Type 0 where
    pub there : m.taken ≤ length s.taken
    pub low : m.len ≤ bound s.guard (drop m.taken s.taken)
    pub high : IsGuarded m.len (take m.taken s.taken)

  -- one can go back to the mark in new, and its list is the one that it had in old
  pub record IsSince (m : Mark) (old new : Stacked T) : Type 0 where
    pub live : IsLive m new
    pub same : at new m ≡ at old m

  -- every mark to which old could go back stands in new, with its list
  abbrev pub Keeps : Stacked T → Stacked T → Type 0
  Keeps old new = (m : Mark) → IsLive m old → IsSince m old new

  -- new is old with all put back that was taken after some place, which is not before p
  pub record SameUpTo (p : ℕ) (old new : Stacked T) : Type 0 where
    pub items : (k : ℕ) → k ≤ p → undone (drop k new.taken) new.items ≡ undone (drop k old.taken) old.items
    pub bound : (k : ℕ) → k ≤ p → bound new.guard (drop k new.taken) ≡ bound old.guard (drop k old.taken)
    pub taken : (k : ℕ) → k ≤ p → take k new.taken ≡ take k old.taken

-- the mark m was taken before the mark n
abbrev pub IsBefore : Mark → Mark → Type 0
IsBefore m n = (m.taken ≤ n.taken) × (m.taken ≡ n.taken → m.len ≤ n.len)
