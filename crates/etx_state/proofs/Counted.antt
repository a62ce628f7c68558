-- Lists of the values of a function.
use Rattle.std.proofs.Common.{◌≡◌, ℕ, zero, suc, ◌+◌, ◌<◌, ◌≤◌, List, [], ◌∷◌, ◌++◌, length, slice_get, Some, pos, refl, sym, ◌∙◌, ap, arith, ⊎_elim}
use Rattle.std.proofs.lemmas.List.{length-append}
use Rattle.std.proofs.Math.Nat.{eq-or-lt_of_le}
use Rattle.etx_state.specs.declared.key.Val.{Val}
use Rattle.etx_state.specs.declared.key.Val.TheVariants as val
use Rattle.etx_state.proofs.Stored.{get_last}

-- those of the numbers below some
abbrev pub AreFirst : (ℕ → ℕ) → ℕ → List Val → Type 0
AreFirst f count values = (length values ≡ count) × ((n : ℕ) → n < count → slice_get values n ≡ Some (val.Int (pos (f n))))

get_old : (xs : List Val) (x : Val) (n : ℕ) → n < length xs → slice_get (xs ++ x ∷ []) n ≡ slice_get xs n
get_old [] x n lt = absurd (omega (arith, lt))
get_old (y ∷ ys) x zero lt = refl
get_old (y ∷ ys) x (suc n) lt = get_old ys x n (omega (arith, lt))

pub first_none : (f : ℕ → ℕ) (xs : List Val) → xs ≡ [] → AreFirst f 0 xs
first_none f xs e = (ap length e, λ n lt. absurd (omega (arith, lt)))

pub first_more : (f : ℕ → ℕ) (count : ℕ) (xs new : List Val) → AreFirst f count xs → new ≡ xs ++ val.Int (pos (f count)) ∷ [] → AreFirst f (count + 1) new
first_more f count xs new all is = rw is (
  (let l = length-append xs (val.Int (pos (f count)) ∷ []) in let before = all.0 in omega (arith, l, before)),
  (λ n lt. ⊎_elim
      (λ (e : n ≡ count). ap (slice_get (xs ++ val.Int (pos (f count)) ∷ [])) (e ∙ sym all.0) ∙ get_last xs (val.Int (pos (f count))) ∙ ap (λ (k : ℕ). Some (val.Int (pos (f k)))) (sym e))
      (λ (l : n < count). get_old xs (val.Int (pos (f count))) n (let before = all.0 in omega (arith, l, before)) ∙ all.1 n l)
      (eq-or-lt_of_le (let le : n ≤ count = omega (arith, lt) in le))),
)
