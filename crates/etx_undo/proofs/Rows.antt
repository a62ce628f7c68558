-- Rows, one cell at a time.
use Rattle.std.proofs.Common.{◌≡◌, ℕ, zero, suc, ◌==◌, ◌<◌, ◌≤◌, ◌++◌, List, [], ◌∷◌, length, Option, None, slice_set, slice_index_or, if◌then◌else◌, Bool, true, false, ap, subst, refl, arith}
use Rattle.std.proofs.lemmas.Bool.{eqb-true, eqb-false}
use Rattle.etx_undo.specs.Rows.{value_at}

module _ {V : Type 0} where
  pub past : (xs : List (Option V)) (i : ℕ) → length xs ≤ i → value_at xs i ≡ None
  past [] i h = refl
  past (x ∷ xs) zero h = elim h [ ]
  past (x ∷ xs) (suc i) h = past xs i (omega arith)

  pub at_index : (xs : List (Option V)) (i : ℕ) (d : Option V) → i < length xs → slice_index_or xs i d ≡ value_at xs i
  at_index [] i d h = elim h [ ]
  at_index (x ∷ xs) zero d h = refl
  at_index (x ∷ xs) (suc i) d h = at_index xs i d (omega arith)

  pub longer : (xs : List (Option V)) (i : ℕ) → value_at (xs ++ None ∷ []) i ≡ value_at xs i
  longer [] zero = refl
  longer [] (suc i) = refl
  longer (x ∷ xs) zero = refl
  longer (x ∷ xs) (suc i) = longer xs i

  there : (xs : List (Option V)) (at : ℕ) (v : Option V) → at < length xs → value_at (slice_set xs at v) at ≡ v
  there [] at v h = elim h [ ]
  there (x ∷ xs) zero v h = refl
  there (x ∷ xs) (suc at) v h = there xs at v (omega arith)

  elsewhere : (xs : List (Option V)) (at : ℕ) (v : Option V) (i : ℕ) → (at ≡ i → ⊥) → value_at (slice_set xs at v) i ≡ value_at xs i
  elsewhere [] at v i h = refl
  elsewhere (x ∷ xs) zero v zero h = elim (h refl) [ ]
  elsewhere (x ∷ xs) zero v (suc i) h = refl
  elsewhere (x ∷ xs) (suc at) v zero h = refl
  elsewhere (x ∷ xs) (suc at) v (suc i) h = elsewhere xs at v i (λ e. h (ap suc e))

  by_test : (xs : List (Option V)) (at : ℕ) (v : Option V) → at < length xs → (i : ℕ) (b : Bool) → (at == i) ≡ b → value_at (slice_set xs at v) i ≡ (if b then v else value_at xs i)
  by_test xs at v h i true e = subst (λ (k : ℕ). value_at (slice_set xs at v) k ≡ v) (eqb-true at i e) (there xs at v h)
  by_test xs at v h i false e = elsewhere xs at v i (eqb-false at i e)

  pub changed : (xs : List (Option V)) (at : ℕ) (v : Option V) → at < length xs → (i : ℕ) → value_at (slice_set xs at v) i ≡ (if at == i then v else value_at xs i)
  changed xs at v h i = by_test xs at v h i (at == i) refl
