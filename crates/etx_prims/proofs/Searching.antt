-- A binary search in a table whose keys, lists of bytes, rise.
use Rattle.std.proofs.Common.{suc, zero, ◌≡◌, ◌≢◌, ℕ, ◌+◌, ◌<◌, ◌&&◌, List, [], ◌∷◌, length, get_or, Bool, true, false, refl, sym, ◌∙◌, ap, subst, arith, inl, inr}
use Rattle.std.specs.declared.cmp.Ordering.{Ordering}
use Rattle.std.specs.declared.cmp.Ordering.TheVariants.{Less, Equal, Greater}
use Rattle.std.specs.Ordering.{nat_cmp, is_lt, ordering_reverse}
use Rattle.std.specs.Cmp.Lexicographic.{slice_cmp}
use Rattle.std.specs.List.{All}
use Rattle.std.specs.List.Sorted.{IsSortedByKey, IsPartitionPoint}
use Rattle.std.proofs.lemmas.Cmp.{nat_list_cmp_total, tied_itself}
use Rattle.std.proofs.lemmas.Bool.{cases_lt, and_parts}

not_back : (o : Ordering) → is_lt o ≡ true → is_lt (ordering_reverse o) ≡ false
not_back Less e = refl
not_back Equal e = cc
not_back Greater e = cc

is_less : (o : Ordering) → is_lt o ≡ true → o ≡ Less
is_less Less e = refl
is_less Equal e = cc
is_less Greater e = cc

not_less : (a b : List ℕ) → a ≡ b → slice_cmp nat_cmp a b ≡ Less → ⊥
not_less a b e less =
    let same : slice_cmp nat_cmp a b ≡ Equal = subst (λ (c : List ℕ). slice_cmp nat_cmp a c ≡ Equal) e (tied_itself nat_list_cmp_total a) in
    cc

module _ {X : Type 0} (key : X → List ℕ) where
  -- x's key is below the first, and each key is below the next
  abbrev pub rises_from : X → List X → Bool
  rises_from x [] = true
  rises_from x (y ∷ ys) = is_lt (slice_cmp nat_cmp (key x) (key y)) && rises_from y ys

  pub IsSortedByKey-rises : (x : X) (xs : List X) → rises_from x xs ≡ true → IsSortedByKey key (slice_cmp nat_cmp) (x ∷ xs)
  IsSortedByKey-rises x [] r k d low high = absurd (omega arith)
  IsSortedByKey-rises x (y ∷ ys) r zero d low high =
      let both = and_parts (is_lt (slice_cmp nat_cmp (key x) (key y))) (rises_from y ys) r in
      ap is_lt (nat_list_cmp_total.antisymm (key y) (key x)) ∙ not_back (slice_cmp nat_cmp (key x) (key y)) both.0
  IsSortedByKey-rises x (y ∷ ys) r (suc k) d low high =
      let both = and_parts (is_lt (slice_cmp nat_cmp (key x) (key y))) (rises_from y ys) r in
      let e : suc k + 1 ≡ suc (k + 1) = omega arith in
      rw e (IsSortedByKey-rises y ys both.1 k d (omega arith) (omega arith))

  -- where a search splits the table round a list of bytes, no key is that list
  pub All-split : (wanted : List ℕ) (xs : List X) (i : ℕ)
      → IsPartitionPoint (λ y. slice_cmp nat_cmp (key y) wanted ≡ Less) (λ y. slice_cmp nat_cmp (key y) wanted ≡ Greater) xs i
      → All (λ y. wanted ≢ key y) xs
  All-split wanted xs i split k d high e =
      let same : slice_cmp nat_cmp (key (get_or xs k d)) wanted ≡ Equal =
      subst (λ (w : List ℕ). slice_cmp nat_cmp w wanted ≡ Equal) e (tied_itself nat_list_cmp_total wanted) in
      elim (cases_lt k i) [
        | inl below ↦ let less = split.0 k d (omega arith) below in cc
        | inr above ↦ let greater = split.1 k d above high in cc
      ]

  less_than : (x : X) (xs : List X) → rises_from x xs ≡ true → (j : ℕ) (d : X) → j < length xs → slice_cmp nat_cmp (key x) (key (get_or xs j d)) ≡ Less
  less_than x [] r j d within = absurd (omega arith)
  less_than x (y ∷ ys) r zero d within = is_less (slice_cmp nat_cmp (key x) (key y)) (and_parts (is_lt (slice_cmp nat_cmp (key x) (key y))) (rises_from y ys) r).0
  less_than x (y ∷ ys) r (suc j) d within =
      let both = and_parts (is_lt (slice_cmp nat_cmp (key x) (key y))) (rises_from y ys) r in
      nat_list_cmp_total.trans (key x) (key y) (key (get_or ys j d)) (is_less (slice_cmp nat_cmp (key x) (key y)) both.0) (less_than y ys both.1 j d (omega arith))

  -- two elements with one key are one
  pub same_key : (x : X) (xs : List X) → rises_from x xs ≡ true → (i j : ℕ) (p q : X) → i < length (x ∷ xs) → j < length (x ∷ xs)
      → get_or (x ∷ xs) i p ≡ p → get_or (x ∷ xs) j q ≡ q → key p ≡ key q → p ≡ q
  same_key x xs r zero zero p q hi hj at_i at_j e = sym at_i ∙ at_j
  same_key x xs r zero (suc j) p q hi hj at_i at_j e =
      absurd (not_less (key x) (key (get_or xs j q)) (ap key at_i ∙ e ∙ sym (ap key at_j)) (less_than x xs r j q (omega arith)))
  same_key x xs r (suc i) zero p q hi hj at_i at_j e =
      absurd (not_less (key x) (key (get_or xs i p)) (ap key at_j ∙ sym e ∙ sym (ap key at_i)) (less_than x xs r i p (omega arith)))
  same_key x [] r (suc i) (suc j) p q hi hj at_i at_j e = absurd (omega arith)
  same_key x (y ∷ ys) r (suc i) (suc j) p q hi hj at_i at_j e =
      let both = and_parts (is_lt (slice_cmp nat_cmp (key x) (key y))) (rises_from y ys) r in
      same_key y ys both.1 i j p q (omega arith) (omega arith) at_i at_j e
