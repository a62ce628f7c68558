-- The number of a row is its place in the list of all rows.
use Rattle.std.proofs.Common.{◌≡◌, ℕ, zero, suc, ◌+◌, cond, true, false, int_le, ℤ, pos, ◌+ℤ◌, List, [], ◌∷◌, ◌++◌, length, Option, Some, None, refl, subst, arith}
use Rattle.std.specs.Prelude.{unsigned_abs}
use Rattle.etx_linebreak.specs.Passes.{PassState, break_count}
use Rattle.etx_linebreak.specs.declared.row.Row.{Row}
use Rattle.etx_linebreak.specs.declared.row.Candidate.{Candidate}
use Rattle.std.specs.List.{filter}
use Rattle.etx_linebreak.specs.Rows.{row_of, row_if, rows_within, kept_at, kept_rows, by_class, least_after, bests_after, no_bests, is_in, last_resort, made_in, made_before, made}
use Rattle.etx_linebreak.specs.Table.{IsNumbered, flat, live, rows_at, rows_to, table}

append : (n : ℕ) (xs ys : List Row) → IsNumbered n xs → IsNumbered (n + length xs) ys → IsNumbered n (xs ++ ys)
append n [] ys a b = let P : ℕ → Type 0 = λ k. IsNumbered k ys in let e : n + 0 ≡ n = omega arith in subst P e b
append n (x ∷ xs) ys a b =
    let P : ℕ → Type 0 = λ k. IsNumbered k ys in
    let e : n + length (x ∷ xs) ≡ suc n + length xs = omega arith in
    (a.0, append (suc n) xs ys a.1 (subst P e b))

of_if : (j : ℕ) (limit : ℤ) (n : ℕ) (it : Option Candidate) → IsNumbered n (row_if j limit n it)
unfolding row_if
of_if j limit n None = tt
of_if j limit n (Some it) = elim (int_le it.total limit) as (λ b. IsNumbered n (cond b (row_of j n it ∷ []) [])) [ true ↦ (refl, tt) | false ↦ tt ]

of_within : (j : ℕ) (limit : ℤ) (n : ℕ) (its : List (Option Candidate)) → IsNumbered n (rows_within j limit n its)
unfolding rows_within
of_within j limit n [] = tt
of_within j limit n (it ∷ its) = append n (row_if j limit n it) _ (of_if j limit n it) (of_within j limit (n + length (row_if j limit n it)) its)

of_kept : (far j : ℕ) (least : Option ℤ) (n : ℕ) (its : List (Option Candidate)) → IsNumbered n (kept_at far j least n its)
unfolding kept_at
of_kept far j None n its = tt
of_kept far j (Some least) n its = of_within j (least +ℤ pos far) n its

of_groups : (p : PassState) (j : ℕ) (resort : Option ℕ) (n m : ℕ) (rows : List Row) → IsNumbered n (made_before p j resort n m rows)
unfolding made_before made_in kept_rows
of_groups p j resort n zero rows = tt
of_groups p j resort n (suc m) rows =
    let front = made_before p j resort n m rows in
    let bests = by_class (bests_after p j resort no_bests (filter (is_in p m) rows)) in
    append n front _ (of_groups p j resort n m rows) (of_kept (unsigned_abs p.paragraph.params.breaks.adj_demerits) j (least_after None bests) (n + length front) bests)

of_rows : (p : PassState) (k : ℕ) → IsNumbered 0 (flat (rows_to p k))
unfolding rows_to rows_at made flat
of_rows p zero = (refl, tt)
of_rows p (suc k) =
    let rows = rows_to p k in
    let n : ℕ = length (flat rows) in
    let new = made_before p (suc k) (last_resort p (suc k) (live p (suc k) rows)) n (suc p.easy) (live p (suc k) rows) in
    let P : ℕ → Type 0 = λ i. IsNumbered i new in
    let e : n ≡ 0 + n = omega arith in
    append 0 (flat rows) new (of_rows p k) (subst P e (of_groups p (suc k) _ n (suc p.easy) (live p (suc k) rows)))

pub of_table : (p : PassState) → IsNumbered 0 (table p)
unfolding table
of_table p = of_rows p (break_count p)
