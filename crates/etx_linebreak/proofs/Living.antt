-- The active list is the live rows of the table, in their order.
use Rattle.std.proofs.Common.{◌≡◌, ℕ, zero, suc, ◌+◌, ◌<◌, ◌≤◌, Bool, true, false, ◌&&◌, cond, nat_le, List, [], ◌∷◌, ◌++◌, length, Option, refl, sym, ap, ◌∙◌, arith}
use Rattle.std.proofs.lemmas.Bool.{le-leb, lt-leb, le-ltb, ne_eqb}
use Rattle.std.proofs.lemmas.List.Elements.{filter-append}
use Rattle.std.specs.List.{filter}
use Rattle.etx_linebreak.specs.Passes.{PassState}
use Rattle.etx_linebreak.specs.declared.row.Row.{Row}
use Rattle.etx_linebreak.specs.Rows.{stays, last_resort, is_in, made_in, made_before, made}
use Rattle.etx_linebreak.specs.Runs.{IsInGroups, next_before, next_of}
use Rattle.etx_linebreak.specs.Table.{opening, is_live, is_line, is_above, flat, of_line, above, lines_before, in_order, live, rows_at, rows_to}
use Rattle.etx_linebreak.proofs.Filters.{Each, each_map, each_append, each_filter, filter_all, filter_swap, join_more, join_last}
use Rattle.etx_linebreak.proofs.Making.{made_place, no_first_line, next_line, lines_above}
use Rattle.etx_linebreak.proofs.Ordering.{group_line, group_last, ascends}

abbrev pub IsBefore : ℕ → Row → Type 0
IsBefore j r = r.break_number < j

abbrev pub AllBefore : ℕ → List (List Row) → Type 0
AllBefore j [] = Unit {0}
AllBefore j (rs ∷ rows) = Each (IsBefore j) rs × AllBefore j rows

before_more : (j : ℕ) (rows : List (List Row)) → AllBefore j rows → AllBefore (suc j) rows
before_more j [] h = tt
before_more j (rs ∷ rows) h = (each_map (IsBefore j) (IsBefore (suc j)) rs (λ r lt. omega (arith, lt)) h.0, before_more j rows h.1)

rows_before : (p : PassState) (k : ℕ) → AllBefore (suc k) (rows_to p k)
unfolding rows_to rows_at made
rows_before p zero = ((omega arith, tt), tt)
rows_before p (suc k) =
    let rows = rows_to p k in (
      each_map (λ r. r.break_number ≡ suc k) (IsBefore (suc (suc k))) _ (λ r e. omega (arith, e))
          (made_place p (suc k) (last_resort p (suc k) (live p (suc k) rows)) (length (flat rows)) (suc p.easy) (live p (suc k) rows)),
      before_more (suc k) rows (rows_before p k),
    )

line_before : (j l : ℕ) (rows : List (List Row)) → AllBefore j rows → Each (IsBefore j) (of_line l rows)
unfolding of_line
line_before j l [] h = tt
line_before j l (rs ∷ rows) h = each_append (IsBefore j) (filter (is_line l) rs) (of_line l rows) (each_filter (IsBefore j) (is_line l) rs h.0) (line_before j l rows h.1)

above_before : (j l : ℕ) (rows : List (List Row)) → AllBefore j rows → Each (IsBefore j) (above l rows)
unfolding above
above_before j l [] h = tt
above_before j l (rs ∷ rows) h = each_append (IsBefore j) (above l rows) (filter (is_above l) rs) (above_before j l rows h.1) (each_filter (IsBefore j) (is_above l) rs h.0)

-- a row is live up to the first break behind its own
fresh : (p : PassState) (m : ℕ) (r : Row) → m ≤ r.break_number + 1 → is_live p m r ≡ true
unfolding is_live
fresh p zero r h = refl
fresh p (suc m) r h =
    let old : is_live p m r ≡ true = fresh p m r (omega (arith, h)) in
    let test : nat_le m r.break_number ≡ true = le-leb m r.break_number (omega (arith, h)) in
    rw (old, test) refl

fresh_all : (p : PassState) (j : ℕ) (rs : List Row) → Each (λ r. r.break_number ≡ j) rs → filter (is_live p (suc j)) rs ≡ rs
fresh_all p j rs h = filter_all (is_live p (suc j)) rs (each_map (λ r. r.break_number ≡ j) (λ r. is_live p (suc j) r ≡ true) rs (λ r e. fresh p (suc j) r (omega (arith, e))) h)

live_step : (p : PassState) (j : ℕ) (r : Row) → r.break_number < j → is_live p (suc j) r ≡ (is_live p j r && stays p j r)
unfolding is_live stays
live_step p j r h =
    let test : nat_le j r.break_number ≡ false = lt-leb j r.break_number h in
    rw test refl

live_on : (p : PassState) (j : ℕ) (rs : List Row) → Each (IsBefore j) rs → filter (is_live p (suc j)) rs ≡ filter (stays p j) (filter (is_live p j) rs)
live_on p j [] h = refl
live_on p j (r ∷ rs) h = rw (live_step p j r h.0) (by (is_live p j r) (stays p j r) refl _ (filter (is_live p j) rs) (live_on p j rs h.1))
  where
    by : (a b : Bool) → stays p j r ≡ b → (all some : List Row) → all ≡ filter (stays p j) some
        → cond (a && b) (r ∷ all) all ≡ filter (stays p j) (cond a (r ∷ some) some)
    by true true e all some k = rw e (ap (λ (xs : List Row). r ∷ xs) k)
    by true false e all some k = rw e k
    by false b e all some k = k

-- from the live rows at a break to those at the next one
module _ (p : PassState) (j : ℕ) (rows : List (List Row)) (h : AllBefore j rows) where
  group_now : (g : ℕ) → g < p.easy → filter (is_in p g) (live p j rows) ≡ filter (is_live p j) (of_line g rows)
  unfolding live
  group_now g lt = filter_swap (is_in p g) (is_live p j) (in_order p.easy rows) ∙ ap (filter (is_live p j)) (group_line p rows g lt)

  last_now : filter (is_in p p.easy) (live p j rows) ≡ filter (is_live p j) (of_line p.easy rows) ++ filter (is_live p j) (above p.easy rows)
  unfolding live
  last_now =
      filter_swap (is_in p p.easy) (is_live p j) (in_order p.easy rows) ∙ ap (filter (is_live p j)) (group_last p rows)
      ∙ filter-append (is_live p j) (of_line p.easy rows) (above p.easy rows)

  line_on : (g : ℕ) → filter (is_live p (suc j)) (of_line g rows) ≡ filter (stays p j) (filter (is_live p j) (of_line g rows))
  line_on g = live_on p j (of_line g rows) (line_before j g rows h)

  above_on : filter (is_live p (suc j)) (above p.easy rows) ≡ filter (stays p j) (filter (is_live p j) (above p.easy rows))
  above_on = live_on p j (above p.easy rows) (above_before j p.easy rows h)

  module _ (resort : Option ℕ) (n : ℕ) where
    abbrev new : List Row
    new = made_before p j resort n (suc p.easy) (live p j rows)

    new_live : (t : Row → Bool) → filter (is_live p (suc j)) (filter t new) ≡ filter t new
    new_live t = fresh_all p j (filter t new) (each_filter (λ r. r.break_number ≡ j) t new (made_place p j resort n (suc p.easy) (live p j rows)))

    -- the next live rows of the lines before one, and the new ones of that line
    lines_on : (l : ℕ) → l ≤ p.easy
        → filter (is_live p (suc j)) (lines_before l (new ∷ rows)) ++ filter (is_line l) new ≡ next_before p j resort n l (live p j rows)
    unfolding lines_before of_line next_before
    lines_on zero le = no_first_line p j resort n (live p j rows)
    lines_on (suc l) le =
        let old = lines_before l (new ∷ rows) in
        let front = filter (is_live p (suc j)) old in
        let stay = filter (stays p j) (filter (is_live p j) (of_line l rows)) in
        ap (λ (xs : List Row). xs ++ filter (is_line (suc l)) new)
        (filter-append (is_live p (suc j)) old (filter (is_line l) new ++ of_line l rows)
        ∙ ap (λ (xs : List Row). front ++ xs)
        (filter-append (is_live p (suc j)) (filter (is_line l) new) (of_line l rows)
        ∙ ap (λ (xs : List Row). xs ++ filter (is_live p (suc j)) (of_line l rows)) (new_live (is_line l))
        ∙ ap (λ (xs : List Row). filter (is_line l) new ++ xs) (line_on l)))
        ∙ join_more front (filter (is_line l) new) stay (filter (is_line (suc l)) new) _ (lines_on l (omega (arith, le)))
        ∙ ap (λ (xs : List Row). next_before p j resort n l (live p j rows) ++ xs)
        (ap (λ (xs : List Row). stay ++ xs) (next_line p j resort n (live p j rows) l (omega (arith, le)))
        ∙ ap (λ (xs : List Row). filter (stays p j) xs ++ made_in p j resort (n + length (made_before p j resort n l (live p j rows))) l (live p j rows))
        (sym (group_now l (omega (arith, le)))))

    all_on : filter (is_live p (suc j)) (in_order p.easy (new ∷ rows)) ≡ next_before p j resort n (suc p.easy) (live p j rows)
    unfolding in_order lines_before of_line above next_before
    all_on =
        let l : ℕ = p.easy in
        let old = lines_before l (new ∷ rows) in
        let front = filter (is_live p (suc j)) old in
        let stay = filter (stays p j) (filter (is_live p j) (of_line l rows)) in
        let stay_above = filter (stays p j) (filter (is_live p j) (above l rows)) in
        filter-append (is_live p (suc j)) (old ++ (filter (is_line l) new ++ of_line l rows)) (above l rows ++ filter (is_above l) new)
        ∙ ap (λ (xs : List Row). xs ++ filter (is_live p (suc j)) (above l rows ++ filter (is_above l) new))
        (filter-append (is_live p (suc j)) old (filter (is_line l) new ++ of_line l rows)
        ∙ ap (λ (xs : List Row). front ++ xs)
        (filter-append (is_live p (suc j)) (filter (is_line l) new) (of_line l rows)
        ∙ ap (λ (xs : List Row). xs ++ filter (is_live p (suc j)) (of_line l rows)) (new_live (is_line l))
        ∙ ap (λ (xs : List Row). filter (is_line l) new ++ xs) (line_on l)))
        ∙ ap (λ (xs : List Row). front ++ (filter (is_line l) new ++ stay) ++ xs)
        (filter-append (is_live p (suc j)) (above l rows) (filter (is_above l) new)
        ∙ ap (λ (xs : List Row). xs ++ filter (is_live p (suc j)) (filter (is_above l) new)) above_on
        ∙ ap (λ (xs : List Row). stay_above ++ xs) (new_live (is_above l)))
        ∙ join_last front (filter (is_line l) new) stay stay_above (filter (is_above l) new) _ (lines_on l (omega arith))
        ∙ ap (λ (xs : List Row). next_before p j resort n l (live p j rows) ++ xs)
        (ap (λ (xs : List Row). stay ++ stay_above ++ xs) (lines_above p j resort n (live p j rows))
        ∙ ap (λ (xs : List Row). xs ++ made_in p j resort (n + length (made_before p j resort n l (live p j rows))) l (live p j rows))
        (sym (filter-append (stays p j) (filter (is_live p j) (of_line l rows)) (filter (is_live p j) (above l rows))) ∙ ap (filter (stays p j)) (sym last_now)))

-- the live rows at the next break are what the walk leaves
pub live_more : (p : PassState) (k : ℕ)
    → live p (suc (suc k)) (rows_to p (suc k)) ≡ next_of p (suc k) (length (flat (rows_to p k))) (live p (suc k) (rows_to p k))
unfolding rows_to rows_at made next_of live
live_more p k =
    all_on p (suc k) (rows_to p k) (rows_before p k) (last_resort p (suc k) (live p (suc k) (rows_to p k))) (length (flat (rows_to p k)))

pub rows_more : (p : PassState) (k : ℕ)
    → flat (rows_to p (suc k)) ≡ flat (rows_to p k) ++ made p (suc k) (length (flat (rows_to p k))) (live p (suc k) (rows_to p k))
unfolding rows_to rows_at flat
rows_more p k = refl

-- the opening row alone, in the order of rows
abbrev start : List (List Row)
start = (opening ∷ []) ∷ []

lines_start : (n : ℕ) → lines_before (suc (suc n)) start ≡ opening ∷ []
unfolding lines_before of_line
lines_start zero = refl
lines_start (suc n) =
    let other : is_line (suc (suc n)) opening ≡ false = ne_eqb 1 (suc (suc n)) (λ e. omega (arith, e)) in
    rw (lines_start n, other) refl

order_start : (easy : ℕ) → in_order easy start ≡ opening ∷ []
unfolding in_order lines_before of_line above
order_start zero = refl
order_start (suc n) =
    let low : is_above (suc n) opening ≡ false = le-ltb (suc n) 1 (omega arith) in
    ap (λ (xs : List Row). xs ++ above (suc n) start) (lines_start n) ∙ rw low refl

pub live_first : (p : PassState) → live p 1 (rows_to p 0) ≡ opening ∷ []
unfolding live rows_to
live_first p = ap (filter (is_live p 1)) (order_start p.easy) ∙ fresh_all p 0 (opening ∷ []) (refl, tt)

pub rows_first : (p : PassState) → flat (rows_to p 0) ≡ opening ∷ []
unfolding rows_to flat
rows_first p = refl

pub live_groups : (p : PassState) (j : ℕ) (rows : List (List Row)) → IsInGroups p 0 (live p j rows)
unfolding live
live_groups p j rows = ascends p (is_live p j) rows

-- one turn of the loop over the breaks
pub turn : (p : PassState) (k : ℕ) (rows active new_rows next : List Row)
    → rows ≡ flat (rows_to p k)
    → active ≡ live p (suc k) (rows_to p k)
    → new_rows ≡ rows ++ made p (k + 1) (length rows) active
    → next ≡ next_of p (k + 1) (length rows) active
    → (new_rows ≡ flat (rows_to p (k + 1))) × (next ≡ live p (suc (k + 1)) (rows_to p (k + 1)))
turn p k rows active new_rows next a b c d =
    let one : k + 1 ≡ suc k = omega arith in
    rw (one, c, d, a, b, one, live_more p k, rows_more p k) (refl, refl)
