-- A pass that is the last one always finds breaks: at each break some row stays, or one is made, if only by the artificial line.
use Rattle.std.proofs.Common.{◌∙◌, ap, ◌≡◌, ℕ, zero, suc, ◌+◌, ◌-◌, ◌<◌, ◌⊎◌, inl, inr, Bool, true, false, ◌&&◌, ◌||◌, cond, int_le, ℤ, pos, ◌+ℤ◌, List, [], ◌∷◌, ◌++◌, length, slice_get, Option, Some, None, refl, sym, subst, length-append, eq-eqb, arith}
use Rattle.std.specs.Prelude.{unsigned_abs, is_some, is_none}
use Rattle.std.specs.List.{filter, list_any}
use Rattle.std.proofs.lemmas.Bool.Decides.{leb_tells}
use Rattle.std.proofs.lemmas.Int.{ints}
use Rattle.etx_sealed.specs.Paragraphs.{is_zero}
use Rattle.etx_linebreak.specs.Passes.{PassState, break_count}
use Rattle.etx_linebreak.specs.declared.row.Class.{Class}
use Rattle.etx_linebreak.specs.declared.row.Class.TheVariants.{VeryLoose, Loose, Decent, Tight}
use Rattle.etx_linebreak.specs.declared.row.Row.{Row}
use Rattle.etx_linebreak.specs.declared.row.Candidate.{Candidate}
use Rattle.etx_linebreak.specs.declared.bests.Bests.{Bests}
use Rattle.etx_linebreak.specs.declared.chosen.Taken.{Taken}
use Rattle.etx_linebreak.specs.Choices.{last_rows, fewest, walked, is_same, looseness, good_enough, chosen_by, chosen, breaks_of, found}
use Rattle.etx_linebreak.specs.Lines.{measured}
use Rattle.etx_linebreak.specs.Rows.{number_in, closes, stays, offer, by_line, better, with_in, with_offer, is_number, gives_by, gives, bests_after, no_bests, by_class, lesser, least_after, row_if, rows_within, kept_at, kept_rows, is_empty, is_stuck, last_resort, group_of, is_in, made_in, made_before}
use Rattle.etx_linebreak.specs.Runs.{next_before, next_of}
use Rattle.etx_linebreak.specs.Table.{flat, live, rows_to, table}
use Rattle.etx_linebreak.proofs.Living.{live_first, live_more}
use Rattle.etx_linebreak.proofs.Walking.{is_in_yes}

-- one of these candidates costs at most so much
abbrev Fits : ℤ → List (Option Candidate) → Type 0
Fits limit [] = ⊥
Fits limit (None ∷ its) = Fits limit its
Fits limit (Some it ∷ its) = (int_le it.total limit ≡ true) ⊎ Fits limit its

fits_makes : (j : ℕ) (limit : ℤ) (n : ℕ) (its : List (Option Candidate)) → Fits limit its → 0 < length (rows_within j limit n its)
unfolding rows_within row_if
fits_makes j limit n [] h = absurd h
fits_makes j limit n (None ∷ its) h = fits_makes j limit (n + 0) its h
fits_makes j limit n (Some it ∷ its) (inl e) = rw e (omega arith)
fits_makes j limit n (Some it ∷ its) (inr h) =
    let front = row_if j limit n (Some it) in
    let more : 0 < length (rows_within j limit (n + length front) its) = fits_makes j limit (n + length front) its h in
    omega (arith, length-append front (rows_within j limit (n + length front) its), more)

at_most : (z : ℤ) → int_le z z ≡ true
at_most z = grind (arith, ints)

far_more : (x m : ℤ) (far : ℕ) → int_le x m ≡ true → int_le x (m +ℤ pos far) ≡ true
far_more x m far h = grind (arith, ints)

fits_more : (m : ℤ) (far : ℕ) (its : List (Option Candidate)) → Fits m its → Fits (m +ℤ pos far) its
fits_more m far [] h = absurd h
fits_more m far (None ∷ its) h = fits_more m far its h
fits_more m far (Some it ∷ its) (inl e) = inl (far_more it.total m far e)
fits_more m far (Some it ∷ its) (inr h) = inr (fits_more m far its h)

-- the least total of some, which is that with which it began or that of one of them
record Least (least : Option ℤ) (its : List (Option Candidate)) : Type 0 where
  total : ℤ
  is : least_after least its ≡ Some total
  comes : (least ≡ Some total) ⊎ Fits total its

least_from : (x : ℤ) (its : List (Option Candidate)) → Least (Some x) its
unfolding least_after lesser
least_from x [] = record { total = x; is = refl; comes = inl refl }
least_from x (None ∷ its) = let l : Least (Some x) its = least_from x its in record { total = l.total; is = l.is; comes = l.comes }
least_from x (Some it ∷ its) = by (λ z. least_from z its) (int_le it.total x) refl
  where
    here : (t : ℤ) → Some it.total ≡ Some t → int_le it.total t ≡ true
    here t e = let same : it.total ≡ t = cc in subst (λ (z : ℤ). int_le it.total z ≡ true) same (at_most it.total)

    by : ((z : ℤ) → Least (Some z) its) → (b : Bool) → int_le it.total x ≡ b → Least (Some x) (Some it ∷ its)
    by on true e =
        let l : Least (Some it.total) its = on it.total in
        record { total = l.total; is = rw e l.is; comes = elim l.comes [ inl q ↦ inr (inl (here l.total q)) | inr h ↦ inr (inr h) ] }
    by on false e =
        let l : Least (Some x) its = on x in
        record { total = l.total; is = rw e l.is; comes = elim l.comes [ inl q ↦ inl q | inr h ↦ inr (inr h) ] }

record Cheapest (its : List (Option Candidate)) : Type 0 where
  total : ℤ
  is : least_after None its ≡ Some total
  fits : Fits total its

cheapest : (its : List (Option Candidate)) → list_any is_some its ≡ true → Cheapest its
unfolding least_after lesser
cheapest [] h = absurd cc
cheapest (None ∷ its) h = let c : Cheapest its = cheapest its h in record { total = c.total; is = c.is; fits = c.fits }
cheapest (Some it ∷ its) h =
    let l : Least (Some it.total) its = least_from it.total its in
    record { total = l.total; is = l.is; fits = elim l.comes [ inl q ↦ inl (here l.total q) | inr f ↦ inr f ] }
  where
    here : (t : ℤ) → Some it.total ≡ Some t → int_le it.total t ≡ true
    here t e = let same : it.total ≡ t = cc in subst (λ (z : ℤ). int_le it.total z ≡ true) same (at_most it.total)

-- there is a best one of some class
abbrev has : Bests → Bool
has b = list_any is_some (by_class b)

kept_some : (p : PassState) (j n : ℕ) (b : Bests) → has b ≡ true → 0 < length (kept_rows p j n b)
unfolding kept_rows kept_at
kept_some p j n b h =
    let c : Cheapest (by_class b) = cheapest (by_class b) h in
    let far : ℕ = unsigned_abs p.paragraph.params.breaks.adj_demerits in
    rw c.is (fits_makes j (c.total +ℤ pos far) n (by_class b) (fits_more c.total far (by_class b) c.fits))

or_true : (x : Bool) → (x || true) ≡ true
or_true true = refl
or_true false = refl

or_more : (x y : Bool) → y ≡ true → (x || y) ≡ true
or_more true y e = refl
or_more false y e = e

better_some : (old : Option Candidate) (new : Candidate) → is_some (better old new) ≡ true
unfolding better
better_some None new = refl
better_some (Some old) new = elim (int_le new.total old.total) as (λ b. is_some (cond b (Some new) (Some old)) ≡ true) [ true ↦ refl | false ↦ refl ]

has_with : (class : Class) (b : Bests) (new : Candidate) → has (with_in class b new) ≡ true
unfolding by_class
has_with VeryLoose b new = rw (better_some b.very_loose new) refl
has_with Loose b new = rw (better_some b.loose new) (or_true (is_some b.very_loose))
has_with Decent b new = rw (better_some b.decent new) (or_more (is_some b.very_loose) _ (or_true (is_some b.loose)))
has_with Tight b new = rw (better_some b.tight new) (or_more (is_some b.very_loose) _ (or_more (is_some b.loose) _ (or_true (is_some b.decent))))

has_offer : (b : Bests) (it : Option Candidate) → has b ≡ true → has (with_offer b it) ≡ true
unfolding with_offer
has_offer b None h = h
has_offer b (Some new) h = has_with new.class b new

module _ (p : PassState) (j : ℕ) (resort : Option ℕ) where
  abbrev gives_some : Row → Bool
  gives_some r = is_some (gives p j resort r)

  bests_have : (b : Bests) (rs : List Row) → has b ≡ true → has (bests_after p j resort b rs) ≡ true
  unfolding bests_after
  bests_have b [] h = h
  bests_have b (r ∷ rs) h = bests_have (with_offer b (gives p j resort r)) rs (has_offer b (gives p j resort r) h)

  bests_by : (b : Bests) (rs : List Row) → (list_any gives_some rs ≡ true → has (bests_after p j resort b rs) ≡ true)
      → (it : Option Candidate) → (is_some it || list_any gives_some rs) ≡ true → has (bests_after p j resort (with_offer b it) rs) ≡ true
  unfolding with_offer
  bests_by b rs on None k = on k
  bests_by b rs on (Some new) k = bests_have (with_in new.class b new) rs (has_with new.class b new)

  bests_get : (b : Bests) (rs : List Row) → list_any gives_some rs ≡ true → has (bests_after p j resort b rs) ≡ true
  unfolding bests_after
  bests_get b [] h = absurd cc
  bests_get b (r ∷ rs) h = bests_by b rs (λ k. bests_get b rs k) (gives p j resort r) h

  made_some : (n g : ℕ) (rows : List Row) → list_any gives_some (filter (is_in p g) rows) ≡ true → 0 < length (made_in p j resort n g rows)
  unfolding made_in
  made_some n g rows h =
      kept_some p j n (bests_after p j resort no_bests (filter (is_in p g) rows)) (bests_get no_bests (filter (is_in p g) rows) h)

stay_some : (t : Row → Bool) (rs : List Row) → list_any t rs ≡ true → 0 < length (filter t rs)
stay_some t [] h = absurd cc
stay_some t (r ∷ rs) h = by (λ k. stay_some t rs k) (t r) h
  where
    by : (list_any t rs ≡ true → 0 < length (filter t rs)) → (b : Bool) → (b || list_any t rs) ≡ true → 0 < length (cond b (r ∷ filter t rs) (filter t rs))
    by on true k = omega arith
    by on false k = on k

-- a row that passes a test is in a group
record Grouped (p : PassState) (t : Row → Bool) (rs : List Row) : Type 0 where
  group : ℕ
  bound : group < suc p.easy
  any : list_any t (filter (is_in p group) rs) ≡ true

own_group : (p : PassState) (r : Row) → group_of p r < suc p.easy
unfolding group_of
own_group p r = omega arith

grouped : (p : PassState) (t : Row → Bool) (rs : List Row) → list_any t rs ≡ true → Grouped p t rs
grouped p t [] h = absurd cc
grouped p t (r ∷ rs) h = by (λ k. grouped p t rs k) (t r) refl h
  where
    by : (list_any t rs ≡ true → Grouped p t rs) → (b : Bool) → t r ≡ b → (b || list_any t rs) ≡ true → Grouped p t (r ∷ rs)
    by on true e k = record { group = group_of p r; bound = own_group p r; any = rw (is_in_yes p (group_of p r) r refl, e) refl }
    by on false e k =
        let g : Grouped p t rs = on k in
        let some = filter (is_in p g.group) rs in
        record {
          group = g.group;
          bound = g.bound;
          any = elim (is_in p g.group r) as (λ b. list_any t (cond b (r ∷ some) some) ≡ true) [ true ↦ or_more (t r) (list_any t some) g.any | false ↦ g.any ];
        }

module _ (p : PassState) (j : ℕ) (resort : Option ℕ) (n : ℕ) (rows : List Row) where
  same_or_less : (g m : ℕ) → g < suc m → (m ≡ g) ⊎ (g < m)
  same_or_less g m lt = elim (leb_tells m g) [ inl l ↦ inl (omega (arith, l.1, lt)) | inr l ↦ inr l.1 ]

  abbrev left_by : ℕ → List Row
  left_by g = filter (stays p j) (filter (is_in p g) rows) ++ made_in p j resort (n + length (made_before p j resort n g rows)) g rows

  -- what one group leaves is left in the end
  next_some : (g m : ℕ) → g < m → 0 < length (left_by g) → 0 < length (next_before p j resort n m rows)
  unfolding next_before
  next_some g zero lt h = absurd (omega (arith, lt))
  next_some g (suc m) lt h = elim (same_or_less g m lt) [
    | inl e ↦
        let here : 0 < length (left_by m) = subst (λ (k : ℕ). 0 < length (left_by k)) (sym e) h in
        omega (arith, length-append (next_before p j resort n m rows) (left_by m), here)
    | inr l ↦
        let front : 0 < length (next_before p j resort n m rows) = next_some g m l h in
        omega (arith, length-append (next_before p j resort n m rows) (left_by m), front)
  ]

  by_stay : list_any (stays p j) rows ≡ true → 0 < length (next_before p j resort n (suc p.easy) rows)
  by_stay h =
      let g : Grouped p (stays p j) rows = grouped p (stays p j) rows h in
      let front = filter (stays p j) (filter (is_in p g.group) rows) in
      let some : 0 < length front = stay_some (stays p j) (filter (is_in p g.group) rows) g.any in
      next_some g.group (suc p.easy) g.bound (omega (arith, some, length-append front (made_in p j resort (n + length (made_before p j resort n g.group rows)) g.group rows)))

  by_gift : list_any (gives_some p j resort) rows ≡ true → 0 < length (next_before p j resort n (suc p.easy) rows)
  by_gift h =
      let g : Grouped p (gives_some p j resort) rows = grouped p (gives_some p j resort) rows h in
      let new = made_in p j resort (n + length (made_before p j resort n g.group rows)) g.group rows in
      let some : 0 < length new = made_some p j resort (n + length (made_before p j resort n g.group rows)) g.group rows g.any in
      next_some g.group (suc p.easy) g.bound (omega (arith, some, length-append (filter (stays p j) (filter (is_in p g.group) rows)) new))

-- a row that offers a candidate gives one
gives_offered : (p : PassState) (j : ℕ) (resort : Option ℕ) (r : Row) → is_none (offer p j r) ≡ false → is_some (gives p j resort r) ≡ true
unfolding gives_by
gives_offered p j resort r h =
    elim (is_number r.number resort) as (λ b. is_some (cond b (Some (by_line r (measured p j r) r.total)) (offer p j r)) ≡ true)
    [ true ↦ refl | false ↦ some (offer p j r) h ]
  where
    some : (it : Option Candidate) → is_none it ≡ false → is_some it ≡ true
    some None k = absurd cc
    some (Some it) k = refl

-- where the rows aren't stuck, one stays or gives a candidate
not_stuck : (p : PassState) (j : ℕ) (resort : Option ℕ) (rows : List Row) → is_stuck p j rows ≡ false
    → (list_any (stays p j) rows ≡ true) ⊎ (list_any (gives_some p j resort) rows ≡ true)
unfolding is_stuck stays
not_stuck p j resort [] h = absurd cc
not_stuck p j resort (r ∷ rs) h = by (λ k. not_stuck p j resort rs k) (closes p j r) refl (is_empty rs || is_none (offer p j r)) refl h
  where
    offers : (x y : Bool) → (x || y) ≡ false → y ≡ false
    offers true y e = absurd cc
    offers false y e = e

    more : (list_any (stays p j) rs ≡ true) ⊎ (list_any (gives_some p j resort) rs ≡ true)
        → (list_any (stays p j) (r ∷ rs) ≡ true) ⊎ (list_any (gives_some p j resort) (r ∷ rs) ≡ true)
    more (inl s) = inl (or_more (stays p j r) (list_any (stays p j) rs) s)
    more (inr s) = inr (or_more (gives_some p j resort r) (list_any (gives_some p j resort) rs) s)

    by : (is_stuck p j rs ≡ false → (list_any (stays p j) rs ≡ true) ⊎ (list_any (gives_some p j resort) rs ≡ true))
        → (a : Bool) → closes p j r ≡ a → (b : Bool) → (is_empty rs || is_none (offer p j r)) ≡ b → (a && b && is_stuck p j rs) ≡ false
        → (list_any (stays p j) (r ∷ rs) ≡ true) ⊎ (list_any (gives_some p j resort) (r ∷ rs) ≡ true)
    by on false e b f k = inl (rw e refl)
    by on true e false f k = inr (rw (gives_offered p j resort r (offers (is_empty rs) (is_none (offer p j r)) f)) refl)
    by on true e true f k = more (on k)

-- the last row of a list passes a test
record Last (r : Row) (rs : List Row) : Type 0 where
  last : Row
  is : slice_get (r ∷ rs) (length rs) ≡ Some last
  any : (t : Row → Bool) → t last ≡ true → list_any t (r ∷ rs) ≡ true

last_of : (r : Row) (rs : List Row) → Last r rs
last_of r [] = record { last = r; is = refl; any = λ t e. rw e refl }
last_of r (s ∷ rs) =
    let l : Last s rs = last_of s rs in
    record { last = l.last; is = l.is; any = λ t e. or_more (t r) (list_any t (s ∷ rs)) (l.any t e) }

gives_itself : (p : PassState) (j : ℕ) (r : Row) → is_some (gives p j (Some r.number) r) ≡ true
unfolding gives_by
gives_itself p j r = rw (eq-eqb r.number r.number refl) refl

resort_is : (p : PassState) (j : ℕ) (r : Row) (rs : List Row) (last : Row) → p.is_final ≡ true → is_stuck p j (r ∷ rs) ≡ true
    → slice_get (r ∷ rs) (length rs) ≡ Some last → last_resort p j (r ∷ rs) ≡ Some last.number
unfolding last_resort
resort_is p j r rs last f e l =
    let one : length (r ∷ rs) - 1 ≡ length rs = omega arith in
    ap (λ (b : Bool). cond (b && is_stuck p j (r ∷ rs)) (number_in (slice_get (r ∷ rs) (length (r ∷ rs) - 1))) None) f
    ∙ ap (λ (b : Bool). cond b (number_in (slice_get (r ∷ rs) (length (r ∷ rs) - 1))) None) e
    ∙ ap (λ (n : ℕ). number_in (slice_get (r ∷ rs) n)) one
    ∙ ap number_in l

stuck_gives : (p : PassState) (j : ℕ) (r : Row) (rs : List Row) → p.is_final ≡ true → is_stuck p j (r ∷ rs) ≡ true
    → list_any (gives_some p j (last_resort p j (r ∷ rs))) (r ∷ rs) ≡ true
stuck_gives p j r rs f e =
    let l : Last r rs = last_of r rs in
    subst (λ (resort : Option ℕ). list_any (gives_some p j resort) (r ∷ rs) ≡ true) (sym (resort_is p j r rs l.last f e l.is))
    (l.any (gives_some p j (Some l.last.number)) (gives_itself p j l.last))

final_leaves : (p : PassState) (j n : ℕ) (rows : List Row) → p.is_final ≡ true → 0 < length rows → 0 < length (next_of p j n rows)
unfolding next_of
final_leaves p j n [] f h = absurd (omega (arith, h))
final_leaves p j n (r ∷ rs) f h = by (is_stuck p j (r ∷ rs)) refl
  where
    by : (b : Bool) → is_stuck p j (r ∷ rs) ≡ b → 0 < length (next_before p j (last_resort p j (r ∷ rs)) n (suc p.easy) (r ∷ rs))
    by true e = by_gift p j (last_resort p j (r ∷ rs)) n (r ∷ rs) (stuck_gives p j r rs f e)
    by false e = elim (not_stuck p j (last_resort p j (r ∷ rs)) (r ∷ rs) e) [
      | inl s ↦ by_stay p j (last_resort p j (r ∷ rs)) n (r ∷ rs) s
      | inr s ↦ by_gift p j (last_resort p j (r ∷ rs)) n (r ∷ rs) s
    ]

live_some : (p : PassState) (k : ℕ) → p.is_final ≡ true → 0 < length (live p (suc k) (rows_to p k))
live_some p zero f = rw (live_first p) (omega arith)
live_some p (suc k) f = rw (live_more p k) (final_leaves p (suc k) (length (flat (rows_to p k))) (live p (suc k) (rows_to p k)) f (live_some p k f))

-- on the final pass any number of lines is good enough
some_good : (p : PassState) (it : Taken) → p.is_final ≡ true → is_some (good_enough p it) ≡ true
some_good p it f =
    ap (λ (b : Bool). is_some (cond (is_same it.off (looseness p) || b) (Some it.row) None)) f
    ∙ ap (λ (b : Bool). is_some (cond b (Some it.row) None)) (or_true (is_same it.off (looseness p)))

chosen_some : (p : PassState) (rows : List Row) → p.is_final ≡ true → 0 < length rows → is_some (chosen p rows) ≡ true
unfolding chosen chosen_by
chosen_some p [] f h = absurd (omega (arith, h))
chosen_some p (r ∷ rs) f h =
    let best : Row = fewest r rs in
    let it : Taken = walked (looseness p) best.line (record { row = best; off = pos 0 }) (r ∷ rs) in
    elim (is_zero (looseness p)) as (λ b. is_some (cond b (Some best) (good_enough p it)) ≡ true)
    [ true ↦ refl | false ↦ some_good p it f ]

breaks_some : (p : PassState) (rows : List Row) (r : Option Row) → is_some r ≡ true → is_some (breaks_of p rows r) ≡ true
unfolding breaks_of
breaks_some p rows None h = absurd cc
breaks_some p rows (Some r) h = refl

pub final_finds : (p : PassState) → p.is_final ≡ true → is_some (found p) ≡ true
unfolding found last_rows
final_finds p f = breaks_some p (table p) (chosen p (last_rows p)) (chosen_some p (last_rows p) f (live_some p (break_count p) f))
