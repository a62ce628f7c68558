-- What is known of the rows that a break makes: their break, and their lines.
use Rattle.std.proofs.Common.{◌≡◌, ℕ, zero, suc, ◌+◌, ◌<◌, ◌≤◌, ◌⊎◌, inl, inr, min, Bool, true, false, not, ◌&&◌, cond, int_le, ℤ, pos, ◌+ℤ◌, List, [], ◌∷◌, ◌++◌, length, Option, Some, None, refl, ap, ◌∙◌, eqb-true, eq-eqb, arith}
use Rattle.std.proofs.lemmas.Bool.{ne_eqb, lt-ltb, le-ltb}
use Rattle.std.proofs.lemmas.Bool.Decides.{leb_tells}
use Rattle.std.proofs.lemmas.List.{append-nil}
use Rattle.std.proofs.lemmas.List.Elements.{filter-append}
use Rattle.std.specs.List.{filter}
use Rattle.std.specs.Prelude.{unsigned_abs}
use Rattle.etx_linebreak.specs.Passes.{PassState}
use Rattle.etx_linebreak.specs.declared.row.Class.{Class}
use Rattle.etx_linebreak.specs.declared.row.Class.TheVariants.{VeryLoose, Loose, Decent, Tight}
use Rattle.etx_linebreak.specs.declared.row.Row.{Row}
use Rattle.etx_linebreak.specs.declared.row.Candidate.{Candidate}
use Rattle.etx_linebreak.specs.declared.line.Line.{Line}
use Rattle.etx_linebreak.specs.declared.bests.Bests.{Bests}
use Rattle.etx_linebreak.specs.Lines.{measured, demerits}
use Rattle.etx_linebreak.specs.Rows.{by_line, offer_by, is_number, gives_by, gives, better, no_bests, with_in, with_offer, bests_after, by_class, least_after, row_of, row_if, rows_within, kept_at, kept_rows, group_of, is_in, made_in, made_before}
use Rattle.etx_linebreak.specs.Table.{is_line, is_above}
use Rattle.etx_linebreak.proofs.Filters.{Each, each_map, each_append, each_passes, filter_all, filter_none}

abbrev pub IfAny : (Candidate → Type 0) → Option Candidate → Type 0
IfAny P None = Unit {0}
IfAny P (Some it) = P it

abbrev pub AllBests : (Candidate → Type 0) → Bests → Type 0
AllBests P b = IfAny P b.very_loose × IfAny P b.loose × IfAny P b.decent × IfAny P b.tight

abbrev pub AllOf : (Candidate → Type 0) → List (Option Candidate) → Type 0
AllOf P [] = Unit {0}
AllOf P (it ∷ its) = IfAny P it × AllOf P its

-- what holds of all candidates holds of the best ones, and of the rows that are made of these
module _ (P : Candidate → Type 0) where
  better_keeps : (old : Option Candidate) (new : Candidate) → IfAny P old → P new → IfAny P (better old new)
  unfolding better
  better_keeps None new h k = k
  better_keeps (Some old) new h k = elim (int_le new.total old.total) as (λ b. IfAny P (cond b (Some new) (Some old))) [ true ↦ k | false ↦ h ]

  with_keeps : (class : Class) (b : Bests) (new : Candidate) → AllBests P b → P new → AllBests P (with_in class b new)
  with_keeps VeryLoose b new h k = (better_keeps b.very_loose new h.0 k, h.1, h.2, h.3)
  with_keeps Loose b new h k = (h.0, better_keeps b.loose new h.1 k, h.2, h.3)
  with_keeps Decent b new h k = (h.0, h.1, better_keeps b.decent new h.2 k, h.3)
  with_keeps Tight b new h k = (h.0, h.1, h.2, better_keeps b.tight new h.3 k)

  offer_keeps : (b : Bests) (it : Option Candidate) → AllBests P b → IfAny P it → AllBests P (with_offer b it)
  unfolding with_offer
  offer_keeps b None h k = h
  offer_keeps b (Some new) h k = with_keeps new.class b new h k

  bests_keep : (p : PassState) (j : ℕ) (resort : Option ℕ) (b : Bests) (rs : List Row) → AllBests P b
      → Each (λ r. IfAny P (gives p j resort r)) rs → AllBests P (bests_after p j resort b rs)
  unfolding bests_after
  bests_keep p j resort b [] h k = h
  bests_keep p j resort b (r ∷ rs) h k =
      bests_keep p j resort (with_offer b (gives p j resort r)) rs (offer_keeps b (gives p j resort r) h k.0) k.1

  module _ (Q : Row → Type 0) (j : ℕ) (make : (n : ℕ) (it : Candidate) → P it → Q (row_of j n it)) where
    if_keeps : (limit : ℤ) (n : ℕ) (it : Option Candidate) → IfAny P it → Each Q (row_if j limit n it)
    unfolding row_if
    if_keeps limit n None h = tt
    if_keeps limit n (Some it) h = elim (int_le it.total limit) as (λ b. Each Q (cond b (row_of j n it ∷ []) [])) [ true ↦ (make n it h, tt) | false ↦ tt ]

    within_keeps : (limit : ℤ) (n : ℕ) (its : List (Option Candidate)) → AllOf P its → Each Q (rows_within j limit n its)
    unfolding rows_within
    within_keeps limit n [] h = tt
    within_keeps limit n (it ∷ its) h =
        each_append Q (row_if j limit n it) _ (if_keeps limit n it h.0) (within_keeps limit (n + length (row_if j limit n it)) its h.1)

    at_keeps : (far : ℕ) (least : Option ℤ) (n : ℕ) (its : List (Option Candidate)) → AllOf P its → Each Q (kept_at far j least n its)
    unfolding kept_at
    at_keeps far None n its h = tt
    at_keeps far (Some least) n its h = within_keeps (least +ℤ pos far) n its h

    kept_keeps : (p : PassState) (n : ℕ) (b : Bests) → AllBests P b → Each Q (kept_rows p j n b)
    unfolding kept_rows by_class
    kept_keeps p n b h = at_keeps (unsigned_abs p.paragraph.params.breaks.adj_demerits) (least_after None (by_class b)) n (by_class b) (h.0, (h.1, (h.2, (h.3, tt))))

-- a candidate is for the line behind that of its row
module _ (p : PassState) (j : ℕ) (resort : Option ℕ) where
  offer_line : (r : Row) (line : Line) → IfAny (λ it. it.line ≡ r.line + 1) (offer_by p j r line)
  unfolding offer_by
  offer_line r line =
      elim (not line.is_overfull && int_le line.badness p.threshold)
      as (λ b. IfAny (λ it. it.line ≡ r.line + 1) (cond b (Some (by_line r line (r.total +ℤ demerits p j r line))) None))
      [ true ↦ refl | false ↦ tt ]

  gives_line : (r : Row) → IfAny (λ it. it.line ≡ r.line + 1) (gives p j resort r)
  unfolding gives_by
  gives_line r =
      let line : Line = measured p j r in
      elim (is_number r.number resort) as (λ b. IfAny (λ it. it.line ≡ r.line + 1) (cond b (Some (by_line r line r.total)) (offer_by p j r line)))
      [ true ↦ refl | false ↦ offer_line r line ]

  -- lines above the easy one count as one
  abbrev pub slot : Row → ℕ
  slot r = min r.line (suc p.easy)

  -- a row of this break that a group makes
  abbrev pub IsMade : ℕ → Row → Type 0
  IsMade g r = (r.break_number ≡ j) × (slot r ≡ suc g)

  abbrev pub IsFor : ℕ → Candidate → Type 0
  IsFor g it = min it.line (suc p.easy) ≡ suc g

  line_for : (g : ℕ) (r : Row) → is_in p g r ≡ true → (it : Option Candidate) → IfAny (λ it. it.line ≡ r.line + 1) it → IfAny (IsFor g) it
  unfolding is_in group_of
  line_for g r h None k = tt
  line_for g r h (Some it) k = let e : min r.line p.easy ≡ g = eqb-true (min r.line p.easy) g h in omega (arith, e, k)

  made_in_is : (n g : ℕ) (live : List Row) → Each (IsMade g) (made_in p j resort n g live)
  unfolding made_in
  made_in_is n g live =
      kept_keeps (IsFor g) (IsMade g) j (λ n it h. (refl, h)) p n (bests_after p j resort no_bests (filter (is_in p g) live))
      (bests_keep (IsFor g) p j resort no_bests (filter (is_in p g) live) (tt, tt, tt, tt)
      (each_map (λ r. is_in p g r ≡ true) (λ r. IfAny (IsFor g) (gives p j resort r)) (filter (is_in p g) live)
      (λ r h. line_for g r h (gives p j resort r) (gives_line r)) (each_passes (is_in p g) live)))

  pub made_place : (n m : ℕ) (live : List Row) → Each (λ r. r.break_number ≡ j) (made_before p j resort n m live)
  unfolding made_before
  made_place n zero live = tt
  made_place n (suc m) live =
      each_append (λ r. r.break_number ≡ j) (made_before p j resort n m live) _ (made_place n m live)
      (each_map (IsMade m) (λ r. r.break_number ≡ j) _ (λ r h. h.0) (made_in_is (n + length (made_before p j resort n m live)) m live))

  -- a test that only the rows of one group pass
  module _ (n : ℕ) (live : List Row) (t : Row → Bool) (no : (r : Row) (h : ℕ) → slot r ≡ suc h → t r ≡ false) where
    pub made_never : (m : ℕ) → filter t (made_before p j resort n m live) ≡ []
    unfolding made_before
    made_never zero = refl
    made_never (suc m) =
        let new = made_in p j resort (n + length (made_before p j resort n m live)) m live in
        filter-append t (made_before p j resort n m live) new
        ∙ ap (λ (xs : List Row). xs ++ filter t new) (made_never m)
        ∙ filter_none t new (each_map (IsMade m) (λ r. t r ≡ false) new (λ r h. no r m h.1) (made_in_is (n + length (made_before p j resort n m live)) m live))

  module _ (n : ℕ) (live : List Row) (t : Row → Bool) (g : ℕ) (yes : (r : Row) → slot r ≡ suc g → t r ≡ true)
      (no : (r : Row) (h : ℕ) → (h ≡ g → ⊥) → slot r ≡ suc h → t r ≡ false) where
    made_none : (m : ℕ) → m ≤ g → filter t (made_before p j resort n m live) ≡ []
    unfolding made_before
    made_none zero le = refl
    made_none (suc m) le =
        let new = made_in p j resort (n + length (made_before p j resort n m live)) m live in
        filter-append t (made_before p j resort n m live) new
        ∙ ap (λ (xs : List Row). xs ++ filter t new) (made_none m (omega (arith, le)))
        ∙ filter_none t new
        (each_map (IsMade m) (λ r. t r ≡ false) new (λ r h. no r m (λ e. omega (arith, e, le)) h.1) (made_in_is (n + length (made_before p j resort n m live)) m live))

    same_or_less : (m : ℕ) → g < suc m → (m ≡ g) ⊎ (g < m)
    same_or_less m lt = elim (leb_tells m g) [ inl l ↦ inl (omega (arith, l.1, lt)) | inr l ↦ inr l.1 ]

    pub made_one : (m : ℕ) → g < m → filter t (made_before p j resort n m live) ≡ made_in p j resort (n + length (made_before p j resort n g live)) g live
    unfolding made_before
    made_one zero lt = absurd (omega (arith, lt))
    made_one (suc m) lt =
        let new = made_in p j resort (n + length (made_before p j resort n m live)) m live in
        let is = made_in_is (n + length (made_before p j resort n m live)) m live in
        filter-append t (made_before p j resort n m live) new
        ∙ (elim (same_or_less m lt) [
          | inl e ↦
              ap (λ (xs : List Row). xs ++ filter t new) (made_none m (omega (arith, e)))
              ∙ filter_all t new (each_map (IsMade m) (λ r. t r ≡ true) new (λ r h. yes r (h.1 ∙ ap suc e)) is)
              ∙ ap (λ (k : ℕ). made_in p j resort (n + length (made_before p j resort n k live)) k live) e
          | inr l ↦
              ap (λ (xs : List Row). xs ++ filter t new) (made_one m l)
              ∙ ap (λ (xs : List Row). made_in p j resort (n + length (made_before p j resort n g live)) g live ++ xs)
              (filter_none t new (each_map (IsMade m) (λ r. t r ≡ false) new (λ r h. no r m (λ e. omega (arith, e, l)) h.1) is))
              ∙ append-nil (made_in p j resort (n + length (made_before p j resort n g live)) g live)
        ])

  module _ (n : ℕ) (live : List Row) where
    pub no_first_line : filter (is_line 0) (made_before p j resort n (suc p.easy) live) ≡ []
    no_first_line = made_never n live (is_line 0) (λ r h e. ne_eqb r.line 0 (λ k. omega (arith, k, e))) (suc p.easy)

    pub next_line : (g : ℕ) → g < p.easy
        → filter (is_line (suc g)) (made_before p j resort n (suc p.easy) live) ≡ made_in p j resort (n + length (made_before p j resort n g live)) g live
    next_line g lt = made_one n live (is_line (suc g)) g
        (λ r e. eq-eqb r.line (suc g) (omega (arith, e, lt)))
        (λ r h d e. ne_eqb r.line (suc g) (λ k. d (omega (arith, k, e, lt))))
        (suc p.easy) (omega (arith, lt))

    pub lines_above :
        filter (is_above p.easy) (made_before p j resort n (suc p.easy) live)
        ≡ made_in p j resort (n + length (made_before p j resort n p.easy live)) p.easy live
    lines_above = made_one n live (is_above p.easy) p.easy
        (λ r e. lt-ltb p.easy r.line (omega (arith, e)))
        (λ r h d e. le-ltb p.easy r.line (below r h d e))
        (suc p.easy) (omega arith)
      where
        below : (r : Row) (h : ℕ) → (h ≡ p.easy → ⊥) → slot r ≡ suc h → r.line ≤ p.easy
        below r h d e = omega (arith, d, e)
