-- The order of rows, and the groups in it.
use Rattle.std.proofs.Common.{◌≡◌, ℕ, zero, suc, ◌<◌, ◌≤◌, ◌⊎◌, inl, inr, Bool, true, false, cond, List, [], ◌∷◌, ◌++◌, refl, sym, ap, ◌∙◌, eqb-true, arith}
use Rattle.std.proofs.lemmas.Bool.{ltb-true}
use Rattle.std.proofs.lemmas.Bool.Decides.{leb_tells}
use Rattle.std.proofs.lemmas.List.{append-nil}
use Rattle.std.proofs.lemmas.List.Elements.{filter-append}
use Rattle.std.specs.List.{filter}
use Rattle.etx_linebreak.specs.Passes.{PassState}
use Rattle.etx_linebreak.specs.declared.row.Row.{Row}
use Rattle.etx_linebreak.specs.Rows.{group_of, is_in}
use Rattle.etx_linebreak.specs.Runs.{IsInGroups}
use Rattle.etx_linebreak.specs.Table.{is_line, is_above, of_line, above, lines_before, in_order}
use Rattle.etx_linebreak.proofs.Filters.{Each, each_map, each_append, each_passes, filter_all, filter_none}
use Rattle.etx_linebreak.proofs.Walking.{is_in_yes, is_in_no}

of_line_is : (l : ℕ) (rows : List (List Row)) → Each (λ r. is_line l r ≡ true) (of_line l rows)
unfolding of_line
of_line_is l [] = tt
of_line_is l (new ∷ old) = each_append (λ r. is_line l r ≡ true) (filter (is_line l) new) (of_line l old) (each_passes (is_line l) new) (of_line_is l old)

above_is : (l : ℕ) (rows : List (List Row)) → Each (λ r. is_above l r ≡ true) (above l rows)
unfolding above
above_is l [] = tt
above_is l (new ∷ old) = each_append (λ r. is_above l r ≡ true) (above l old) (filter (is_above l) new) (above_is l old) (each_passes (is_above l) new)

module _ (p : PassState) where
  line_group : (l : ℕ) (r : Row) → l ≤ p.easy → is_line l r ≡ true → group_of p r ≡ l
  unfolding group_of
  line_group l r le h = let e : r.line ≡ l = eqb-true r.line l h in omega (arith, e, le)

  above_group : (r : Row) → is_above p.easy r ≡ true → group_of p r ≡ p.easy
  unfolding group_of
  above_group r h = let lt : p.easy < r.line = ltb-true p.easy r.line h in omega (arith, lt)

  lines_in : (l : ℕ) (rows : List (List Row)) → l ≤ p.easy → Each (λ r. group_of p r ≡ l) (of_line l rows)
  lines_in l rows le = each_map (λ r. is_line l r ≡ true) (λ r. group_of p r ≡ l) (of_line l rows) (λ r h. line_group l r le h) (of_line_is l rows)

  above_in : (rows : List (List Row)) → Each (λ r. group_of p r ≡ p.easy) (above p.easy rows)
  above_in rows = each_map (λ r. is_above p.easy r ≡ true) (λ r. group_of p r ≡ p.easy) (above p.easy rows) above_group (above_is p.easy rows)

  group_yes : (g : ℕ) (rs : List Row) → Each (λ r. group_of p r ≡ g) rs → filter (is_in p g) rs ≡ rs
  group_yes g rs h = filter_all (is_in p g) rs (each_map (λ r. group_of p r ≡ g) (λ r. is_in p g r ≡ true) rs (λ r e. is_in_yes p g r e) h)

  group_no : (g k : ℕ) (rs : List Row) → (k ≡ g → ⊥) → Each (λ r. group_of p r ≡ k) rs → filter (is_in p g) rs ≡ []
  group_no g k rs d h =
      filter_none (is_in p g) rs (each_map (λ r. group_of p r ≡ k) (λ r. is_in p g r ≡ false) rs (λ r e. is_in_no p g r (λ f. d (sym e ∙ f))) h)

  module _ (rows : List (List Row)) where
    lines_none : (g n : ℕ) → n ≤ g → n ≤ suc p.easy → filter (is_in p g) (lines_before n rows) ≡ []
    unfolding lines_before
    lines_none g zero le top = refl
    lines_none g (suc n) le top =
        filter-append (is_in p g) (lines_before n rows) (of_line n rows)
        ∙ ap (λ (xs : List Row). xs ++ filter (is_in p g) (of_line n rows)) (lines_none g n (omega (arith, le)) (omega (arith, top)))
        ∙ group_no g n (of_line n rows) (λ e. omega (arith, e, le)) (lines_in n rows (omega (arith, top)))

    same_or_less : (g m : ℕ) → g < suc m → (m ≡ g) ⊎ (g < m)
    same_or_less g m lt = elim (leb_tells m g) [ inl l ↦ inl (omega (arith, l.1, lt)) | inr l ↦ inr l.1 ]

    lines_one : (g n : ℕ) → g < n → n ≤ suc p.easy → filter (is_in p g) (lines_before n rows) ≡ of_line g rows
    unfolding lines_before
    lines_one g zero lt top = absurd (omega (arith, lt))
    lines_one g (suc n) lt top =
        filter-append (is_in p g) (lines_before n rows) (of_line n rows)
        ∙ (elim (same_or_less g n lt) [
          | inl e ↦
              ap (λ (xs : List Row). xs ++ filter (is_in p g) (of_line n rows)) (lines_none g n (omega (arith, e)) (omega (arith, top)))
              ∙ ap (λ (k : ℕ). filter (is_in p g) (of_line k rows)) e
              ∙ group_yes g (of_line g rows) (lines_in g rows (omega (arith, lt, top)))
          | inr l ↦
              ap (λ (xs : List Row). xs ++ filter (is_in p g) (of_line n rows)) (lines_one g n l (omega (arith, top)))
              ∙ ap (λ (xs : List Row). of_line g rows ++ xs) (group_no g n (of_line n rows) (λ e. omega (arith, e, l)) (lines_in n rows (omega (arith, top))))
              ∙ append-nil (of_line g rows)
        ])

    -- the rows of a group in the order of rows
    pub group_line : (g : ℕ) → g < p.easy → filter (is_in p g) (in_order p.easy rows) ≡ of_line g rows
    unfolding in_order
    group_line g lt =
        filter-append (is_in p g) (lines_before (suc p.easy) rows) (above p.easy rows)
        ∙ ap (λ (xs : List Row). xs ++ filter (is_in p g) (above p.easy rows)) (lines_one g (suc p.easy) (omega (arith, lt)) (omega arith))
        ∙ ap (λ (xs : List Row). of_line g rows ++ xs) (group_no g p.easy (above p.easy rows) (λ e. omega (arith, e, lt)) (above_in rows))
        ∙ append-nil (of_line g rows)

    pub group_last : filter (is_in p p.easy) (in_order p.easy rows) ≡ of_line p.easy rows ++ above p.easy rows
    unfolding in_order
    group_last =
        filter-append (is_in p p.easy) (lines_before (suc p.easy) rows) (above p.easy rows)
        ∙ ap (λ (xs : List Row). xs ++ filter (is_in p p.easy) (above p.easy rows)) (lines_one p.easy (suc p.easy) (omega arith) (omega arith))
        ∙ ap (λ (xs : List Row). of_line p.easy rows ++ xs) (group_yes p.easy (above p.easy rows) (above_in rows))

  -- rows whose groups ascend, from a group to a group
  abbrev Within : ℕ → ℕ → List Row → Type 0
  Within g h [] = g ≤ h
  Within g h (r ∷ rs) = (g ≤ group_of p r) × Within (group_of p r) h rs

  within_from : (g h k : ℕ) (rs : List Row) → k ≤ g → Within g h rs → Within k h rs
  within_from g h k [] le w = omega (arith, le, w)
  within_from g h k (r ∷ rs) le w = (omega (arith, le, w.0), w.1)

  within_to : (g h k : ℕ) (rs : List Row) → h ≤ k → Within g h rs → Within g k rs
  within_to g h k [] le w = omega (arith, le, w)
  within_to g h k (r ∷ rs) le w = (w.0, within_to (group_of p r) h k rs le w.1)

  within_append : (g h k : ℕ) (xs ys : List Row) → Within g h xs → Within h k ys → Within g k (xs ++ ys)
  within_append g h k [] ys a b = within_from h k g ys a b
  within_append g h k (x ∷ xs) ys a b = (a.0, within_append (group_of p x) h k xs ys a.1 b)

  within_filter : (g h : ℕ) (t : Row → Bool) (rs : List Row) → Within g h rs → Within g h (filter t rs)
  within_filter g h t [] w = w
  within_filter g h t (r ∷ rs) w = by (t r) (filter t rs) (within_filter (group_of p r) h t rs w.1)
    where
      by : (b : Bool) (some : List Row) → Within (group_of p r) h some → Within g h (cond b (r ∷ some) some)
      by true some k = (w.0, k)
      by false some k = within_from (group_of p r) h g some w.0 k

  within_one : (g : ℕ) (rs : List Row) → Each (λ r. group_of p r ≡ g) rs → Within g g rs
  within_one g [] h = omega arith
  within_one g (r ∷ rs) h = (omega (arith, h.0), within_from g g (group_of p r) rs (omega (arith, h.0)) (within_one g rs h.1))

  within_groups : (g h : ℕ) (rs : List Row) → Within g h rs → IsInGroups p g rs
  within_groups g h [] w = tt
  within_groups g h (r ∷ rs) w = (w.0, within_groups (group_of p r) h rs w.1)

  lines_within : (n : ℕ) (rows : List (List Row)) → n ≤ p.easy → Within 0 n (lines_before n rows)
  unfolding lines_before
  lines_within zero rows le = omega arith
  lines_within (suc n) rows le =
      within_to 0 n (suc n) (lines_before n rows ++ of_line n rows) (omega arith)
      (within_append 0 n n (lines_before n rows) (of_line n rows) (lines_within n rows (omega (arith, le))) (within_one n (of_line n rows) (lines_in n rows (omega (arith, le)))))

  pub ascends : (t : Row → Bool) (rows : List (List Row)) → IsInGroups p 0 (filter t (in_order p.easy rows))
  unfolding in_order lines_before
  ascends t rows =
      within_groups 0 p.easy _ (within_filter 0 p.easy t (lines_before p.easy rows ++ of_line p.easy rows ++ above p.easy rows)
      (within_append 0 p.easy p.easy (lines_before p.easy rows ++ of_line p.easy rows) (above p.easy rows)
      (within_append 0 p.easy p.easy (lines_before p.easy rows) (of_line p.easy rows) (lines_within p.easy rows (omega arith)) (within_one p.easy (of_line p.easy rows) (lines_in p.easy rows (omega arith))))
      (within_one p.easy (above p.easy rows) (above_in rows))))
