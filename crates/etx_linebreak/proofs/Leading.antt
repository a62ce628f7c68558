-- The breaks that lead to a row, one after the other, the last one first.
use Rattle.std.proofs.Common.{◌≡◌, ℕ, suc, ◌+◌, ◌-◌, ◌<◌, ◌≤◌, List, [], ◌∷◌, ◌++◌, reverse, Option, sym, ap, ◌∙◌, arith}
use Rattle.std.proofs.lemmas.List.{reverse-append}
use Rattle.etx_linebreak.specs.Passes.{PassState}
use Rattle.etx_linebreak.specs.declared.row.Row.{Row}
use Rattle.etx_linebreak.specs.Choices.{earlier, with_break, breaks_to}

one_less : (n i : ℕ) → i < n → n - i ≡ suc (n - (i + 1))
one_less n i h = omega (arith, h)

pub lead_on : (p : PassState) (rows : List Row) (n i : ℕ) (at : Option Row) (behind : List ℕ) → i < n
    → breaks_to p rows (n - i) at behind ≡ breaks_to p rows (n - (i + 1)) (earlier rows at) (with_break p at behind)
unfolding breaks_to
lead_on p rows n i at behind h = ap (λ (k : ℕ). breaks_to p rows k at behind) (one_less n i h)

none_left : (n : ℕ) → n - n ≡ 0
none_left n = omega arith

pub lead_end : (p : PassState) (rows : List Row) (n : ℕ) (at : Option Row) (behind : List ℕ) → breaks_to p rows (n - n) at behind ≡ behind
unfolding breaks_to
lead_end p rows n at behind = ap (λ (k : ℕ). breaks_to p rows k at behind) (none_left n)

pub pushed_last : (found : List ℕ) (place : ℕ) → reverse (found ++ place ∷ []) ≡ place ∷ reverse found
pushed_last found place = reverse-append found (place ∷ [])

pub lead_first : (p : PassState) (rows : List Row) (n : ℕ) (at : Option Row) (found : List ℕ) → found ≡ []
    → breaks_to p rows (n - 0) at (reverse found) ≡ breaks_to p rows n at []
lead_first p rows n at found e =
    let none : n - 0 ≡ n = omega arith in
    ap (λ (k : ℕ). breaks_to p rows k at (reverse found)) none ∙ ap (λ (xs : List ℕ). breaks_to p rows n at (reverse xs)) e

pub lead_step : (p : PassState) (rows : List Row) (n i : ℕ) (at at' : Option Row) (behind behind' all : List ℕ)
    → breaks_to p rows (n - i) at behind ≡ all → i < n → behind' ≡ with_break p at behind → at' ≡ earlier rows at
    → breaks_to p rows (n - (i + 1)) at' behind' ≡ all
lead_step p rows n i at at' behind behind' all h lt b a =
    ap (λ (it : Option Row). breaks_to p rows (n - (i + 1)) it behind') a
    ∙ ap (breaks_to p rows (n - (i + 1)) (earlier rows at)) b
    ∙ sym (lead_on p rows n i at behind lt)
    ∙ h

pub lead_done : (p : PassState) (rows : List Row) (n i : ℕ) (at : Option Row) (found back all : List ℕ)
    → breaks_to p rows (n - i) at (reverse found) ≡ all → n ≤ i → i ≤ n → back ≡ reverse found → back ≡ all
lead_done p rows n i at found back all h over under b =
    let same : i ≡ n = omega (arith, over, under) in
    b ∙ sym (lead_end p rows n at (reverse found)) ∙ sym (ap (λ (k : ℕ). breaks_to p rows (n - k) at (reverse found)) same) ∙ h
