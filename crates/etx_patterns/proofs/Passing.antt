-- The places that pass a test, one after another.
use Rattle.std.proofs.Common.{◌≡◌, ℕ, zero, suc, inl, inr, ◌+◌, ◌-◌, ◌<◌, ◌≤◌, Bool, true, false, List, [], ◌∷◌, ◌++◌, filter, replicate, Option, None, Some, length, get_or, refl, ap, sym, ◌∙◌, arith}
use Rattle.std.proofs.lemmas.Bool.{cases_Bool}
use Rattle.std.proofs.lemmas.List.{append-nil}
use Rattle.std.proofs.lemmas.List.Elements.{filter-append}
use Rattle.std.specs.Prelude.{◌==◌}
use Rattle.std.specs.List.{range_with_len, list_any}
use Rattle.std.proofs.lemmas.List.{length-append, length-map}
use Rattle.etx_patterns.specs.declared.step.Mark.TheVariants.{Character, Boundary}
use Rattle.etx_patterns.specs.Shapes.{is_odd, framed, word_marks, path_in}
use Rattle.etx_patterns.specs.Tables.{Tables, exception_of, places_that, places_of, allowed_by, greatest_digit}
use Rattle.etx_patterns.proofs.Scoring.{range-push}

range_more : (place : ℕ) → 1 ≤ place → range_with_len 1 (place + 1 - 1) ≡ range_with_len 1 (place - 1) ++ place ∷ []
range_more place low =
    let one : place + 1 - 1 ≡ suc (place - 1) = omega arith in
    let last : 1 + (place - 1) ≡ place = omega arith in
    ap (range_with_len 1) one ∙ range-push 1 (place - 1) ∙ ap (λ (k : ℕ). range_with_len 1 (place - 1) ++ k ∷ []) last

pub place_passes : (test : ℕ → Bool) (place : ℕ) → 1 ≤ place → test place ≡ true → filter test (range_with_len 1 (place + 1 - 1)) ≡ filter test (range_with_len 1 (place - 1)) ++ place ∷ []
place_passes test place low passes =
    ap (filter test) (range_more place low) ∙ filter-append test (range_with_len 1 (place - 1)) (place ∷ [])
    ∙ ap (λ (it : List ℕ). filter test (range_with_len 1 (place - 1)) ++ it) (one_passes test place passes)
  where
    one_passes : (test : ℕ → Bool) (place : ℕ) → test place ≡ true → filter test (place ∷ []) ≡ place ∷ []
    one_passes test place passes = rw passes refl

pub place_fails : (test : ℕ → Bool) (place : ℕ) → 1 ≤ place → test place ≡ false → filter test (range_with_len 1 (place + 1 - 1)) ≡ filter test (range_with_len 1 (place - 1))
place_fails test place low fails =
    ap (filter test) (range_more place low) ∙ filter-append test (range_with_len 1 (place - 1)) (place ∷ [])
    ∙ ap (λ (it : List ℕ). filter test (range_with_len 1 (place - 1)) ++ it) (one_fails test place fails) ∙ append-nil (filter test (range_with_len 1 (place - 1)))
  where
    one_fails : (test : ℕ → Bool) (place : ℕ) → test place ≡ false → filter test (place ∷ []) ≡ []
    one_fails test place fails = rw fails refl

-- Two tests that agree at the numbers of a range let the same pass.
pub same_passing : (f g : ℕ → Bool) (from count : ℕ) → ((k : ℕ) → from ≤ k → k < from + count → f k ≡ g k) → filter f (range_with_len from count) ≡ filter g (range_with_len from count)
same_passing f g from zero agree = refl
same_passing f g from (suc count) agree =
    let here : f from ≡ g from = agree from (omega arith) (omega arith) in
    let rest = same_passing f g (from + 1) count (λ k low high. agree k (omega arith) (omega arith)) in
    elim (cases_Bool (f from)) [
      | inl passes ↦ let other : g from ≡ true = sym here ∙ passes in rw (passes, other, rest) refl
      | inr fails ↦ let other : g from ≡ false = sym here ∙ fails in rw (fails, other) rest
    ]

-- The places by an exception, and by the scores.
pub places_by_exception : (tables : Tables) (language : ℕ) (word places : List ℕ) → exception_of tables.exceptions (path_in language (word_marks word)) ≡ Some places
    → places_that (λ place. list_any (λ k. k == place) places) (length word) ≡ places_of tables language word
places_by_exception tables language word places e =
    ap (λ (it : Option (List ℕ)). places_that (λ place. allowed_by it (greatest_digit tables.patterns language (framed word) (place + 1)) place) (length word)) (sym e)

pub places_by_scores : (tables : Tables) (language : ℕ) (word scores : List ℕ) → exception_of tables.exceptions (path_in language (word_marks word)) ≡ None → length word < length scores
    → ((place : ℕ) → place < length scores → get_or scores place 0 ≡ greatest_digit tables.patterns language (framed word) place)
    → places_that (λ place. is_odd (get_or scores (place + 1) 0)) (length word) ≡ places_of tables language word
places_by_scores tables language word scores e room all =
    same_passing (λ place. is_odd (get_or scores (place + 1) 0)) (λ place. is_odd (greatest_digit tables.patterns language (framed word) (place + 1))) 1 (length word - 1)
    (λ k low high. ap is_odd (all (k + 1) (omega arith)))
    ∙ ap (λ (it : Option (List ℕ)). places_that (λ place. allowed_by it (greatest_digit tables.patterns language (framed word) (place + 1)) place) (length word)) (sym e)

pub length-framed : (word : List ℕ) → length (framed word) ≡ length word + 2
length-framed word = let a = length-append (word_marks word) (Boundary ∷ []) in let b = length-map word Character in omega arith

pub zeros : (n place : ℕ) → ◌≡◌ {A = ℕ} (get_or (replicate n 0) place 0) 0
zeros zero place = refl
zeros (suc n) zero = refl
zeros (suc n) (suc place) = zeros n place
