use Rattle.std.proofs.Common.{◌≡◌, ℕ, Bool, true, false, ◌+◌, ◌-◌, ◌%◌, get_or, filter, ap, ◌∙◌, eq-eqb, arith}
use Rattle.std.proofs.lemmas.Bool.Decides.{nat_tests}
use Rattle.std.specs.List.{range_with_len}
use Rattle.etx_patterns.specs.Shapes.{is_odd}
use Rattle.etx_patterns.proofs.Passing.{place_passes, place_fails}
use Rattle.etx_patterns.proofs.places.odd_places.Goals as goal
use Rattle.etx_patterns.proofs.places.odd_places.Goals.{then-scores-place-eq1+in_ok-push, else-scores-place-eq1}

odd : (n : ℕ) → n % 2 ≡ 1 → is_odd n ≡ true
odd n e = eq-eqb (n % 2) 1 e

even : (n : ℕ) → (n % 2 ≡ 1 → ⊥) → is_odd n ≡ false
even n e = grind (arith, nat_tests)

pub loop-place-preserved : goal.loop-place-preserved
loop-place-preserved c =
    let test : ℕ → Bool = λ place. is_odd (get_or c.args.scores.now (place + 1) 0) in
    elim c.if-scores-place-eq1.branch [
      | then-scores-place-eq1+in_ok-push w ↦
          (omega arith, (let more = place_passes test c.loop-place.place c.loop-place.auto.place (odd _ w.if-scores-place-eq1.true) in cc (w.places-is, w.in_ok-push.ensures.items, c.loop-place.invariant.1)))
      | else-scores-place-eq1 w ↦
          (omega arith, (let more = place_fails test c.loop-place.place c.loop-place.auto.place (even _ w.if-scores-place-eq1.false) in cc (w.places-is, c.loop-place.invariant.1)))
    ]

pub returns : goal.returns
returns c =
    let ends : c.loop-place.place - 1 ≡ c.args.letters - 1 = omega arith in
    c.loop-place.invariant.1 ∙ ap (λ (n : ℕ). filter (λ (place : ℕ). is_odd (get_or c.args.scores.now (place + 1) 0)) (range_with_len 1 n)) ends
