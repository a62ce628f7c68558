use Rattle.std.proofs.Common.{◌≡◌, ℕ, Bool, ◌-◌, ap, sym, ◌∙◌, filter, arith}
use Rattle.std.specs.Prelude.{◌==◌}
use Rattle.std.specs.List.{range_with_len, list_any}
use Rattle.etx_patterns.proofs.Passing.{place_passes, place_fails}
use Rattle.etx_patterns.proofs.places.listed_places.Goals as goal
use Rattle.etx_patterns.proofs.places.listed_places.Goals.{then-contains+in_ok-push, else-contains}

pub loop-place-preserved : goal.loop-place-preserved
loop-place-preserved c =
    let test : ℕ → Bool = λ place. list_any (λ k. k == place) c.args.listed.now in
    elim c.if-contains.branch [
      | then-contains+in_ok-push w ↦
          (omega arith, (let more = place_passes test c.loop-place.place c.loop-place.auto.place (sym c.contains.ensures.value ∙ w.if-contains.true) in cc (w.places-is, w.in_ok-push.ensures.items, c.loop-place.invariant.1)))
      | else-contains w ↦
          (omega arith, (let more = place_fails test c.loop-place.place c.loop-place.auto.place (sym c.contains.ensures.value ∙ w.if-contains.false) in cc (w.places-is, c.loop-place.invariant.1)))
    ]

pub returns : goal.returns
returns c =
    let ends : c.loop-place.place - 1 ≡ c.args.letters - 1 = omega arith in
    c.loop-place.invariant.1 ∙ ap (λ (n : ℕ). filter (λ (place : ℕ). list_any (λ k. k == place) c.args.listed.now) (range_with_len 1 n)) ends
