-- Quotients by a negative divisor.
use Rattle.std.proofs.Common.{◌≡◌, ℤ, pos, negsuc, zero, suc, neg_ℤ, ◌-ℤ◌, ◌*ℤ◌, ◌≤ℤ◌, ◌<ℤ◌, ◌*◌, ◌≢◌, ℕ, unsigned_abs, false, arith, ap, refl, sym, ◌∙◌}
use Rattle.std.proofs.lemmas.Int.{ints}
use Rattle.etx_scaled.specs.Rounding.{IsNearest, nearest}
use Rattle.etx_exprs.specs.Values.{divided, is_zero}

negated : (z : ℤ) → neg_ℤ z ≡ pos 0 -ℤ z
negated z = omega (arith, ints)

pub divided_below : (z d : ℤ) → d ≤ℤ pos 0 → is_zero d ≡ false → divided z d ≡ nearest (pos 0 -ℤ z) (pos 0 -ℤ d)
divided_below z (pos zero) low some = cc
divided_below z (pos (suc d)) low some = absurd (omega (arith, ints))
divided_below z (negsuc d) low some = ap (λ (x : ℤ). nearest x (pos (suc d))) (negated z) ∙ ap (λ (y : ℤ). nearest (pos 0 -ℤ z) y) (negated (negsuc d))

neg_product : (d : ℕ) (w : ℤ) → negsuc d *ℤ w ≡ neg_ℤ (pos (suc d) *ℤ w)
neg_product d w = omega (arith, ints)

mirrored : (x y : ℤ) → unsigned_abs (neg_ℤ x -ℤ y) ≡ unsigned_abs (x -ℤ neg_ℤ y)
mirrored (pos x) (pos y) = omega (arith, ints)
mirrored (pos x) (negsuc y) = omega (arith, ints)
mirrored (negsuc x) (pos y) = omega (arith, ints)
mirrored (negsuc x) (negsuc y) = omega (arith, ints)

same_size : (x : ℤ) → unsigned_abs (neg_ℤ x) ≡ unsigned_abs x
same_size (pos zero) = refl
same_size (pos (suc x)) = refl
same_size (negsuc x) = refl

turned : (z w : ℤ) (d : ℕ) → unsigned_abs (negsuc d *ℤ w -ℤ z) ≡ unsigned_abs (pos (suc d) *ℤ w -ℤ neg_ℤ z)
turned z w d = ap (λ (x : ℤ). unsigned_abs (x -ℤ z)) (neg_product d w) ∙ mirrored (pos (suc d) *ℤ w) z

turned_nearest : (z w : ℤ) (d : ℕ) → IsNearest (neg_ℤ z) (pos (suc d)) w → IsNearest z (negsuc d) w
turned_nearest z w d h =
    record {
      near = rw (turned z w d) h.near;
      away = λ tie.
          rw (← same_size z, ap (λ (x : ℤ). unsigned_abs x) (neg_product d w), same_size (pos (suc d) *ℤ w))
          (h.away (ap (λ (n : ℕ). 2 * n) (sym (turned z w d)) ∙ tie));
    }

pub quotient_nearest : ((num den : ℤ) → pos 0 <ℤ den → IsNearest num den (nearest num den)) → (z d : ℤ) → d ≢ pos 0 → IsNearest z d (divided z d)
quotient_nearest is z (pos zero) some = absurd (some refl)
quotient_nearest is z (pos (suc d)) some = is z (pos (suc d)) (omega (arith, ints))
quotient_nearest is z (negsuc d) some = turned_nearest z (nearest (neg_ℤ z) (pos (suc d))) d (is (neg_ℤ z) (pos (suc d)) (omega (arith, ints)))
