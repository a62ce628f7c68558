-- There is one nearest whole number.
use Rattle.std.proofs.Common.{◌≡◌, ◌<◌, ◌≤◌, ◌*◌, ℕ, zero, suc, ℤ, pos, negsuc, ◌+ℤ◌, ◌-ℤ◌, ◌*ℤ◌, ◌≤ℤ◌, ◌<ℤ◌, unsigned_abs, arith, rules}
use Rattle.std.proofs.lemmas.Grind.{common_steps}
use Rattle.std.proofs.lemmas.Int.{ints}
use Rattle.etx_scaled.proofs.Products.{product_grows, same_from_order}
use Rattle.etx_scaled.specs.Rounding.{IsNearest, nearest}

-- what is known of one, of the other and of the step between them, as bounds of the products
bounds : (x : ℤ) (d : ℕ) → 2 * unsigned_abs x ≤ d → ((x +ℤ x) ≤ℤ pos d) × (pos 0 ≤ℤ (pos d +ℤ (x +ℤ x)))
bounds (pos x) d h = (omega (arith, ints), omega (arith, ints))
bounds (negsuc x) d h = (omega (arith, ints), omega (arith, ints))

tie_above : (x : ℤ) (d : ℕ) → x +ℤ x ≡ pos d → 2 * unsigned_abs x ≡ d
tie_above (pos x) d h = omega (arith, ints)
tie_above (negsuc x) d h = absurd (omega (arith, ints))

tie_below : (x : ℤ) (d : ℕ) → pos d +ℤ (x +ℤ x) ≡ pos 0 → 2 * unsigned_abs x ≡ d
tie_below (pos x) d h = omega (arith, ints)
tie_below (negsuc x) d h = omega (arith, ints)

sizes_up : (m n : ℤ) → pos 0 ≤ℤ m → m <ℤ n → unsigned_abs n ≤ unsigned_abs m → ⊥
sizes_up (pos m) (pos n) h g e = omega (arith, ints)
sizes_up (pos m) (negsuc n) h g e = omega (arith, ints)
sizes_up (negsuc m) n h g e = absurd (omega (arith, ints))

sizes_down : (m n : ℤ) → m ≤ℤ pos 0 → n <ℤ m → unsigned_abs n ≤ unsigned_abs m → ⊥
sizes_down (pos m) (pos n) h g e = omega (arith, ints)
sizes_down (pos zero) (negsuc n) h g e = omega (arith, ints)
sizes_down (pos (suc m)) (negsuc n) h g e = absurd (omega (arith, ints))
sizes_down (negsuc m) (pos n) h g e = absurd (omega (arith, ints))
sizes_down (negsuc m) (negsuc n) h g e = omega (arith, ints)

-- two that are equally near lie on different sides of the fraction, and one of them is nearer to zero
one_side : (num : ℤ) (d : ℕ) (v w : ℤ) → 0 < d → pos d +ℤ ((pos d *ℤ v -ℤ num) +ℤ (pos d *ℤ v -ℤ num)) ≡ pos 0 →
    (pos d *ℤ w -ℤ num) +ℤ (pos d *ℤ w -ℤ num) ≡ pos d →
    unsigned_abs num ≤ unsigned_abs (pos d *ℤ v) → unsigned_abs num ≤ unsigned_abs (pos d *ℤ w) → ⊥
one_side num d (pos k) w positive at_low at_high low_size high_size =
    sizes_up (pos d *ℤ pos k) num (omega (arith, ints)) (omega (arith, ints, at_low)) low_size
one_side num d (negsuc k) w positive at_low at_high low_size high_size =
    let step : (pos d *ℤ negsuc k +ℤ pos d) ≤ℤ (pos d *ℤ pos 0) = product_grows d (negsuc k) (pos 0) (omega (arith, ints)) in
    sizes_down (pos d *ℤ w) num (omega (arith, ints, at_low, at_high, step)) (omega (arith, ints, at_high)) high_size

-- of two nearest numbers neither is below the other
not_smaller : (num : ℤ) (d : ℕ) (v w : ℤ) → 0 < d → IsNearest num (pos d) v → IsNearest num (pos d) w → v <ℤ w → ⊥
not_smaller num d v w positive one two less =
    let step = product_grows d v w less in
    let low = bounds (pos d *ℤ v -ℤ num) d one.near in
    let high = bounds (pos d *ℤ w -ℤ num) d two.near in
    let at_low : pos d +ℤ ((pos d *ℤ v -ℤ num) +ℤ (pos d *ℤ v -ℤ num)) ≡ pos 0 = omega (arith, ints, step, low.1, high.0) in
    let at_high : (pos d *ℤ w -ℤ num) +ℤ (pos d *ℤ w -ℤ num) ≡ pos d = omega (arith, ints, step, low.1, high.0) in
    let low_size = one.away (tie_below (pos d *ℤ v -ℤ num) d at_low) in
    let high_size = two.away (tie_above (pos d *ℤ w -ℤ num) d at_high) in
    one_side num d v w positive at_low at_high low_size high_size

pub is_nearest : (num den : ℤ) → pos 0 <ℤ den → IsNearest num den (nearest num den)
is_nearest num den positive = first_of (search rules, grind (arith, common_steps))

pub one_nearest : (num den whole : ℤ) → pos 0 <ℤ den → IsNearest num den (nearest num den) → IsNearest num den whole → whole ≡ nearest num den
one_nearest num (negsuc d) whole positive is one = absurd (omega (arith, ints))
one_nearest num (pos d) whole positive is one =
    let some : 0 < d = omega (arith, ints) in
    let below : whole <ℤ nearest num (pos d) → ⊥ = not_smaller num d whole _ some one is in
    let above : nearest num (pos d) <ℤ whole → ⊥ = not_smaller num d _ whole some is one in
    same_from_order whole (nearest num (pos d)) below above
