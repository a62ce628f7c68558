-- What TeX reads from the digits that it prints.
use Rattle.std.proofs.Common.{◌≡◌, ◌≢◌, ◌<◌, ◌≤◌, ◌+◌, ◌-◌, ◌*◌, ◌/◌, ◌%◌, ◌^◌, inl, inr, ℕ, zero, suc, List, [], ◌∷◌, length, nat_lt, false, true, arith, refl, rules, ap, All}
use Rattle.std.proofs.Math.Nat.{div-div-eq-div-mul, add-mul-div_right, pow-suc, one-le-pow, div-mul-le_self, lt-div-mul-add, mul-le-mul_right, mul-le-mul_left}
use Rattle.std.proofs.lemmas.Bool.Decides.{nat_tests}
use Rattle.std.proofs.lemmas.Bool.{cases_lt}
use Rattle.std.proofs.lemmas.List.Elements.{All-cons}
use Rattle.etx_scaled.proofs.Decimals.{last, more}
use Rattle.etx_scaled.specs.Decimal.{rounded, fraction_digits, digits_of_fraction}
use Rattle.etx_scaled.specs.Reading.{doubled_fraction, fraction_read}

-- ten to the number of digits
abbrev pub scale : List ℕ → ℕ
scale [] = 1
scale (d ∷ ds) = scale ds * 10

-- the number that the digits write
abbrev pub number : List ℕ → ℕ
number [] = 0
number (d ∷ ds) = d * scale ds + number ds

pub scale_pos : (ds : List ℕ) → 0 < scale ds
scale_pos [] = omega arith
scale_pos (d ∷ ds) = omega (arith, scale_pos ds)

pub doubled_fraction-closed : (ds : List ℕ) → doubled_fraction ds ≡ number ds * 131072 / scale ds
doubled_fraction-closed [] = refl
doubled_fraction-closed (d ∷ ds) =
    let p = scale ds in
    let whole : (number ds * 131072 + d * 131072 * p) / p ≡ number ds * 131072 / p + d * 131072 = add-mul-div_right (number ds * 131072) (d * 131072) (scale_pos ds) in
    let same : number ds * 131072 + d * 131072 * p ≡ (d * p + number ds) * 131072 = omega arith in
    rw (doubled_fraction-closed ds, ← whole, same) (div-div-eq-div-mul ((d * p + number ds) * 131072) p 10)

-- the number n / q lies within half a scaled point of f scaled points
pub record Near (f q n : ℕ) : Type 0 where
  pub low : 2 * f * q ≤ n * 131072 + q
  pub high : n * 131072 < (2 * f + 1) * q

below_from_products : (x y q : ℕ) → x * q < y * q → x < y
below_from_products x y q h = elim (cases_lt x y) [ inl below ↦ below | inr above ↦ absurd (omega (arith, mul-le-mul_right q above)) ]

pub read_near : (f : ℕ) (ds : List ℕ) → Near f (scale ds) (number ds) → fraction_read ds ≡ f
read_near f ds near =
    let q = scale ds in
    let x = number ds * 131072 in
    let positive : 0 < q = scale_pos ds in
    let least : x / q * q ≤ x = div-mul-le_self x q in
    let most : x < x / q * q + q = lt-div-mul-add positive in
    let low : 2 * f < x / q + 2 = below_from_products (2 * f) (x / q + 2) q (omega (arith, near.low)) in
    let high : x / q < 2 * f + 1 = below_from_products (x / q) (2 * f + 1) q (omega (arith, near.high)) in
    let same : doubled_fraction ds ≡ x / q = doubled_fraction-closed ds in
    omega arith

pub near_read : (f : ℕ) (ds : List ℕ) → fraction_read ds ≡ f → Near f (scale ds) (number ds)
near_read f ds e =
    let q = scale ds in
    let x = number ds * 131072 in
    let positive : 0 < q = scale_pos ds in
    let least : x / q * q ≤ x = div-mul-le_self x q in
    let most : x < x / q * q + q = lt-div-mul-add positive in
    let same : doubled_fraction ds ≡ x / q = doubled_fraction-closed ds in
    let low : 2 * f ≤ x / q + 1 = omega arith in
    let high : x / q ≤ 2 * f = omega arith in
    record { low = omega (arith, mul-le-mul_right q low); high = omega (arith, mul-le-mul_right q high) }

-- no decimal lies halfway between two numbers of scaled points
not_halfway : (k p n m : ℕ) → p * 10 ^ suc k ≡ 100000 → n * 131072 ≡ p * 10 * (2 * m + 1) → ⊥
not_halfway k p n m scaled e =
    let power : 10 ^ suc k ≡ 10 ^ k * 10 = pow-suc 10 k in
    let scaled' : p * (10 ^ k * 10) ≡ 100000 = rw power at scaled in
    let tens : p * 10 ^ k ≡ 10000 = omega arith in
    let whole : n * 10 ^ k * 131072 ≡ p * 10 ^ k * (20 * m + 10) = omega (arith, ap (λ z. z * 10 ^ k) e) in
    let even : n * 10 ^ k * 131072 ≡ 10000 * (20 * m + 10) = rw tens at whole in
    omega arith

-- one digit more, where that is near enough, and where it isn't
near_last : (k p n s f : ℕ) → p * 10 ^ suc k ≡ 100000 → s + 655360 * n ≡ p * (10 * f + 5) → s % 65536 ≤ 10 * p → Near f (p * 10) (n * 10 + s / 65536)
near_last k p n s f scaled at enough =
    let unlike : (n * 10 + s / 65536) * 131072 ≡ p * 10 * (2 * f + 1) → ⊥ = not_halfway k p (n * 10 + s / 65536) f scaled in
    record { low = omega arith; high = omega arith }

too_short : (p n s f m : ℕ) → s + 655360 * n ≡ p * (10 * f + 5) → 10 * p < s % 65536 → Near f (p * 10) m → ⊥
too_short p n s f m at less near = omega (arith, near.low, near.high)

-- the fifth digit, rounded
near_fifth : (n s f : ℕ) → s + 655360 * n ≡ 10000 * (10 * f + 5) → 17232 ≤ s → Near f 100000 (n * 10 + (s - 17232) / 65536)
near_fifth n s f at room = record { low = omega arith; high = omega arith }

-- what is known of digits that print f scaled points behind digits that write n, where p is ten to the number of those
pub record IsPrinted (places f p n : ℕ) (ds : List ℕ) : Type 0 where
  pub near : Near f (p * scale ds) (n * scale ds + number ds)
  pub shortest : (ms : List ℕ) (m : ℕ) → 1 ≤ length ms → length ms < length ds → Near f (p * scale ms) m → ⊥
  pub digits : All (λ d. d < 10) ds
  pub some : 1 ≤ length ds
  pub few : length ds ≤ places

-- one digit
printed_one : (places f p n d : ℕ) → 1 ≤ places → d < 10 → Near f (p * 10) (n * 10 + d) → IsPrinted places f p n (d ∷ [])
printed_one places f p n d one small near =
    let n_same : n * (1 * 10) + (d * 1 + 0) ≡ n * 10 + d = omega arith in
    record {
      near = rw n_same near;
      shortest = λ ms m long short. absurd (omega arith);
      digits = search rules;
      some = omega arith;
      few = omega arith;
    }

-- one digit and those behind it
shorter_more : (places f p n d : ℕ) (ds : List ℕ) → IsPrinted places f (p * 10) (n * 10 + d) ds →
    ((m : ℕ) → Near f (p * 10) m → ⊥) →
    (ms : List ℕ) (m : ℕ) → 1 ≤ length ms → length ms < length (d ∷ ds) → Near f (p * scale ms) m → ⊥
shorter_more places f p n d ds rest not_one [] m long short near = absurd (omega arith)
shorter_more places f p n d ds rest not_one (a ∷ []) m long short near = not_one m near
shorter_more places f p n d ds rest not_one (a ∷ b ∷ ms) m long short near =
    let same : p * (scale (b ∷ ms) * 10) ≡ p * 10 * scale (b ∷ ms) = omega arith in
    rest.shortest (b ∷ ms) m (omega arith) (omega arith) (rw same at near)

printed_more : (places f p n d : ℕ) (ds : List ℕ) → d < 10 → IsPrinted places f (p * 10) (n * 10 + d) ds →
    ((m : ℕ) → Near f (p * 10) m → ⊥) → IsPrinted (suc places) f p n (d ∷ ds)
printed_more places f p n d ds small rest not_one =
    let q_same : p * (scale ds * 10) ≡ p * 10 * scale ds = omega arith in
    let n_same : n * (scale ds * 10) + (d * scale ds + number ds) ≡ (n * 10 + d) * scale ds + number ds = omega arith in
    record {
      near = rw (q_same, n_same) rest.near;
      shortest = shorter_more places f p n d ds rest not_one;
      digits = All-cons (λ d. d < 10) d ds small rest.digits;
      some = omega arith;
      few = omega (arith, rest.few);
    }

rounded_early : (s delta : ℕ) → delta ≤ 65536 → s ≡ rounded s delta
rounded_early s delta h = let test : nat_lt 65536 delta ≡ false = grind (arith, nat_tests) in rw test refl

rounded_last : (s delta : ℕ) → 65536 < delta → s - 17232 ≡ rounded s delta
rounded_last s delta h = let test : nat_lt 65536 delta ≡ true = grind (arith, nat_tests) in rw test (omega arith)

early_power : (places p : ℕ) → p * 10 ^ suc (suc places) ≡ 100000 → p ≤ 1000
early_power places p scaled =
    let scaled' : p * (10 ^ places * 10 * 10) ≡ 100000 = rw (pow-suc 10 (suc places), pow-suc 10 places) at scaled in
    let some : 1 ≤ 10 ^ places = one-le-pow places 10 (omega arith) in
    let most : p * 1 ≤ p * 10 ^ places = mul-le-mul_left p some in
    omega arith

-- what is printed, by the number of places that are left
pub printed : (places f p n s delta : ℕ) → 1 ≤ places → delta ≡ 10 * p → p * 10 ^ places ≡ 100000 →
    s + 655360 * n ≡ p * (10 * f + 5) → s < 655360 → (65536 < delta → 65536 < s) →
    IsPrinted places f p n (fraction_digits places s delta)
printed zero f p n s delta one at_delta scaled at below unfinished = absurd (omega arith)
printed (suc zero) f p n s delta one at_delta scaled at below unfinished =
    let power : p ≡ 10000 = omega arith in
    let tens : p * 10 ≡ 100000 = omega arith in
    let at' : s + 655360 * n ≡ 10000 * (10 * f + 5) = rw power at at in
    let enough : 10 * ((s - 17232) % 65536) ≤ 10 * delta = omega arith in
    rw (last 0 s delta (s - 17232) (rounded_last s delta (omega arith)) enough)
    (printed_one 1 f p n ((s - 17232) / 65536) (omega arith) (omega arith) (rw tens (near_fifth n s f at' (omega arith))))
printed (suc (suc places)) f p n s delta one at_delta scaled at below unfinished =
    let early : p ≤ 1000 = early_power places p scaled in
    let digit : s ≡ rounded s delta = rounded_early s delta (omega arith) in
    elim (cases_lt (10 * delta) (10 * (s % 65536))) [
      | inl less ↦
          let power : p * (10 ^ suc places * 10) ≡ 100000 = rw (pow-suc 10 (suc places)) at scaled in
          let scaled' : p * 10 * 10 ^ suc places ≡ 100000 = omega arith in
          let rest : IsPrinted (suc places) f (p * 10) (n * 10 + s / 65536) (fraction_digits (suc places) (10 * (s % 65536)) (10 * delta)) =
          printed (suc places) f (p * 10) (n * 10 + s / 65536) (10 * (s % 65536)) (10 * delta) (omega arith) (omega arith) scaled' (omega arith) (omega arith) (λ big. omega arith) in
          rw (more (suc places) s delta s digit less)
          (printed_more (suc places) f p n (s / 65536) _ (omega arith) rest (λ m. too_short p n s f m at (omega arith)))
      | inr enough ↦
          rw (last (suc places) s delta s digit enough)
          (printed_one (suc (suc places)) f p n (s / 65536) (omega arith) (omega arith) (near_last (suc places) p n s f scaled at (omega arith)))
    ]

-- what is printed of f scaled points
pub fraction_printed : (f : ℕ) → f < 65536 → IsPrinted 5 f 1 0 (digits_of_fraction f)
fraction_printed f small = printed 5 f 1 0 (10 * f + 5) 10 (omega arith) refl refl (omega arith) (omega arith) (λ big. absurd (omega arith))

pub fraction_reads : (f : ℕ) → f < 65536 → fraction_read (digits_of_fraction f) ≡ f
fraction_reads f small =
    let ds = digits_of_fraction f in
    let near = (fraction_printed f small).near in
    let q : 1 * scale ds ≡ scale ds = omega arith in
    let n : 0 * scale ds + number ds ≡ number ds = omega arith in
    read_near f ds (rw (q, n) at near)

pub fraction_shortest : (f : ℕ) (ms : List ℕ) → f < 65536 → 1 ≤ length ms → length ms < length (digits_of_fraction f) → fraction_read ms ≢ f
fraction_shortest f ms small long short same =
    let q : 1 * scale ms ≡ scale ms = omega arith in
    (fraction_printed f small).shortest ms (number ms) long short (rw q (near_read f ms same))
