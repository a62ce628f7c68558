-- The digits that are printed, one at a time.
use Rattle.std.proofs.Common.{◌≡◌, ◌<◌, ◌≤◌, ◌+◌, ◌-◌, ◌*◌, ◌/◌, ◌%◌, ◌^◌, ℕ, zero, suc, inl, inr, [], ◌∷◌, ◌++◌, nat_le, false, true, arith, refl, ap}
use Rattle.std.proofs.Math.Nat.{pow-suc}
use Rattle.std.proofs.lemmas.Bool.{cases_lt}
use Rattle.std.proofs.lemmas.Bool.Decides.{nat_tests}
use Rattle.std.specs.Fmt.{decimal}
use Rattle.std.proofs.lemmas.Fmt.{decimal_step, decimal_digit}
use Rattle.etx_scaled.specs.Decimal.{rounded, fraction_digits, glyphs}

-- none where no place is left, one where what remains is small enough, and more where it isn't
pub none : (s delta : ℕ) → fraction_digits 0 s delta ≡ []
unfolding fraction_digits
none s delta = refl

pub last : (places s delta t : ℕ) → t ≡ rounded s delta → 10 * (t % 65536) ≤ 10 * delta → fraction_digits (suc places) s delta ≡ t / 65536 ∷ []
unfolding fraction_digits
last places s delta t digit enough =
    let test : nat_le (10 * (t % 65536)) (10 * delta) ≡ true = grind (arith, nat_tests) in
    rw (← digit, test) refl

pub more : (places s delta t : ℕ) → t ≡ rounded s delta → 10 * delta < 10 * (t % 65536) → fraction_digits (suc places) s delta ≡ t / 65536 ∷ fraction_digits places (10 * (t % 65536)) (10 * delta)
unfolding fraction_digits
more places s delta t digit less =
    let test : nat_le (10 * (t % 65536)) (10 * delta) ≡ false = grind (arith, nat_tests) in
    rw (← digit, test) refl

-- the first digit alone, where all that a digit can leave is small enough
at_once : (places s delta : ℕ) → 65536 ≤ delta → fraction_digits (suc places) s delta ≡ rounded s delta / 65536 ∷ []
at_once places s delta enough = last places s delta (rounded s delta) refl (omega arith)

-- digits behind the first that are the same for two numbers of places
after_first : (p q s delta : ℕ) → fraction_digits p (10 * (rounded s delta % 65536)) (10 * delta) ≡ fraction_digits q (10 * (rounded s delta % 65536)) (10 * delta) →
    fraction_digits (suc p) s delta ≡ fraction_digits (suc q) s delta
after_first p q s delta same = elim (cases_lt (10 * delta) (10 * (rounded s delta % 65536))) [
  | inl less ↦ rw (more p s delta (rounded s delta) refl less, more q s delta (rounded s delta) refl less, same) refl
  | inr enough ↦ rw (last p s delta (rounded s delta) refl enough, last q s delta (rounded s delta) refl enough) refl
]

ten_times : (delta power : ℕ) → 65536 ≤ delta * (power * 10) → 65536 ≤ 10 * delta * power
ten_times delta power h = omega arith

-- a place more changes nothing, where the digits end without it
one_more : (k places s delta : ℕ) → k ≤ places → 65536 ≤ delta * 10 ^ k → fraction_digits (suc (suc places)) s delta ≡ fraction_digits (suc places) s delta
one_more zero places s delta h enough =
    let small : 65536 ≤ delta = omega arith in
    rw (at_once (suc places) s delta small, at_once places s delta small) refl
one_more (suc k) zero s delta h enough = absurd (omega arith)
one_more (suc k) (suc places) s delta h enough =
    after_first (suc (suc places)) (suc places) s delta
    (one_more k places (10 * (rounded s delta % 65536)) (10 * delta) (omega arith) (ten_times delta (10 ^ k) (rw (← pow-suc 10 k) enough)))

pub places_enough : (f places : ℕ) → 5 ≤ places → fraction_digits places (10 * f + 5) 10 ≡ fraction_digits 5 (10 * f + 5) 10
places_enough f zero h = absurd (omega arith)
places_enough f (suc zero) h = absurd (omega arith)
places_enough f (suc (suc places)) h = elim (cases_lt (suc places) 5) [
  | inl few ↦ let e : places ≡ 3 = omega arith in rw e refl
  | inr more ↦ rw (one_more 4 places (10 * f + 5) 10 (omega arith) (omega arith)) (places_enough f (suc places) more)
]

-- the same of the bytes that show them
pub fraction_digits-none : (places s delta : ℕ) → places ≡ 0 → glyphs (fraction_digits places s delta) ≡ []
fraction_digits-none zero s delta e = rw none refl
fraction_digits-none (suc places) s delta e = absurd (omega arith)

pub fraction_digits-last : (places s delta t : ℕ) → 0 < places → t ≡ rounded s delta → 10 * (t % 65536) ≤ 10 * delta → glyphs (fraction_digits places s delta) ≡ (48 + t / 65536) ∷ []
fraction_digits-last zero s delta t some digit enough = absurd (omega arith)
fraction_digits-last (suc places) s delta t some digit enough = ap glyphs (last places s delta t digit enough)

pub fraction_digits-more : (places s delta t : ℕ) → 0 < places → t ≡ rounded s delta → 10 * delta < 10 * (t % 65536) →
    glyphs (fraction_digits places s delta) ≡ (48 + t / 65536) ∷ glyphs (fraction_digits (places - 1) (10 * (t % 65536)) (10 * delta))
fraction_digits-more zero s delta t some digit less = absurd (omega arith)
fraction_digits-more (suc places) s delta t some digit less =
    let e : suc places - 1 ≡ places = omega arith in
    rw e (ap glyphs (more places s delta t digit less))

-- a whole part of one digit, and one of more
pub decimal-digit : (n : ℕ) → n < 10 → decimal n ≡ (48 + n % 10) ∷ []
decimal-digit n small = let e : n % 10 ≡ n = omega arith in rw e (decimal_digit n small)

pub decimal-more : (n : ℕ) → 10 ≤ n → n < 2 ^ 32 → decimal n ≡ decimal (n / 10) ++ (48 + n % 10) ∷ []
decimal-more n more small = decimal_step n more (omega arith)
