-- The text of a number of scaled points reads as the number.
use Rattle.std.proofs.Common.{◌≡◌, ◌<◌, ◌≤◌, ◌+◌, ◌-◌, ◌*◌, ◌/◌, ◌%◌, ◌^◌, ℕ, suc, ℤ, pos, negsuc, neg_ℤ, List, [], ◌∷◌, ◌++◌, map, ◌==◌, false, arith, refl, ap, ◌∙◌, append_assoc, FitsSigned}
use Rattle.std.specs.Int.{w32}
use Rattle.std.specs.Fmt.{decimal}
use Rattle.std.proofs.lemmas.Fmt.{decimal_by_steps}
use Rattle.std.proofs.lemmas.Bool.Decides.{nat_tests}
use Rattle.etx_scaled.specs.Decimal.{decimal_text, unsigned_text, digits_of_fraction, glyphs}
use Rattle.etx_scaled.specs.Reading.{fraction_read, unsigned_read, scaled_read}
use Rattle.etx_scaled.proofs.Readings.{fraction_reads}

-- a byte that isn't a full stop is a digit more
digit_read : (n c : ℕ) (cs : List ℕ) → 48 ≤ c → unsigned_read n (c ∷ cs) ≡ unsigned_read (10 * n + (c - 48)) cs
digit_read n c cs h = let test : (c == 46) ≡ false = grind (arith, nat_tests) in rw test refl

-- the digits of n bring the whole part to n
Brings : ℕ → List ℕ → Type 0
Brings n cs = (rest : List ℕ) → unsigned_read 0 (cs ++ rest) ≡ unsigned_read n rest

brings_one : (n : ℕ) → n < 10 → Brings n ((48 + n) ∷ [])
unfolding Brings
brings_one n h rest =
    let same : 10 * 0 + (48 + n - 48) ≡ n = omega arith in
    digit_read 0 (48 + n) rest (omega arith) ∙ ap (λ m. unsigned_read m rest) same

brings_more : (n : ℕ) (cs : List ℕ) → 10 ≤ n → Brings (n / 10) cs → Brings n (cs ++ (48 + n % 10) ∷ [])
unfolding Brings
brings_more n cs h before rest =
    let same : 10 * (n / 10) + (48 + n % 10 - 48) ≡ n = omega arith in
    rw (append_assoc cs ((48 + n % 10) ∷ []) rest)
    (before ((48 + n % 10) ∷ rest) ∙ (digit_read (n / 10) (48 + n % 10) rest (omega arith) ∙ ap (λ m. unsigned_read m rest) same))

whole_read : (n : ℕ) → n < 2 ^ 64 → (rest : List ℕ) → unsigned_read 0 (decimal n ++ rest) ≡ unsigned_read n rest
unfolding Brings
whole_read n h = decimal_by_steps Brings brings_one brings_more n h

-- digits stand for no sign
Unsigned : ℕ → List ℕ → Type 0
Unsigned n cs = (rest : List ℕ) → scaled_read (cs ++ rest) ≡ pos (unsigned_read 0 (cs ++ rest))

unsigned_one : (n : ℕ) → n < 10 → Unsigned n ((48 + n) ∷ [])
unfolding Unsigned
unsigned_one n h rest = let test : (48 + n == 45) ≡ false = grind (arith, nat_tests) in rw test refl

unsigned_more : (n : ℕ) (cs : List ℕ) → 10 ≤ n → Unsigned (n / 10) cs → Unsigned n (cs ++ (48 + n % 10) ∷ [])
unfolding Unsigned
unsigned_more n cs h before rest = rw (append_assoc cs ((48 + n % 10) ∷ []) rest) (before ((48 + n % 10) ∷ rest))

no_sign : (n : ℕ) → n < 2 ^ 64 → (rest : List ℕ) → scaled_read (decimal n ++ rest) ≡ pos (unsigned_read 0 (decimal n ++ rest))
unfolding Unsigned
no_sign n h = decimal_by_steps Unsigned unsigned_one unsigned_more n h

glyphs_read : (ds : List ℕ) → map (λ d. d - 48) (glyphs ds) ≡ ds
glyphs_read [] = refl
glyphs_read (d ∷ ds) = let same : 48 + d - 48 ≡ d = omega arith in rw (same, glyphs_read ds) refl

unsigned_reads : (n : ℕ) → n < 2 ^ 32 → unsigned_read 0 (unsigned_text n) ≡ n
unsigned_reads n h =
    let f = n % 65536 in
    let behind : map (λ d. d - 48) (glyphs (digits_of_fraction f)) ≡ digits_of_fraction f = glyphs_read (digits_of_fraction f) in
    let fraction : fraction_read (digits_of_fraction f) ≡ f = fraction_reads f (omega arith) in
    let stop : unsigned_read (n / 65536) (46 ∷ glyphs (digits_of_fraction f)) ≡ n / 65536 * 65536 + fraction_read (map (λ d. d - 48) (glyphs (digits_of_fraction f))) = refl in
    whole_read (n / 65536) (omega arith) (46 ∷ glyphs (digits_of_fraction f)) ∙ (stop ∙ rw (behind, fraction) (omega arith))

pub text_reads : (z : ℤ) → FitsSigned w32 z → scaled_read (decimal_text z) ≡ z
text_reads (pos n) fits =
    no_sign (n / 65536) (omega (arith, fits.sfits)) (46 ∷ glyphs (digits_of_fraction (n % 65536))) ∙ ap pos (unsigned_reads n (omega (arith, fits.sfits)))
text_reads (negsuc n) fits = ap (λ m. neg_ℤ (pos m)) (unsigned_reads (suc n) (omega (arith, fits.sfits)))
