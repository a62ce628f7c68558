-- Numbers in decimal and in hexadecimal, digit by digit.
use Rattle.std.proofs.Common.{◌≡◌, ℕ, zero, suc, ◌+◌, ◌*◌, ◌/◌, ◌%◌, ◌<◌, ◌≤◌, nat_lt, Bool, true, false, List, [], ◌∷◌, ◌++◌, refl, sym, ◌∙◌, ap, arith, if◌then◌else◌}
use Rattle.std.proofs.lemmas.Bool.Decides.{nat_tests}
use Rattle.std.specs.Fmt.{decimal}
use Rattle.std.proofs.lemmas.Fmt.{decimal_digit, decimal_step}
use Rattle.etx_answers.specs.Showing.{hex_glyph, hex_digits, hex_text}

is_less : (n m : ℕ) → n < m → nat_lt n m ≡ true
is_less n m l = grind (arith, nat_tests)

not_less : (n m : ℕ) → m ≤ n → nat_lt n m ≡ false
not_less n m l = grind (arith, nat_tests)

-- the numbers below have so many digits at most, and one more
abbrev room : ℕ → ℕ
room zero = 16
room (suc k) = 16 * room k

-- of a number that needs no more, more room changes nothing
more_none : (n : ℕ) → n < 16 → hex_digits 1 n ≡ hex_digits 0 n
more_none n few =
    let same : n % 16 ≡ n = omega (arith, few) in
    rw (is_less n 16 few) (ap (λ (k : ℕ). hex_glyph k ∷ []) (sym same))

more_room : (k n : ℕ) → n < room k → hex_digits (suc k) n ≡ hex_digits k n
more_room zero n small = more_none n small
more_room (suc k) n small = by (nat_lt n 16) (more_room k (n / 16) (omega (arith, small)))
  where
    by : (b : Bool) → hex_digits (suc k) (n / 16) ≡ hex_digits k (n / 16) → (if b then hex_glyph n ∷ [] else hex_digits (suc k) (n / 16) ++ hex_glyph (n % 16) ∷ []) ≡ (if b then hex_glyph n ∷ [] else hex_digits k (n / 16) ++ hex_glyph (n % 16) ∷ [])
    by true e = refl
    by false e = ap (λ (ds : List ℕ). ds ++ hex_glyph (n % 16) ∷ []) e

pub hex_one : (n : ℕ) → n < 16 → hex_text n ≡ hex_glyph n ∷ []
unfolding hex_text
hex_one n few = rw (is_less n 16 few) refl

pub hex_more : (n : ℕ) → 16 ≤ n → n < 4294967296 → hex_text n ≡ hex_text (n / 16) ++ hex_glyph (n % 16) ∷ []
unfolding hex_text
hex_more n some small =
    let fewer : n / 16 < 4294967296 = omega (arith, small) in
    rw (not_less n 16 some) (ap (λ (ds : List ℕ). ds ++ hex_glyph (n % 16) ∷ []) (sym (more_room 7 (n / 16) fewer)))

pub decimal_one : (n : ℕ) → n < 10 → decimal n ≡ (48 + n % 10) ∷ []
decimal_one n few = let same : n % 10 ≡ n = omega arith in rw same (decimal_digit n few)

pub decimal_more : (n : ℕ) → 10 ≤ n → n < 4294967296 → decimal n ≡ decimal (n / 10) ++ (48 + n % 10) ∷ []
decimal_more n some small = decimal_step n some (omega arith)
