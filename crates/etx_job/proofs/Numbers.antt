-- Decimal numbers on the command line.
use Rattle.std.proofs.Common.{◌≡◌, ℕ, zero, suc, ◌+◌, ◌-◌, ◌*◌, ◌^◌, ◌<◌, ◌≤◌, true, List, [], ◌∷◌, map, length, None, refl, ap, subst, pow-suc, arith}
use Rattle.std.proofs.lemmas.Bool.Decides.{nat_tests}
use Rattle.etx_job.specs.Words.{is_digit, job_behind}

ten_up : (k i j : ℕ) → j ≡ k + i → 10 ^ i ≤ 10 ^ j
ten_up zero i j is = let same : i ≡ j = omega (arith, is) in subst (λ m. 10 ^ i ≤ 10 ^ m) same (omega arith)
ten_up (suc k) i j is =
    let step : suc (j - 1) ≡ j = omega (arith, is) in
    subst (λ m. 10 ^ i ≤ 10 ^ m) step (omega (arith, ten_up k i (j - 1) (omega (arith, is)), pow-suc 10 (j - 1)))

-- a power of ten of at most twelve noughts
pub twelve : (i : ℕ) → i < 13 → 10 ^ i ≤ 1000000000000
twelve i lt = ten_up (12 - i) i 12 (omega (arith, lt))

-- a digit more
pub more_small : (n x i : ℕ) → n < 10 ^ i → x ≤ 9 → n * 10 + x < 10 ^ (i + 1)
more_small n x i small le = let same : suc i ≡ i + 1 = omega arith in subst (λ m. n * 10 + x < 10 ^ m) same (omega (arith, small, le, pow-suc 10 i))

pub more_worth : (n x k v : ℕ) → (n * 10 + x) * 10 ^ k + v ≡ n * 10 ^ suc k + (x * 10 ^ k + v)
more_worth n x k v = omega (arith, ap (λ p. n * p) (pow-suc 10 k))

pub digit_is : (x : ℕ) → 48 ≤ x → x ≤ 57 → is_digit x ≡ true
digit_is x low high = grind (arith, nat_tests)

-- four words or more behind `alone` ask for no job
pub many_asked : {X : Type 0} (f : X → List ℕ) (words : List X) → 4 ≤ length words → None ≡ job_behind (map f words)
many_asked f [] long = absurd (omega (arith, long))
many_asked f (a ∷ []) long = absurd (omega (arith, long))
many_asked f (a ∷ b ∷ []) long = absurd (omega (arith, long))
many_asked f (a ∷ b ∷ c ∷ []) long = absurd (omega (arith, long))
many_asked f (a ∷ b ∷ c ∷ d ∷ words) long = refl
