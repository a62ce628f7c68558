-- The ends of lines: the spaces and the byte 13 that are dropped there.
use Rattle.std.proofs.Common.{◌≡◌, ◌≢◌, ℕ, zero, suc, ◌+◌, ◌-◌, ◌<◌, ◌≤◌, cond, List, [], ◌∷◌, ◌++◌, length, get_or, take, refl, sym, ◌∙◌, ap, subst, arith}
use Rattle.std.proofs.lemmas.Bool.{ne_eqb}
use Rattle.std.proofs.lemmas.List.{take_more}
use Rattle.etx_lexer.specs.Places.{before_trimmed, trimmed}
use Rattle.etx_lexer.specs.Splitting.{without_return}

-- the last of the first n
take_last : (xs : List ℕ) (n : ℕ) → 0 < n → n ≤ length xs → take n xs ≡ take (n - 1) xs ++ get_or xs (n - 1) 0 ∷ []
take_last xs n above within =
    let e : n - 1 + 1 ≡ n = omega arith in
    subst (λ k. take k xs ≡ take (n - 1) xs ++ get_or xs (n - 1) 0 ∷ []) e (take_more xs (n - 1) 0 (omega arith))

trimmed-space : (xs : List ℕ) → trimmed (xs ++ 32 ∷ []) ≡ trimmed xs
unfolding trimmed
trimmed-space [] = refl
trimmed-space (b ∷ rest) = ap (before_trimmed b) (trimmed-space rest)

before-last : (a : ℕ) (xs : List ℕ) (b : ℕ) → before_trimmed a (xs ++ b ∷ []) ≡ a ∷ (xs ++ b ∷ [])
before-last a [] b = refl
before-last a (x ∷ xs) b = refl

trimmed-other : (xs : List ℕ) (b : ℕ) → b ≢ 32 → trimmed (xs ++ b ∷ []) ≡ xs ++ b ∷ []
unfolding trimmed
trimmed-other [] b h = ap (λ t. cond t [] (b ∷ [])) (ne_eqb b 32 h)
trimmed-other (a ∷ rest) b h = ap (before_trimmed a) (trimmed-other rest b h) ∙ before-last a rest b

-- a space at the end is dropped
pub trim_step : (xs : List ℕ) (n : ℕ) → 0 < n → n ≤ length xs → get_or xs (n - 1) 0 ≡ 32 → trimmed (take n xs) ≡ trimmed (take (n - 1) xs)
trim_step xs n above within h =
    ap trimmed (take_last xs n above within ∙ ap (λ b. take (n - 1) xs ++ b ∷ []) h) ∙ trimmed-space (take (n - 1) xs)

-- where the last byte is no space, all stays
pub trim_stop : (xs : List ℕ) (n : ℕ) → 0 < n → n ≤ length xs → get_or xs (n - 1) 0 ≢ 32 → trimmed (take n xs) ≡ take n xs
trim_stop xs n above within h =
    ap trimmed (take_last xs n above within) ∙ trimmed-other (take (n - 1) xs) (get_or xs (n - 1) 0) h ∙ sym (take_last xs n above within)

pub trim_nothing : (xs : List ℕ) (n : ℕ) → n ≤ 0 → trimmed (take n xs) ≡ take n xs
unfolding trimmed
trim_nothing xs zero h = refl
trim_nothing xs (suc n) h = absurd (omega arith)

pub without-return : (xs : List ℕ) → without_return (xs ++ 13 ∷ []) ≡ xs
unfolding without_return
without-return [] = refl
without-return (a ∷ []) = refl
without-return (a ∷ b ∷ rest) = ap (◌∷◌ a) (without-return (b ∷ rest))

without-other : (xs : List ℕ) (b : ℕ) → b ≢ 13 → without_return (xs ++ b ∷ []) ≡ xs ++ b ∷ []
unfolding without_return
without-other [] b h = ap (λ t. cond t [] (b ∷ [])) (ne_eqb b 13 h)
without-other (a ∷ []) b h = ap (λ t. a ∷ cond t [] (b ∷ [])) (ne_eqb b 13 h)
without-other (a ∷ c ∷ rest) b h = ap (◌∷◌ a) (without-other (c ∷ rest) b h)

whole : (xs : List ℕ) → take (length xs) xs ≡ xs
whole [] = refl
whole (x ∷ xs) = ap (◌∷◌ x) (whole xs)

-- a byte 13 at the end is dropped
pub kept_less : (xs : List ℕ) → 0 < length xs → get_or xs (length xs - 1) 0 ≡ 13 → take (length xs - 1) xs ≡ without_return xs
kept_less xs above h =
    sym (without-return (take (length xs - 1) xs))
    ∙ ap without_return (ap (λ b. take (length xs - 1) xs ++ b ∷ []) (sym h) ∙ sym (take_last xs (length xs) above (omega arith)) ∙ whole xs)

-- where the last byte is another, all stays
pub kept_whole : (xs : List ℕ) → 0 < length xs → get_or xs (length xs - 1) 0 ≢ 13 → take (length xs) xs ≡ without_return xs
kept_whole xs above h =
    let split = take_last xs (length xs) above (omega arith) in
    split ∙ sym (without-other (take (length xs - 1) xs) (get_or xs (length xs - 1) 0) h) ∙ ap without_return (sym split ∙ whole xs)

pub kept_nothing : (xs : List ℕ) → length xs ≤ 0 → take (length xs) xs ≡ without_return xs
unfolding without_return
kept_nothing [] h = refl
kept_nothing (x ∷ xs) h = absurd (omega arith)
