-- Characters that begin no front.
use Rattle.std.proofs.Common.{◌≡◌, ◌≢◌, ℕ, ◌<◌, length, true, false, eqb, List, [], ◌∷◌, None, refl, ap, arith}
use Rattle.std.proofs.lemmas.Bool.Decides.{nat_tests}
use Rattle.etx_lexer.specs.Fronts.{is_front, front_of}
use Rattle.etx_lexer.specs.Classes.{class_of}
use Rattle.etx_lexer.specs.declared.categories.Class.TheVariants as class
use Rattle.etx_lexer.proofs.Walks.{by_test}

-- a character that isn't of category 7 begins no front
pub bare_by_cat : (cats : ℕ → ℕ) (c : ℕ) (rest : List ℕ) → eqb (cats c) 7 ≡ false → front_of cats (c ∷ rest) ≡ None
unfolding front_of is_front
bare_by_cat cats c [] h = refl
bare_by_cat cats c (d ∷ []) h = refl
bare_by_cat cats c (d ∷ e ∷ rest) h = rw h refl

class_seven : (n : ℕ) → eqb n 7 ≡ true → class_of n ≡ class.Plain
unfolding class_of
class_seven n h = grind (arith, nat_tests)

-- a character that isn't plain begins no front
pub bare_by_class : (cats : ℕ → ℕ) (c : ℕ) (rest : List ℕ) → class_of (cats c) ≢ class.Plain → front_of cats (c ∷ rest) ≡ None
bare_by_class cats c rest h =
    by_test (eqb (cats c) 7)
    (λ t. absurd (h (class_seven (cats c) t)))
    (λ f. bare_by_cat cats c rest f)

-- a letter begins no front
pub bare_letter : (cats : ℕ → ℕ) (c : ℕ) (rest : List ℕ) → cats c ≡ 11 → front_of cats (c ∷ rest) ≡ None
bare_letter cats c rest h = bare_by_cat cats c rest (ap (λ n. eqb n 7) h)

-- a space begins no front
pub bare_space : (cats : ℕ → ℕ) (c : ℕ) (rest : List ℕ) → cats c ≡ 10 → front_of cats (c ∷ rest) ≡ None
bare_space cats c rest h = bare_by_cat cats c rest (ap (λ n. eqb n 7) h)

-- a character behind which fewer than two stand begins no front
pub bare_short : (cats : ℕ → ℕ) (c : ℕ) (rest : List ℕ) → length rest < 2 → front_of cats (c ∷ rest) ≡ None
unfolding front_of
bare_short cats c [] h = refl
bare_short cats c (d ∷ []) h = refl
bare_short cats c (d ∷ e ∷ rest) h = absurd (omega arith)
