-- How the walk along a text goes, and what it shows of each text.
use Rattle.std.proofs.Common.{◌≡◌, ℕ, Bool, true, false, ◌&&◌, List, [], ◌∷◌, Some, None, cond, refl, sym, ◌∙◌, ap}
use Rattle.etx_lexer.specs.Fronts.{is_hex, hex_code, shifted, is_front, replaced, front_of}
use Rattle.etx_lexer.specs.Reading.{walk_at, walk}

-- a test comes out one way or the other
pub by_test : {A : Type 0} (b : Bool) → (b ≡ true → A) → (b ≡ false → A) → A
by_test true yes_case no_case = yes_case refl
by_test false yes_case no_case = no_case refl

pub same_some : {A : Type 0} (x y : A) → Some x ≡ Some y → x ≡ y
same_some x y e = cc

pub front_yes : (cats : ℕ → ℕ) (c d e : ℕ) (rest : List ℕ) → is_front cats c d e ≡ true → front_of cats (c ∷ d ∷ e ∷ rest) ≡ Some (replaced e rest)
unfolding front_of
front_yes cats c d e rest h = ap (λ b. cond b (Some (replaced e rest)) None) h

pub front_no : (cats : ℕ → ℕ) (c d e : ℕ) (rest : List ℕ) → is_front cats c d e ≡ false → front_of cats (c ∷ d ∷ e ∷ rest) ≡ None
unfolding front_of
front_no cats c d e rest h = ap (λ b. cond b (Some (replaced e rest)) None) h

-- a front's three characters are one, and what stands for it
pub is_front_from : (cats : ℕ → ℕ) (c d e : ℕ) (rest text : List ℕ) → front_of cats (c ∷ d ∷ e ∷ rest) ≡ Some text → (is_front cats c d e ≡ true) × (replaced e rest ≡ text)
is_front_from cats c d e rest text h =
    by_test (is_front cats c d e)
    (λ t. (t, same_some (replaced e rest) text (sym (front_yes cats c d e rest t) ∙ h)))
    (λ f. let n = front_no cats c d e rest f in cc)

pub no_front_from : (cats : ℕ → ℕ) (c d e : ℕ) (rest : List ℕ) → front_of cats (c ∷ d ∷ e ∷ rest) ≡ None → is_front cats c d e ≡ false
no_front_from cats c d e rest h =
    by_test (is_front cats c d e) (λ t. let y = front_yes cats c d e rest t in cc) (λ f. f)

pub replaced_hex : (e f : ℕ) (rest : List ℕ) → (is_hex e && is_hex f) ≡ true → replaced e (f ∷ rest) ≡ hex_code e f ∷ rest
unfolding replaced
replaced_hex e f rest h = ap (λ b. cond b (hex_code e f ∷ rest) (shifted e ∷ f ∷ rest)) h

pub replaced_short : (e f : ℕ) (rest : List ℕ) → (is_hex e && is_hex f) ≡ false → replaced e (f ∷ rest) ≡ shifted e ∷ f ∷ rest
unfolding replaced
replaced_short e f rest h = ap (λ b. cond b (hex_code e f ∷ rest) (shifted e ∷ f ∷ rest)) h

pub replaced_last : (e : ℕ) → replaced e [] ≡ shifted e ∷ []
unfolding replaced
replaced_last e = refl

pub no_front_none : (cats : ℕ → ℕ) → front_of cats [] ≡ None
unfolding front_of
no_front_none cats = refl

pub no_front_one : (cats : ℕ → ℕ) (c : ℕ) → front_of cats (c ∷ []) ≡ None
unfolding front_of
no_front_one cats c = refl

pub no_front_two : (cats : ℕ → ℕ) (c d : ℕ) → front_of cats (c ∷ d ∷ []) ≡ None
unfolding front_of
no_front_two cats c d = refl

-- A fact of every text: it holds of the empty one, of a text where it holds of that with its front replaced, and of a
-- text with no front where it holds of that behind its first character.
module _ (cats : ℕ → ℕ) (P : List ℕ → Type 0) (nil : P []) (front : (text text' : List ℕ) → front_of cats text ≡ Some text' → P text' → P text) (bare : (c : ℕ) (rest : List ℕ) → front_of cats (c ∷ rest) ≡ None → P rest → P (c ∷ rest)) where
  each_at : (c : ℕ) (rest : List ℕ) → P (c ∷ rest)
  each_at c [] = bare c [] (no_front_one cats c) nil
  each_at c (d ∷ []) = bare c (d ∷ []) (no_front_two cats c d) (each_at d [])
  each_at c (d ∷ e ∷ []) =
      by_test (is_front cats c d e)
      (λ t. front (c ∷ d ∷ e ∷ []) (shifted e ∷ []) (front_yes cats c d e [] t ∙ ap Some (replaced_last e)) (each_at (shifted e) []))
      (λ n. bare c (d ∷ e ∷ []) (front_no cats c d e [] n) (each_at d (e ∷ [])))
  each_at c (d ∷ e ∷ f ∷ rest) =
      by_test (is_front cats c d e)
      (λ t. by_test (is_hex e && is_hex f)
      (λ h. front (c ∷ d ∷ e ∷ f ∷ rest) (hex_code e f ∷ rest) (front_yes cats c d e (f ∷ rest) t ∙ ap Some (replaced_hex e f rest h)) (each_at (hex_code e f) rest))
      (λ h. front (c ∷ d ∷ e ∷ f ∷ rest) (shifted e ∷ f ∷ rest) (front_yes cats c d e (f ∷ rest) t ∙ ap Some (replaced_short e f rest h)) (each_at (shifted e) (f ∷ rest))))
      (λ n. bare c (d ∷ e ∷ f ∷ rest) (front_no cats c d e (f ∷ rest) n) (each_at d (e ∷ f ∷ rest)))

  pub each_text : (text : List ℕ) → P text
  each_text [] = nil
  each_text (c ∷ rest) = each_at c rest

module _ {A : Type 0} (cats : ℕ → ℕ) (stop : A) (step : ℕ → List ℕ → A → A) where
  pub walk-nil : walk cats stop step [] ≡ stop
  unfolding walk
  walk-nil = refl

  walk_replaced : (c d e : ℕ) (rest : List ℕ) → is_front cats c d e ≡ true → walk cats stop step (c ∷ d ∷ e ∷ rest) ≡ walk cats stop step (replaced e rest)
  unfolding walk walk_at replaced
  walk_replaced c d e [] t = ap (λ b. cond b (walk_at cats stop step (shifted e) []) (step c (d ∷ e ∷ []) (walk_at cats stop step d (e ∷ [])))) t
  walk_replaced c d e (f ∷ rest) t =
      let far : A = cond (is_hex e && is_hex f) (walk_at cats stop step (hex_code e f) rest) (walk_at cats stop step (shifted e) (f ∷ rest)) in
      ap (λ b. cond b far (step c (d ∷ e ∷ f ∷ rest) (walk_at cats stop step d (e ∷ f ∷ rest)))) t
      ∙ by_test (is_hex e && is_hex f)
      (λ h. ap (λ b. cond b (walk_at cats stop step (hex_code e f) rest) (walk_at cats stop step (shifted e) (f ∷ rest))) h ∙ sym (ap (λ b. walk cats stop step (cond b (hex_code e f ∷ rest) (shifted e ∷ f ∷ rest))) h))
      (λ h. ap (λ b. cond b (walk_at cats stop step (hex_code e f) rest) (walk_at cats stop step (shifted e) (f ∷ rest))) h ∙ sym (ap (λ b. walk cats stop step (cond b (hex_code e f ∷ rest) (shifted e ∷ f ∷ rest))) h))

  walk_on : (c d e : ℕ) (rest : List ℕ) → is_front cats c d e ≡ false → walk cats stop step (c ∷ d ∷ e ∷ rest) ≡ step c (d ∷ e ∷ rest) (walk cats stop step (d ∷ e ∷ rest))
  unfolding walk walk_at
  walk_on c d e [] n = ap (λ b. cond b (walk_at cats stop step (shifted e) []) (step c (d ∷ e ∷ []) (walk_at cats stop step d (e ∷ [])))) n
  walk_on c d e (f ∷ rest) n =
      let far : A = cond (is_hex e && is_hex f) (walk_at cats stop step (hex_code e f) rest) (walk_at cats stop step (shifted e) (f ∷ rest)) in
      ap (λ b. cond b far (step c (d ∷ e ∷ f ∷ rest) (walk_at cats stop step d (e ∷ f ∷ rest)))) n

  -- a front is replaced
  pub walk-front : (text text' : List ℕ) → front_of cats text ≡ Some text' → walk cats stop step text ≡ walk cats stop step text'
  walk-front [] text' h = let n = no_front_none cats in cc
  walk-front (c ∷ []) text' h = let n = no_front_one cats c in cc
  walk-front (c ∷ d ∷ []) text' h = let n = no_front_two cats c d in cc
  walk-front (c ∷ d ∷ e ∷ rest) text' h =
      let is = is_front_from cats c d e rest text' h in
      walk_replaced c d e rest is.0 ∙ ap (walk cats stop step) is.1

  -- a character with no front is a step
  pub walk-bare : (c : ℕ) (rest : List ℕ) → front_of cats (c ∷ rest) ≡ None → walk cats stop step (c ∷ rest) ≡ step c rest (walk cats stop step rest)
  unfolding walk walk_at
  walk-bare c [] h = refl
  walk-bare c (d ∷ []) h = refl
  walk-bare c (d ∷ e ∷ rest) h = walk_on c d e rest (no_front_from cats c d e rest h)
