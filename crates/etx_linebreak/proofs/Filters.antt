-- Lists of rows and tests on them.
use Rattle.std.proofs.Common.{◌≡◌, Bool, true, false, cond, List, [], ◌∷◌, ◌++◌, refl, sym, ap, ◌∙◌, append_assoc}
use Rattle.std.specs.List.{filter}
use Rattle.etx_linebreak.specs.declared.row.Row.{Row}

abbrev pub Each : (Row → Type 0) → List Row → Type 0
Each P [] = Unit {0}
Each P (r ∷ rs) = P r × Each P rs

pub each_map : (P Q : Row → Type 0) (rs : List Row) → ((r : Row) → P r → Q r) → Each P rs → Each Q rs
each_map P Q [] f h = tt
each_map P Q (r ∷ rs) f h = (f r h.0, each_map P Q rs f h.1)

pub each_append : (P : Row → Type 0) (xs ys : List Row) → Each P xs → Each P ys → Each P (xs ++ ys)
each_append P [] ys a b = b
each_append P (x ∷ xs) ys a b = (a.0, each_append P xs ys a.1 b)

pub each_filter : (P : Row → Type 0) (t : Row → Bool) (rs : List Row) → Each P rs → Each P (filter t rs)
each_filter P t [] h = tt
each_filter P t (r ∷ rs) h = by (t r) (filter t rs) (each_filter P t rs h.1)
  where
    by : (b : Bool) (some : List Row) → Each P some → Each P (cond b (r ∷ some) some)
    by true some k = (h.0, k)
    by false some k = k

pub each_passes : (t : Row → Bool) (rs : List Row) → Each (λ r. t r ≡ true) (filter t rs)
each_passes t [] = tt
each_passes t (r ∷ rs) = by (t r) refl (filter t rs) (each_passes t rs)
  where
    by : (b : Bool) → t r ≡ b → (some : List Row) → Each (λ r. t r ≡ true) some → Each (λ r. t r ≡ true) (cond b (r ∷ some) some)
    by true e some k = (e, k)
    by false e some k = k

pub filter_all : (t : Row → Bool) (rs : List Row) → Each (λ r. t r ≡ true) rs → filter t rs ≡ rs
filter_all t [] h = refl
filter_all t (r ∷ rs) h = rw h.0 (ap (λ (xs : List Row). r ∷ xs) (filter_all t rs h.1))

pub filter_none : (t : Row → Bool) (rs : List Row) → Each (λ r. t r ≡ false) rs → filter t rs ≡ []
filter_none t [] h = refl
filter_none t (r ∷ rs) h = rw h.0 (filter_none t rs h.1)

pub filter_swap : (a b : Row → Bool) (rs : List Row) → filter a (filter b rs) ≡ filter b (filter a rs)
filter_swap a b [] = refl
filter_swap a b (r ∷ rs) = by (a r) (b r) refl refl (filter b rs) (filter a rs) (filter_swap a b rs)
  where
    by : (x y : Bool) → a r ≡ x → b r ≡ y → (some all : List Row) → filter a some ≡ filter b all
        → filter a (cond y (r ∷ some) some) ≡ filter b (cond x (r ∷ all) all)
    by true true e f some all h = rw (e, f) (ap (λ (xs : List Row). r ∷ xs) h)
    by true false e f some all h = rw f h
    by false true e f some all h = rw e h
    by false false e f some all h = h

pub join_more : (a b c d x : List Row) → a ++ b ≡ x → a ++ (b ++ c) ++ d ≡ x ++ (c ++ d)
join_more a b c d x e =
    ap (λ (xs : List Row). xs ++ d) (sym (append_assoc a b c) ∙ ap (λ (xs : List Row). xs ++ c) e) ∙ append_assoc x c d

pub join_last : (a b c c' d x : List Row) → a ++ b ≡ x → a ++ (b ++ c) ++ (c' ++ d) ≡ x ++ (c ++ c' ++ d)
join_last a b c c' d x e = join_more a b c (c' ++ d) x e ∙ ap (λ (xs : List Row). x ++ xs) (sym (append_assoc c c' d))
