-- What the braces and the beginnings of a delimiter say of a text.
use Rattle.std.proofs.Common.{◌≡◌, ℕ, suc, ◌<◌, ◌+◌, ◌-◌, min, Bool, true, false, cond, eqb, List, [], ◌∷◌, ◌++◌, Option, Some, None, ◌⊎◌, inl, inr, length, get_or, take, drop, refl, sym, ap, subst, ◌∙◌, arith}
use Rattle.std.specs.Prelude.{All}
use Rattle.std.proofs.lemmas.Bool.{false≢true, eqb-true, cases_lt}
use Rattle.std.proofs.lemmas.List.{append-nil, append_assoc, same_from_push, length-append, length-take-le, take-append-drop, take_more, take_all, take_at, drop_more, get_or_at, get_or-take}
use Rattle.std.proofs.Math.ListN.{get_or-append}
use Rattle.std.proofs.lemmas.List.Elements.{All-push}
use Rattle.etx_matter.specs.declared.token.Token.{Token}
use Rattle.etx_matter.specs.declared.token.Token.TheVariants.{Char, Name, Param}
use Rattle.etx_macros.specs.Marks.{has_category, closed, behind, behind_all, depth_of, IsBalanced, IsUnbraced, IsDelimiter, EndsWith}
use Rattle.etx_macros.specs.Calls.{EndsInside}
use Rattle.etx_macros.specs.Matching.{IsLongest}
use Rattle.etx_macros.proofs.Depths.{behind_append}

-- a list is empty, or has a last one
pub last_one : {A : Type 0} → (xs : List A) → (xs ≡ []) ⊎ ((init : List A) × (t : A) × (xs ≡ init ++ t ∷ []))
last_one [] = inl refl
last_one (x ∷ xs) = elim (last_one xs) [ inl e ↦ inr ([], x, ap (λ ys. x ∷ ys) e) | inr w ↦ inr (x ∷ w.0, w.1, ap (λ ys. x ∷ ys) w.2) ]

-- a text that one more token makes is split behind its end, or before it
pub split_push : (read : List Token) (t : Token) (front rest : List Token) → read ++ t ∷ [] ≡ front ++ rest → ((rest ≡ []) × (read ++ t ∷ [] ≡ front)) ⊎ ((more : List Token) × (read ≡ front ++ more) × (rest ≡ more ++ t ∷ []))
split_push read t front rest e = elim (last_one rest) [
  | inl z ↦ inl (z, e ∙ ap (λ r. front ++ r) z ∙ append-nil front)
  | inr w ↦
      let f : read ++ t ∷ [] ≡ (front ++ w.0) ++ w.1 ∷ [] = e ∙ ap (λ r. front ++ r) w.2 ∙ sym (append_assoc front w.0 (w.1 ∷ [])) in
      let g = same_from_push read (front ++ w.0) t w.1 f in
      inr (w.0, g.0, w.2 ∙ ap (λ u. w.0 ++ u ∷ []) (sym g.1))
]

-- braces
unbraced_shape : (l r : Bool) (n : ℕ) → l ≡ false → r ≡ false → cond l (Some (suc n)) (cond r (closed n) (Some n)) ≡ Some n
unbraced_shape true r n e f = absurd cc
unbraced_shape false true n e f = absurd cc
unbraced_shape false false n e f = refl

unbraced_behind : (t : Token) (n : ℕ) → IsUnbraced t → behind t n ≡ Some n
unfolding behind
unbraced_behind t n h = unbraced_shape (has_category t 1) (has_category t 2) n h.0 h.1

unbraced_depth : (o : Option ℕ) (xs : List Token) → All IsUnbraced xs → behind_all o xs ≡ o
unbraced_depth None [] h = refl
unbraced_depth None (x ∷ xs) h = refl
unbraced_depth (Some n) [] h = refl
unbraced_depth (Some n) (x ∷ xs) h = ap (λ o. behind_all o xs) (unbraced_behind x n (h 0 x (omega arith))) ∙ unbraced_depth (Some n) xs (λ k d l. h (suc k) d (omega (arith, l)))

pub depth_before : (raw x : List Token) → All IsUnbraced x → depth_of (raw ++ x) ≡ depth_of raw
depth_before raw x h = behind_append (Some 0) raw x ∙ unbraced_depth (depth_of raw) x h

pub left_not_right : (t : Token) → has_category t 1 ≡ true → has_category t 2 ≡ true → ⊥
left_not_right (Char code cat) l r = absurd (omega (arith, eqb-true cat 1 l, eqb-true cat 2 r))
left_not_right (Name name) l r = false≢true l
left_not_right (Param k) l r = false≢true l

not_right : (t : Token) → has_category t 1 ≡ true → has_category t 2 ≡ false
not_right (Char code cat) l = ap (λ c. eqb c 2) (eqb-true cat 1 l)
not_right (Name name) l = refl
not_right (Param k) l = refl

shape_none : (l r : Bool) → (l ≡ true → r ≡ true → ⊥) → r ≡ true → cond l (Some 1) (cond r (closed 0) (Some 0)) ≡ None
shape_none true r never e = absurd (never refl e)
shape_none false true never e = refl
shape_none false false never e = absurd cc

pub right_closes_nothing : (t : Token) → has_category t 2 ≡ true → behind t 0 ≡ None
unfolding behind
right_closes_nothing t e = shape_none (has_category t 1) (has_category t 2) (left_not_right t) e

shape_one_less : (l r : Bool) (n : ℕ) → (l ≡ true → r ≡ true → ⊥) → r ≡ true → cond l (Some (suc (suc n))) (cond r (closed (suc n)) (Some (suc n))) ≡ Some n
shape_one_less true r n never e = absurd (never refl e)
shape_one_less false true n never e = refl
shape_one_less false false n never e = absurd cc

pub right_closes_one : (t : Token) (n : ℕ) → has_category t 2 ≡ true → behind t (suc n) ≡ Some n
unfolding behind
right_closes_one t n e = shape_one_less (has_category t 1) (has_category t 2) n (left_not_right t) e

pub no_right : (d x y : List Token) (t : Token) → IsDelimiter d → d ≡ x ++ t ∷ y → has_category t 2 ≡ true → ⊥
no_right d x y t h e r =
    let l : length x < length d = omega (arith, ap length e, length-append x (t ∷ y)) in
    let g : get_or d (length x) t ≡ t = ap (λ xs. get_or xs (length x) t) e ∙ get_or_at x t y t (length x) refl in
    false≢true (sym (h.0 (length x) t l) ∙ ap (λ u. has_category u 2) g ∙ r)

pub plain_before : (d x y : List Token) (t : Token) → IsDelimiter d → d ≡ x ++ t ∷ y → All IsUnbraced x
plain_before d x y t h e = λ k u l.
    let n : length d ≡ length x + suc (length y) = ap length e ∙ length-append x (t ∷ y) in
    let g : get_or d k u ≡ get_or x k u = ap (λ xs. get_or xs k u) e ∙ get_or-append x (t ∷ y) u k l in
    let m : k < length (take (length d - 1) d) = omega (arith, length-take-le (length d - 1) d (omega arith), n, l) in (
      ap (λ v. has_category v 1) (sym g ∙ sym (get_or-take (length d - 1) d k u (omega (arith, n, l)))) ∙ h.1 k u m,
      ap (λ v. has_category v 2) (sym g) ∙ h.0 k u (omega (arith, n, l)),
    )

-- what a parameter text gives: a text with no brace, or one that a left brace ends
pub plain_delimiter : (part : List Token) → All IsUnbraced part → IsDelimiter part
plain_delimiter part h = (
  λ k u l. (h k u l).1,
  λ k u l.
      let m : k < length part - 1 = omega (arith, l, length-take-le (length part - 1) part (omega arith)) in
      ap (λ v. has_category v 1) (get_or-take (length part - 1) part k u m) ∙ (h k u (omega (arith, m))).0,
)

pub left_delimiter : (part : List Token) (left : Token) → All IsUnbraced part → has_category left 1 ≡ true → IsDelimiter (part ++ left ∷ [])
left_delimiter part left h o = (
  All-push (λ t. has_category t 2 ≡ false) part left (λ k u l. (h k u l).1) (not_right left o),
  subst (λ (xs : List Token). All (λ t. has_category t 1 ≡ false) xs) (sym (take_at part (left ∷ []) (length (part ++ left ∷ []) - 1) (omega (arith, length-append part (left ∷ []))))) (λ k u l. (h k u l).0),
)

-- the beginning of a delimiter, its next token, and the rest
pub beginning : (d : List Token) (k : ℕ) (t : Token) → k < length d → d ≡ take k d ++ get_or d k t ∷ drop (k + 1) d
beginning d k t l = sym (take-append-drop k d) ∙ ap (λ xs. take k d ++ xs) (drop_more d k t l)

pub plain_take : (d : List Token) (k : ℕ) → IsDelimiter d → k < length d → All IsUnbraced (take k d)
plain_take d k h l = plain_before d (take k d) (drop (k + 1) d) (get_or d k (Char 0 0)) h (beginning d k (Char 0 0) l)

-- beginnings at the end of a text
ends_push : (read d : List Token) (t : Token) (k : ℕ) → k < length d → EndsWith (read ++ t ∷ []) (take (k + 1) d) → EndsWith read (take k d) × (t ≡ get_or d k t)
ends_push read d t k l w =
    let f : read ++ t ∷ [] ≡ (w.0 ++ take k d) ++ get_or d k t ∷ [] = w.1 ∙ ap (λ xs. w.0 ++ xs) (take_more d k t l) ∙ sym (append_assoc w.0 (take k d) (get_or d k t ∷ [])) in
    let s = same_from_push read (w.0 ++ take k d) t (get_or d k t) f in
    ((w.0, s.0), s.1)

pub longest_start : (d : List Token) → IsLongest [] d (length d) 0
longest_start d = record {
  within = omega arith;
  ends = ([], refl);
  longest = λ more l u w. absurd (omega (arith, l, u, ap length w.1, length-append w.0 (take more d), length-take-le more d u));
}

pub longest_push : (read d : List Token) (t : Token) (k next : ℕ) → IsLongest read d (length d) k → IsLongest (read ++ t ∷ []) d (min (k + 1) (length d)) next → IsLongest (read ++ t ∷ []) d (length d) next
longest_push read d t k next h g = record {
  within = omega (arith, g.within);
  ends = g.ends;
  longest = λ more l u w. elim (cases_lt (k + 1) more) [
    | inl far ↦
        let n : more ≡ (more - 1) + 1 = omega (arith, far) in
        let e = ends_push read d t (more - 1) (omega (arith, far, u)) (subst (λ (j : ℕ). EndsWith (read ++ t ∷ []) (take j d)) n w) in
        h.longest (more - 1) (omega (arith, far)) (omega (arith, u)) e.0
    | inr near ↦ g.longest more l (omega (arith, near, u)) w
  ];
}

pub longest_none : (read d : List Token) (t : Token) → IsDelimiter d → has_category t 2 ≡ true → IsLongest (read ++ t ∷ []) d (length d) 0
longest_none read d t h r = record {
  within = omega arith;
  ends = (read ++ t ∷ [], sym (append-nil (read ++ t ∷ [])));
  longest = λ more l u w.
      let n : more ≡ (more - 1) + 1 = omega (arith, l) in
      let s : more - 1 < length d = omega (arith, l, u) in
      let e = ends_push read d t (more - 1) s (subst (λ (j : ℕ). EndsWith (read ++ t ∷ []) (take j d)) n w) in
      no_right d (take (more - 1) d) (drop (more - 1 + 1) d) (get_or d (more - 1) t) h (beginning d (more - 1) t s) (ap (λ u. has_category u 2) (sym e.1) ∙ r);
}

pub absorbed : (text d : List Token) (k : ℕ) → IsLongest text d (length d) k → 0 < k → EndsInside text d
absorbed text d k h l =
    let n : k ≡ (k - 1) + 1 = omega (arith, l) in
    (k - 1, omega (arith, l, h.within), subst (λ (j : ℕ). EndsWith text (take j d)) n h.ends)

pub not_absorbed : (text d : List Token) → IsLongest text d (length d) 0 → EndsInside text d → ⊥
not_absorbed text d h w = h.longest (w.0 + 1) (omega arith) (omega (arith, w.1)) w.2

-- the delimiter at the end of a text, behind a balanced one
abbrev pub IsFound : List Token → List Token → Type 0
IsFound d text = (raw : List Token) × (text ≡ raw ++ d) × IsBalanced raw

-- what stands before the delimiter is as deep as what stands before its last token
before_found : (d read raw : List Token) (t : Token) → IsDelimiter d → (d ≡ [] → ⊥) → read ++ t ∷ [] ≡ raw ++ d → depth_of read ≡ depth_of raw
before_found d read raw t h some e = elim (split_push read t raw d e) [
  | inl w ↦ absurd (some w.0)
  | inr w ↦ ap depth_of w.1 ∙ depth_before raw w.0 (plain_before d w.0 [] t h w.2)
]

pub found_raw : (d read : List Token) (t : Token) → IsDelimiter d → (d ≡ [] → ⊥) → depth_of read ≡ Some 0 → EndsWith (read ++ t ∷ []) d → IsFound d (read ++ t ∷ [])
found_raw d read t h some flat w = (w.0, w.1, sym (before_found d read w.0 t h some w.1) ∙ flat)

pub never_inside : (d read : List Token) (t : Token) (n : ℕ) → IsDelimiter d → (d ≡ [] → ⊥) → depth_of read ≡ Some (suc n) → IsFound d (read ++ t ∷ []) → ⊥
never_inside d read t n h some deep w = let e : Some (suc n) ≡ Some 0 = sym deep ∙ before_found d read w.0 t h some w.1 ∙ w.2 in absurd cc

pub never_shorter : (d text : List Token) (k : ℕ) → IsLongest text d (length d) k → k < length d → EndsWith text d → ⊥
never_shorter d text k h l w = h.longest (length d) l (omega arith) (w.0, w.1 ∙ ap (λ xs. w.0 ++ xs) (sym (take_all (length d) d (omega arith))))
