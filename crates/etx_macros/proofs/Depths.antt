-- How deep in braces a text is, token by token.
use Rattle.std.proofs.Common.{◌≡◌, ℕ, zero, suc, ◌<◌, ◌≤◌, ◌+◌, ◌-◌, Bool, true, false, cond, List, [], ◌∷◌, ◌++◌, Option, Some, None, length, get_or, take, drop, refl, sym, ap, ◌∙◌, arith}
use Rattle.std.specs.Bool.{MatchBool}
use Rattle.std.proofs.lemmas.Bool.{false≢true}
use Rattle.std.proofs.lemmas.List.{take-append-drop, drop_more, drop_all, get_or_at, take_at, length-append}
use Rattle.etx_matter.specs.declared.token.Token.{Token}
use Rattle.etx_macros.specs.Marks.{has_category, closed, behind, behind_all, depth_of, IsBalanced}
use Rattle.etx_macros.specs.Calls.{IsGroup, inner_of}

closed_bound : (n m : ℕ) → closed n ≡ Some m → m ≤ n + 1
closed_bound zero m e = absurd cc
closed_bound (suc n) m e = let h : n ≡ m = cc in omega arith

pub behind_bound : (t : Token) (n m : ℕ) → behind t n ≡ Some m → m ≤ n + 1
unfolding behind
behind_bound t n m =
    elim (has_category t 1) as (λ b. cond b (Some (suc n)) (cond (has_category t 2) (closed n) (Some n)) ≡ Some m → m ≤ n + 1) [
      | true ↦ λ e. let h : suc n ≡ m = cc in omega arith
      | false ↦ elim (has_category t 2) as (λ b. cond b (closed n) (Some n) ≡ Some m → m ≤ n + 1) [
        | true ↦ λ e. closed_bound n m e
        | false ↦ λ e. let h : n ≡ m = cc in omega arith
      ]
    ]

pub behind_append : (o : Option ℕ) (xs ys : List Token) → behind_all o (xs ++ ys) ≡ behind_all (behind_all o xs) ys
behind_append None xs [] = refl
behind_append None xs (y ∷ ys) = refl
behind_append (Some n) [] ys = refl
behind_append (Some n) (x ∷ xs) ys = behind_append (behind x n) xs ys

-- one more token
pub depth_push : (xs : List Token) (t : Token) (n : ℕ) (o : Option ℕ) → depth_of xs ≡ Some n → behind t n ≡ o → depth_of (xs ++ t ∷ []) ≡ o
depth_push xs t n None e h = behind_append (Some 0) xs (t ∷ []) ∙ ap (λ p. behind_all p (t ∷ [])) e ∙ ap (λ p. behind_all p []) h
depth_push xs t n (Some m) e h = behind_append (Some 0) xs (t ∷ []) ∙ ap (λ p. behind_all p (t ∷ [])) e ∙ ap (λ p. behind_all p []) h

-- a text of two tokens or more: the first, the inner ones, the last
last_apart : (ys : List Token) (d : Token) → 0 < length ys → ys ≡ take (length ys - 1) ys ++ get_or ys (length ys - 1) d ∷ []
last_apart ys d l =
    sym (take-append-drop (length ys - 1) ys)
    ∙ ap (λ zs. take (length ys - 1) ys ++ zs) (drop_more ys (length ys - 1) d (omega arith) ∙ ap (λ zs. get_or ys (length ys - 1) d ∷ zs) (drop_all (length ys - 1 + 1) ys (omega arith)))

ends_apart : (text : List Token) (d : Token) → 2 ≤ length text → text ≡ (get_or text 0 d ∷ inner_of text) ++ get_or text (length text - 1) d ∷ []
ends_apart [] d l = absurd (omega arith)
ends_apart (x ∷ []) d l = absurd (omega arith)
ends_apart (x ∷ y ∷ ys) d l =
    let n : (suc (suc (length ys)) - 1) - 1 ≡ suc (length ys) - 1 = omega arith in
    let m : suc (suc (length ys)) - 1 ≡ suc (suc (length ys) - 1) = omega arith in
    ap (λ zs. x ∷ zs) (last_apart (y ∷ ys) d (omega arith))
    ∙ ap (λ k. x ∷ (take k (y ∷ ys) ++ get_or (y ∷ ys) (suc (length ys) - 1) d ∷ [])) (sym n)
    ∙ ap (λ k. x ∷ (take ((suc (suc (length ys)) - 1) - 1) (y ∷ ys) ++ get_or (x ∷ y ∷ ys) k d ∷ [])) (sym m)

pub group_from : (text : List Token) (d : Token) → 2 ≤ length text → has_category (get_or text 0 d) 1 ≡ true → has_category (get_or text (length text - 1) d) 2 ≡ true → IsBalanced (inner_of text) → IsGroup text (inner_of text)
group_from text d l o c b = record { left = get_or text 0 d; right = get_or text (length text - 1) d; opens = o; closes = c; inside = b; whole = ends_apart text d l }

-- what a group is made of
group_length : (left right : Token) (inner text : List Token) → text ≡ (left ∷ inner) ++ right ∷ [] → length text ≡ length inner + 2
group_length left right inner text e = ap length e ∙ omega (arith, length-append inner (right ∷ []))

pub group_needs_two : (text inner : List Token) → IsGroup text inner → 2 ≤ length text
group_needs_two text inner g = omega (arith, group_length g.left g.right inner text g.whole)

pub group_opens : (text inner : List Token) (d : Token) → IsGroup text inner → has_category (get_or text 0 d) 1 ≡ true
group_opens text inner d g = ap (λ xs. has_category (get_or xs 0 d) 1) g.whole ∙ g.opens

pub group_closes : (text inner : List Token) (d : Token) → IsGroup text inner → has_category (get_or text (length text - 1) d) 2 ≡ true
group_closes text inner d g =
    let n : length text - 1 ≡ length (g.left ∷ inner) = omega (arith, group_length g.left g.right inner text g.whole) in
    ap (λ xs. has_category (get_or xs (length text - 1) d) 2) g.whole
    ∙ ap (λ t. has_category t 2) (get_or_at (g.left ∷ inner) g.right [] d (length text - 1) (sym n))
    ∙ g.closes

pub group_inner : (text inner : List Token) → IsGroup text inner → inner_of text ≡ inner
group_inner text inner g =
    let n : (length text - 1) - 1 ≡ length inner = omega (arith, group_length g.left g.right inner text g.whole) in
    ap (λ xs. take ((length text - 1) - 1) (drop 1 xs)) g.whole ∙ take_at inner (g.right ∷ []) ((length text - 1) - 1) (sym n)

pub group_inside : (text inner : List Token) → IsGroup text inner → IsBalanced (inner_of text)
group_inside text inner g = ap depth_of (group_inner text inner g) ∙ g.inside

pub group_decides : (b : Bool) (text : List Token) (d : Token) → 2 ≤ length text → has_category (get_or text 0 d) 1 ≡ true → has_category (get_or text (length text - 1) d) 2 ≡ true → (b ≡ true → IsBalanced (inner_of text)) → (IsBalanced (inner_of text) → b ≡ true) → MatchBool b (IsGroup text (inner_of text)) ((inner : List Token) → IsGroup text inner → ⊥)
group_decides true text d l o c there back = group_from text d l o c (there refl)
group_decides false text d l o c there back = λ inner g. false≢true (back (group_inside text inner g))
