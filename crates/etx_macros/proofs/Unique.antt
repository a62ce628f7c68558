-- A text begins with one call of a pattern at most.
use Rattle.std.proofs.Common.{◌≡◌, ℕ, ◌<◌, ◌≤◌, Bool, true, false, ◌&&◌, eqb, List, [], ◌∷◌, ◌++◌, Option, Some, None, ◌⊎◌, inl, inr, length, refl, sym, ap, subst, ◌∙◌, arith}
use Rattle.std.proofs.lemmas.Bool.{cases_lt, eqb-true, false≢true}
use Rattle.std.proofs.lemmas.List.{append-nil, append_assoc, append_cancel_left, append_cancel_right, same_from_push, length-append, nil_from_length}
use Rattle.etx_matter.specs.declared.token.Token.{Token}
use Rattle.etx_matter.specs.declared.token.Token.TheVariants.{Char, Name, Param}
use Rattle.etx_macros.specs.Marks.{has_category, is_space, behind, behind_all, depth_of, IsBalanced}
use Rattle.etx_macros.specs.Calls.{IsGroup, Gives, AreSpaces, IsPlain, IsItem, IsUndelimited, IsDelimited, IsArgument, MatchesCall, text_before, with_argument}
use Rattle.etx_macros.proofs.Depths.{behind_append, depth_push, group_inner}

gives_same : (text a b : List Token) → Gives text a → Gives text b → a ≡ b
gives_same text a b (inl g) (inl h) = sym (group_inner text a g) ∙ group_inner text b h
gives_same text a b (inl g) (inr h) = absurd (h.0 a g)
gives_same text a b (inr g) (inl h) = absurd (g.0 b h)
gives_same text a b (inr g) (inr h) = g.1 ∙ sym h.1

-- of two texts that begin alike, the shorter begins the longer
pub prefix_rest : (p x q y : List Token) → p ++ x ≡ q ++ y → length p ≤ length q → (rest : List Token) × (q ≡ p ++ rest)
prefix_rest [] x q y e l = (q, refl)
prefix_rest (a ∷ p) x [] y e l = absurd (omega arith)
prefix_rest (a ∷ p) x (b ∷ q) y e l =
    let h : p ++ x ≡ q ++ y = cc in
    let ab : a ≡ b = cc in
    let r = prefix_rest p x q y h (omega arith) in
    (r.0, ap (λ z. z ∷ q) (sym ab) ∙ ap (λ zs. a ∷ zs) r.1)

shorter_delimited : (long : Bool) (d p q a b x y : List Token) → IsDelimited long d p a → IsDelimited long d q b → p ++ x ≡ q ++ y → length p ≤ length q → p ≡ q
shorter_delimited long d p q a b x y g h e l =
    let r = prefix_rest p x q y e l in
    let f : q ≡ (g.raw ++ d) ++ r.0 = r.1 ∙ ap (λ zs. zs ++ r.0) g.whole in
    let s : length h.raw ≤ length g.raw = h.shortest g.raw r.0 f g.balanced in
    let z : length r.0 ≡ 0 = omega (arith, s, ap length h.whole, ap length g.whole, ap length r.1, length-append h.raw d, length-append g.raw d, length-append p r.0) in
    sym (r.1 ∙ ap (λ zs. p ++ zs) (nil_from_length r.0 z) ∙ append-nil p)

delimited_texts : (long : Bool) (d p q a b x y : List Token) → IsDelimited long d p a → IsDelimited long d q b → p ++ x ≡ q ++ y → p ≡ q
delimited_texts long d p q a b x y g h e = elim (cases_lt (length p) (length q)) [
  | inl l ↦ shorter_delimited long d p q a b x y g h e (omega arith)
  | inr l ↦ sym (shorter_delimited long d q p b a y x h g (sym e) l)
]

delimited_same : (long : Bool) (d p q a b x y : List Token) → IsDelimited long d p a → IsDelimited long d q b → p ++ x ≡ q ++ y → (p ≡ q) × (a ≡ b)
delimited_same long d p q a b x y g h e =
    let t = delimited_texts long d p q a b x y g h e in
    let r : g.raw ≡ h.raw = append_cancel_right g.raw h.raw d (sym g.whole ∙ t ∙ h.whole) in
    (t, gives_same h.raw a b (subst (λ (xs : List Token). Gives xs a) r g.gives) h.gives)

-- a brace is no space, and a right brace is no left one
pub and_none : (b : Bool) → (b && false) ≡ false
and_none true = refl
and_none false = refl

pub brace_no_space : (t : Token) → has_category t 1 ≡ true → is_space t ≡ false
brace_no_space (Char code cat) e = ap (λ c. eqb code 32 && eqb c 10) (eqb-true cat 1 e) ∙ and_none (eqb code 32)
brace_no_space (Name name) e = absurd (false≢true e)
brace_no_space (Param k) e = absurd (false≢true e)

closes_nothing : (t : Token) → has_category t 2 ≡ true → behind t 0 ≡ None
unfolding behind
closes_nothing (Char code cat) e = subst (λ (c : ℕ). behind (Char code c) 0 ≡ None) (sym (eqb-true cat 2 e)) refl
closes_nothing (Name name) e = absurd (false≢true e)
closes_nothing (Param k) e = absurd (false≢true e)

pub none_some : (o : Option ℕ) (n : ℕ) → o ≡ None → o ≡ Some n → ⊥
none_some None n e f = cc
none_some (Some m) n e f = cc

-- two balanced texts before right braces
shorter_inner : (i j x y : List Token) (r s : Token) → IsBalanced i → IsBalanced j → has_category r 2 ≡ true → i ++ r ∷ x ≡ j ++ s ∷ y → length i < length j → ⊥
shorter_inner i j x y r s bi bj cr e l =
    let f : (i ++ r ∷ []) ++ x ≡ j ++ s ∷ y = append_assoc i (r ∷ []) x ∙ e in
    let p = prefix_rest (i ++ r ∷ []) x j (s ∷ y) f (omega (arith, length-append i (r ∷ []))) in
    let n : depth_of (i ++ r ∷ []) ≡ None = depth_push i r 0 None bi (closes_nothing r cr) in
    none_some (depth_of j) 0 (ap depth_of p.1 ∙ behind_append (Some 0) (i ++ r ∷ []) p.0 ∙ ap (λ o. behind_all o p.0) n) bj

inner_lengths : (i j x y : List Token) (r s : Token) → IsBalanced i → IsBalanced j → has_category r 2 ≡ true → has_category s 2 ≡ true → i ++ r ∷ x ≡ j ++ s ∷ y → length i ≡ length j
inner_lengths i j x y r s bi bj cr cs e = elim (cases_lt (length i) (length j)) [
  | inl l ↦ absurd (shorter_inner i j x y r s bi bj cr e l)
  | inr l ↦ elim (cases_lt (length j) (length i)) [ inl m ↦ absurd (shorter_inner j i y x s r bj bi cs (sym e) m) | inr m ↦ omega arith ]
]

-- texts of one length that begin alike are equal
same_length : (p q x y : List Token) → p ++ x ≡ q ++ y → length p ≡ length q → p ≡ q
same_length p q x y e l =
    let r = prefix_rest p x q y e (omega arith) in
    let z : length r.0 ≡ 0 = omega (arith, ap length r.1, length-append p r.0) in
    sym (r.1 ∙ ap (λ zs. p ++ zs) (nil_from_length r.0 z) ∙ append-nil p)

pub heads : (s t : Token) (xs ys : List Token) → s ∷ xs ≡ t ∷ ys → s ≡ t
heads s t xs ys e = cc

pub tails : (s t : Token) (xs ys : List Token) → s ∷ xs ≡ t ∷ ys → xs ≡ ys
tails s t xs ys e = cc

pub group_tail : (p i x : List Token) (l r : Token) → p ≡ (l ∷ i) ++ r ∷ [] → p ++ x ≡ l ∷ (i ++ r ∷ x)
group_tail p i x l r e = ap (λ zs. zs ++ x) e ∙ append_assoc (l ∷ i) (r ∷ []) x

groups_same : (p q i j x y : List Token) → IsGroup p i → IsGroup q j → p ++ x ≡ q ++ y → p ≡ q
groups_same p q i j x y g h e =
    let f : g.left ∷ (i ++ g.right ∷ x) ≡ h.left ∷ (j ++ h.right ∷ y) = sym (group_tail p i x g.left g.right g.whole) ∙ e ∙ group_tail q j y h.left h.right h.whole in
    let n = inner_lengths i j x y g.right h.right g.inside h.inside g.closes h.closes (tails g.left h.left (i ++ g.right ∷ x) (j ++ h.right ∷ y) f) in
    same_length p q x y e (omega (arith, n, ap length g.whole, ap length h.whole, length-append i (g.right ∷ []), length-append j (h.right ∷ [])))

plain_not_group : (t : Token) (q j x y : List Token) → IsPlain t → IsGroup q j → t ∷ x ≡ q ++ y → ⊥
plain_not_group t q j x y p h e =
    let f : t ≡ h.left = heads t h.left x (j ++ h.right ∷ y) (e ∙ group_tail q j y h.left h.right h.whole) in
    false≢true (sym p.no_left ∙ ap (λ u. has_category u 1) f ∙ h.opens)

items_same : (p q x y : List Token) → IsItem p → IsItem q → p ++ x ≡ q ++ y → p ≡ q
items_same p q x y (inl g) (inl h) e =
    let f : g.0 ∷ x ≡ h.0 ∷ y = sym (ap (λ zs. zs ++ x) g.2) ∙ e ∙ ap (λ zs. zs ++ y) h.2 in
    g.2 ∙ ap (λ t. t ∷ []) (heads g.0 h.0 x y f) ∙ sym h.2
items_same p q x y (inl g) (inr h) e = absurd (plain_not_group g.0 q h.0 x y g.1 h.1 (sym (ap (λ zs. zs ++ x) g.2) ∙ e))
items_same p q x y (inr g) (inl h) e = absurd (plain_not_group h.0 p g.0 y x h.1 g.1 (sym (ap (λ zs. zs ++ y) h.2) ∙ sym e))
items_same p q x y (inr g) (inr h) e = groups_same p q g.0 h.0 x y g.1 h.1 e

-- an item begins with no space
pub record Begins (p : List Token) : Type 0 where
  pub head : Token
  pub tail : List Token
  pub whole : p ≡ head ∷ tail
  pub no_space : is_space head ≡ false

pub item_begins : (p : List Token) → IsItem p → Begins p
item_begins p (inl g) = record { head = g.0; tail = []; whole = g.2; no_space = g.1.no_space }
item_begins p (inr g) = record { head = g.1.left; tail = g.0 ++ g.1.right ∷ []; whole = g.1.whole; no_space = brace_no_space g.1.left g.1.opens }

pub spaces_same : (s r x y : List Token) (t u : Token) → AreSpaces s → AreSpaces r → is_space t ≡ false → is_space u ≡ false → s ++ t ∷ x ≡ r ++ u ∷ y → s ≡ r
spaces_same [] [] x y t u hs hr ht hu e = refl
spaces_same [] (b ∷ r) x y t u hs hr ht hu e = absurd (false≢true (sym ht ∙ ap is_space (heads t b x (r ++ u ∷ y) e) ∙ hr.0))
spaces_same (a ∷ s) [] x y t u hs hr ht hu e = absurd (false≢true (sym hu ∙ ap is_space (sym (heads a u (s ++ t ∷ x) y e)) ∙ hs.0))
spaces_same (a ∷ s) (b ∷ r) x y t u hs hr ht hu e =
    ap (λ z. z ∷ s) (heads a b (s ++ t ∷ x) (r ++ u ∷ y) e) ∙ ap (λ zs. b ∷ zs) (spaces_same s r x y t u hs.1 hr.1 ht hu (tails a b (s ++ t ∷ x) (r ++ u ∷ y) e))

undelimited_same : (long : Bool) (p q a b x y : List Token) → IsUndelimited long p a → IsUndelimited long q b → p ++ x ≡ q ++ y → (p ≡ q) × (a ≡ b)
undelimited_same long p q a b x y g h e =
    let k = item_begins g.raw g.item in
    let l = item_begins h.raw h.item in
    let ge : p ++ x ≡ g.spaces ++ (g.raw ++ x) = ap (λ zs. zs ++ x) g.whole ∙ append_assoc g.spaces g.raw x in
    let he : q ++ y ≡ h.spaces ++ (h.raw ++ y) = ap (λ zs. zs ++ y) h.whole ∙ append_assoc h.spaces h.raw y in
    let f : g.spaces ++ (g.raw ++ x) ≡ h.spaces ++ (h.raw ++ y) = sym ge ∙ e ∙ he in
    let f2 : g.spaces ++ k.head ∷ (k.tail ++ x) ≡ h.spaces ++ l.head ∷ (l.tail ++ y) =
    sym (ap (λ zs. g.spaces ++ (zs ++ x)) k.whole) ∙ f ∙ ap (λ zs. h.spaces ++ (zs ++ y)) l.whole in
    let s : g.spaces ≡ h.spaces = spaces_same g.spaces h.spaces (k.tail ++ x) (l.tail ++ y) k.head l.head g.are_spaces h.are_spaces k.no_space l.no_space f2 in
    let r : g.raw ≡ h.raw = items_same g.raw h.raw x y g.item h.item (append_cancel_left h.spaces (g.raw ++ x) (h.raw ++ y) (ap (λ zs. zs ++ (g.raw ++ x)) (sym s) ∙ f)) in (
      g.whole ∙ ap (λ zs. zs ++ g.raw) s ∙ ap (λ zs. h.spaces ++ zs) r ∙ sym h.whole,
      gives_same h.raw a b (subst (λ (xs : List Token). Gives xs a) r g.gives) h.gives,
    )

argument_same : (long : Bool) (d p q a b x y : List Token) → IsArgument long d p a → IsArgument long d q b → p ++ x ≡ q ++ y → (p ≡ q) × (a ≡ b)
argument_same long [] p q a b x y g h e = undelimited_same long p q a b x y g h e
argument_same long (t ∷ ts) p q a b x y g h e = delimited_same long (t ∷ ts) p q a b x y g h e

-- how a call was matched last
pub record Last (long : Bool) (ps : List (List Token)) (c : List Token) (zs : List (List Token)) : Type 0 where
  pub parts : List (List Token)
  pub args : List (List Token)
  pub call : List Token
  pub delimiter : List Token
  pub text : List Token
  pub arg : List Token
  pub matched : MatchesCall long parts call args
  pub argument : IsArgument long delimiter text arg
  pub parts_is : ps ≡ parts ++ delimiter ∷ []
  pub call_is : c ≡ call ++ text
  pub args_is : zs ≡ args ++ arg ∷ []

abbrev Inverse : Bool → List (List Token) → List Token → List (List Token) → Type 0
Inverse long ps c zs = ((ps ≡ c ∷ []) × (zs ≡ [])) ⊎ Last long ps c zs

inverse : (long : Bool) (ps : List (List Token)) (c : List Token) (zs : List (List Token)) → MatchesCall long ps c zs → Inverse long ps c zs
inverse long _ _ _ (text_before before) = inl (refl, refl)
inverse long _ _ _ (with_argument parts args call delimiter text arg m i) =
    inr (record { parts = parts; args = args; call = call; delimiter = delimiter; text = text; arg = arg; matched = m; argument = i; parts_is = refl; call_is = refl; args_is = refl })

pub some_part : (long : Bool) (ps : List (List Token)) (c : List Token) (zs : List (List Token)) → MatchesCall long ps c zs → 0 < length ps
some_part long _ _ _ (text_before before) = omega arith
some_part long _ _ _ (with_argument parts args call delimiter text arg m i) = omega (arith, length-append parts (delimiter ∷ []))

first_only : (c before : List Token) → before ∷ [] ≡ c ∷ [] → before ≡ c
first_only c before e = cc

pub one_call : (long : Bool) (ps : List (List Token)) (c : List Token) (zs : List (List Token)) → MatchesCall long ps c zs → (qs : List (List Token)) (d : List Token) (ys : List (List Token)) (x y : List Token) → MatchesCall long qs d ys → ps ≡ qs → c ++ x ≡ d ++ y → (c ≡ d) × (zs ≡ ys)
one_call long _ _ _ (text_before before) qs d ys x y m p e = elim (inverse long qs d ys m) [
  | inl h ↦ (first_only d before (p ∙ h.0), sym h.1)
  | inr h ↦ absurd (omega (arith, ap length (p ∙ h.parts_is), length-append h.parts (h.delimiter ∷ []), some_part long h.parts h.call h.args h.matched))
]
one_call long _ _ _ (with_argument parts args call delimiter text arg m i) qs d ys x y n p e = elim (inverse long qs d ys n) [
  | inl h ↦ absurd (omega (arith, ap length (p ∙ h.0), length-append parts (delimiter ∷ []), some_part long parts call args m))
  | inr h ↦
      let s = same_from_push parts h.parts delimiter h.delimiter (p ∙ h.parts_is) in
      let f : call ++ (text ++ x) ≡ h.call ++ (h.text ++ y) = sym (append_assoc call text x) ∙ e ∙ ap (λ zs. zs ++ y) h.call_is ∙ append_assoc h.call h.text y in
      let o = one_call long parts call args m h.parts h.call h.args (text ++ x) (h.text ++ y) h.matched s.0 f in
      let g : text ++ x ≡ h.text ++ y = append_cancel_left h.call (text ++ x) (h.text ++ y) (ap (λ zs. zs ++ (text ++ x)) (sym o.0) ∙ f) in
      let a = argument_same long h.delimiter text h.text arg h.arg x y (subst (λ (z : List Token). IsArgument long z text arg) s.1 i) h.argument g in (
        ap (λ zs. zs ++ text) o.0 ∙ ap (λ zs. h.call ++ zs) a.0 ∙ sym h.call_is,
        ap (λ zs. zs ++ arg ∷ []) o.1 ∙ ap (λ z. h.args ++ z ∷ []) a.1 ∙ sym h.args_is,
      )
]
