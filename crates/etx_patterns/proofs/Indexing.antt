-- Trees that index lists of keys.
use Rattle.std.proofs.Common.{◌≡◌, ℕ, ◌<◌, Bool, true, false, ◌&&◌, eqb, List, [], ◌∷◌, ◌++◌, None, Some, inl, inr, refl, ap, sym, ◌∙◌, subst, length, set, arith}
use Rattle.std.proofs.lemmas.Bool.{cases_lt, cases_eq, cases_Bool}
use Rattle.std.proofs.lemmas.Bool.Decides.{nat_tests}
use Rattle.std.proofs.lemmas.List.{length_push, get_or_push, get_or_append_left, get_or-set_other, length-set}
use Rattle.std.proofs.lemmas.Grind.{get_or-set_at}
use Rattle.etx_patterns.specs.declared.step.Mark.{Mark}
use Rattle.etx_patterns.specs.declared.step.Mark.TheVariants.{Language, Character, Boundary}
use Rattle.etx_patterns.specs.Shapes.{same_mark, same_marks, word_marks}
use Rattle.etx_patterns.specs.Tree.{Tree, size, path_at, entry_at, IsOnly, Grows}
use Rattle.etx_patterns.specs.Kept.{key_at, counts_at, Indexes}

eq_of_test : (a b : ℕ) → (eqb a b) ≡ true → a ≡ b
eq_of_test a b e = grind (arith, nat_tests)

same_mark-sound : (x y : Mark) → same_mark x y ≡ true → x ≡ y
same_mark-sound (Language a) (Language b) e = ap Language (eq_of_test a b e)
same_mark-sound (Language a) (Character b) e = cc
same_mark-sound (Language a) Boundary e = cc
same_mark-sound (Character a) (Language b) e = cc
same_mark-sound (Character a) (Character b) e = ap Character (eq_of_test a b e)
same_mark-sound (Character a) Boundary e = cc
same_mark-sound Boundary (Language b) e = cc
same_mark-sound Boundary (Character b) e = cc
same_mark-sound Boundary Boundary e = refl

both_true : (a b : Bool) → (a && b) ≡ true → (a ≡ true) × (b ≡ true)
both_true true b e = (refl, e)
both_true false b e = cc

pub same_marks-sound : (xs ys : List Mark) → same_marks xs ys ≡ true → xs ≡ ys
same_marks-sound [] [] e = refl
same_marks-sound [] (y ∷ ys) e = cc
same_marks-sound (x ∷ xs) [] e = cc
same_marks-sound (x ∷ xs) (y ∷ ys) e =
    let parts = both_true (same_mark x y) (same_marks xs ys) e in
    let first = same_mark-sound x y parts.0 in
    let rest = same_marks-sound xs ys parts.1 in
    cc

eq_test-same : (a : ℕ) → (eqb a a) ≡ true
eq_test-same a = grind (arith, nat_tests)

same_mark-refl : (x : Mark) → same_mark x x ≡ true
same_mark-refl (Language a) = eq_test-same a
same_mark-refl (Character a) = eq_test-same a
same_mark-refl Boundary = refl

same_marks-refl : (xs : List Mark) → same_marks xs xs ≡ true
same_marks-refl [] = refl
same_marks-refl (x ∷ xs) = let a = same_mark-refl x in let b = same_marks-refl xs in rw (a, b) refl

pub same_marks-complete : (xs ys : List Mark) → xs ≡ ys → same_marks xs ys ≡ true
same_marks-complete xs ys e = subst (λ (zs : List Mark). same_marks xs zs ≡ true) e (same_marks-refl xs)

pub not_same_marks : (xs ys : List Mark) → (xs ≡ ys → ⊥) → same_marks xs ys ≡ false
not_same_marks xs ys apart =
    elim (cases_Bool (same_marks xs ys)) [
      | inl same ↦ absurd (apart (same_marks-sound xs ys same))
      | inr other ↦ other
    ]

-- A tree that has grown indexes the same keys.
pub Indexes-grown : (tree new : Tree) (keys : List (List Mark)) (counts : List Bool) → Grows tree new → Indexes tree keys counts → Indexes new keys counts
Indexes-grown tree new keys counts g t =
    let longer = g.longer in
    record {
      sizes = g.sizes;
      entry_key = λ node i low e.
          elim (cases_lt node (size tree)) [
            | inl before ↦
                (let old : entry_at tree node ≡ Some i = sym (g.entries_kept node before) ∙ e in
                let found = t.entry_key node i before old in
                (found.0, found.1 ∙ sym (g.paths_kept node before)))
            | inr beyond ↦ (let none = g.none_noted node beyond in absurd (cc))
          ];
      key_entry = λ node i low i_low e counted.
          elim (cases_lt node (size tree)) [
            | inl before ↦ g.entries_kept node before ∙ t.key_entry node i before i_low (e ∙ g.paths_kept node before) counted
            | inr beyond ↦
                absurd (t.key_path i i_low
                (λ other other_low there. g.apart node other beyond low other_low (sym e ∙ sym there ∙ sym (g.paths_kept other other_low))))
          ];
      key_path = λ i i_low none. t.key_path i i_low (λ node low e. none node (omega arith) (g.paths_kept node low ∙ e));
    }

abbrev pub noted : Tree → ℕ → ℕ → Tree
noted tree node i = record { paths = tree.paths; entries = set tree.entries node (Some i) }

-- A key more, which is noted at its node, where no key that counts has the same path.
pub Indexes-added : (tree : Tree) (keys : List (List Mark)) (counts : List Bool) (path : List Mark) (node : ℕ) (counted : Bool) → IsOnly tree path node → length counts ≡ length keys
    → ((i : ℕ) → i < length keys → key_at keys i ≡ path → counts_at counts i ≡ true → ⊥)
    → Indexes tree keys counts → Indexes (noted tree node (length keys)) (keys ++ path ∷ []) (counts ++ counted ∷ [])
Indexes-added tree keys counts path node counted only lengths unknown t =
    let sizes = t.sizes in
    let within : node < size tree = only.within in
    let node_within : node < length tree.entries = omega arith in
    let last = length keys in
    let more = length_push keys path in
    let key_old : (i : ℕ) → i < last → key_at (keys ++ path ∷ []) i ≡ key_at keys i = λ i low. get_or_append_left keys (path ∷ []) [] i low in
    let key_new : (i : ℕ) → i ≡ last → key_at (keys ++ path ∷ []) i ≡ path = λ i e. get_or_push keys path [] i (sym e) in
    let counts_old : (i : ℕ) → i < last → counts_at (counts ++ counted ∷ []) i ≡ counts_at counts i = λ i low. get_or_append_left counts (counted ∷ []) false i (omega arith) in
    let entry_here : (n : ℕ) → n ≡ node → entry_at (noted tree node last) n ≡ Some last = λ n e. get_or-set_at tree.entries node n (Some last) None e node_within in
    let entry_other : (n : ℕ) → (n ≡ node → ⊥) → entry_at (noted tree node last) n ≡ entry_at tree n = λ n e. get_or-set_other tree.entries node n (Some last) None e in
    record {
      sizes = length-set tree.entries node (Some last) ∙ sizes;
      entry_key = λ n i low e.
          elim (cases_eq n node) [
            | inl here ↦
                (let there = entry_here n here in
                let i_is : i ≡ last = some_same i last (sym e ∙ there) in
                (omega arith, key_new i i_is ∙ sym only.path_is ∙ ap (path_at tree) (sym here)))
            | inr other ↦
                (let found = t.entry_key n i low (sym (entry_other n other) ∙ e) in
                let i_low : i < last = found.0 in
                (omega arith, key_old i i_low ∙ found.1))
          ];
      key_entry = λ n i low i_low e counts_i.
          elim (cases_lt i last) [
            | inl old ↦
                (let key_is : key_at keys i ≡ path_at tree n = sym (key_old i old) ∙ e in
                let counts_is : counts_at counts i ≡ true = sym (counts_old i old) ∙ counts_i in
                elim (cases_eq n node) [
                  | inl here ↦ absurd (unknown i old (key_is ∙ ap (path_at tree) here ∙ only.path_is) counts_is)
                  | inr other ↦ entry_other n other ∙ t.key_entry n i low old key_is counts_is
                ])
            | inr new ↦
                (let i_is : i ≡ last = omega arith in
                let here : n ≡ node = only.only n low (sym e ∙ key_new i i_is) in
                entry_here n here ∙ ap Some (sym i_is))
          ];
      key_path = λ i i_low none.
          elim (cases_lt i last) [
            | inl old ↦ t.key_path i old (λ n low e. none n low (e ∙ sym (key_old i old)))
            | inr new ↦ none node within (only.path_is ∙ sym (key_new i (omega arith)))
          ];
    }
  where
    some_same : (i j : ℕ) → Some i ≡ Some j → i ≡ j
    some_same i j e = cc

-- A key that counted, of which it doesn't matter any more whether it does.
pub Indexes-recounted : (tree : Tree) (keys : List (List Mark)) (counts : List Bool) (i : ℕ) (counted : Bool) → counts_at counts i ≡ true → Indexes tree keys counts → Indexes tree keys (set counts i counted)
Indexes-recounted tree keys counts i counted was t =
    record {
      sizes = t.sizes;
      entry_key = t.entry_key;
      key_entry = λ node j low j_low e counts_j.
          elim (cases_eq j i) [
            | inl here ↦ t.key_entry node j low j_low e (ap (counts_at counts) here ∙ was)
            | inr other ↦ t.key_entry node j low j_low e (sym (get_or-set_other counts i j counted false other) ∙ counts_j)
          ];
      key_path = t.key_path;
    }

pub word_marks-injective : (xs ys : List ℕ) → word_marks xs ≡ word_marks ys → xs ≡ ys
word_marks-injective [] [] e = refl
word_marks-injective [] (y ∷ ys) e = cc
word_marks-injective (x ∷ xs) [] e = cc
word_marks-injective (x ∷ xs) (y ∷ ys) e =
    let rest_e : word_marks xs ≡ word_marks ys = cc in
    let first : x ≡ y = cc in
    let rest = word_marks-injective xs ys rest_e in
    cc
