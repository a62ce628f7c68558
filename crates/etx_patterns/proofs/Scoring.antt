-- What the matches at one start give, node by node.
use Rattle.std.proofs.Common.{◌≡◌, ◌≢◌, ℕ, zero, suc, ◌+◌, ◌-◌, ◌<◌, ◌≤◌, Bool, true, false, cond, ◌&&◌, ◌||◌, eqb, ltb, max, List, [], ◌∷◌, ◌++◌, Option, None, Some, ◌⊎◌, inl, inr, refl, ap, sym, ◌∙◌, subst, length, get_or, take, drop, map, arith}
use Rattle.std.proofs.lemmas.Bool.{cases_lt, cases_Bool}
use Rattle.std.proofs.lemmas.Bool.Decides.{nat_tests}
use Rattle.std.proofs.lemmas.List.{get_or-map, take-append-drop, take_more, length-take-le, length-map, length-drop}
use Rattle.std.specs.List.{range_with_len}
use Rattle.etx_patterns.specs.declared.step.Step.{Step}
use Rattle.etx_patterns.specs.declared.step.Step.TheVariants.{Letter, Digit, Edge}
use Rattle.etx_patterns.specs.declared.step.Mark.{Mark}
use Rattle.etx_patterns.specs.declared.step.Mark.TheVariants.{Language}
use Rattle.etx_patterns.specs.declared.tables.Pattern.{Pattern}
use Rattle.etx_patterns.specs.Shapes.{shape, has_digit, digit_from, same_marks, path_in}
use Rattle.etx_patterns.specs.Tables.{pattern_path, matches_at, given_digit, greatest_of, greatest_digit}
use Rattle.etx_patterns.specs.Tree.{Tree, size, path_at, entry_at}
use Rattle.etx_patterns.specs.Kept.{key_at, counts_at, PatternsIndexed, digit_counts}
use Rattle.etx_patterns.specs.Scores.{Raised, digit_of_entry, entry_digit}
use Rattle.etx_patterns.specs.Tables.{pattern_at}
use Rattle.etx_patterns.proofs.Indexing.{same_marks-sound, same_marks-complete}

neither : (a b : Bool) → (a || b) ≡ false → (a ≡ false) × (b ≡ false)
neither true b e = cc
neither false b e = (refl, e)

not_above : (digit : ℕ) → ltb 0 digit ≡ false → digit ≡ 0
not_above digit e = grind (arith, nat_tests)

given_zero : (b : Bool) (digit : ℕ) → digit ≡ 0 → cond b digit 0 ≡ 0
given_zero true digit e = e
given_zero false digit e = refl

-- Steps with no digit above 0 give no place a digit.
pub digit_from-none : (steps : List Step) (here place : ℕ) → has_digit steps ≡ false → digit_from steps here place ≡ 0
digit_from-none [] here place none = refl
digit_from-none (Letter code ∷ steps) here place none = digit_from-none steps (here + 1) place none
digit_from-none (Edge ∷ steps) here place none = digit_from-none steps (here + 1) place none
digit_from-none (Digit digit ∷ steps) here place none =
    let parts = neither (ltb 0 digit) (has_digit steps) none in
    let rest = digit_from-none steps here place parts.1 in
    let zero_digit = not_above digit parts.0 in
    let first = given_zero (eqb here place) digit zero_digit in
    omega arith

pub greatest_of-bound : {X : Type 0} (number : X → ℕ) (xs : List X) (d : X) (bound : ℕ) → ((i : ℕ) → i < length xs → number (get_or xs i d) ≤ bound) → greatest_of number xs ≤ bound
greatest_of-bound number [] d bound all = omega arith
greatest_of-bound number (x ∷ xs) d bound all =
    let first : number x ≤ bound = all 0 (omega arith) in
    let rest = greatest_of-bound number xs d bound (λ i low. all (suc i) (omega arith)) in
    omega arith

pub greatest_of-at : {X : Type 0} (number : X → ℕ) (xs : List X) (d : X) (i : ℕ) → i < length xs → number (get_or xs i d) ≤ greatest_of number xs
greatest_of-at number [] d i low = absurd (omega arith)
greatest_of-at number (x ∷ xs) d zero low = omega arith
greatest_of-at number (x ∷ xs) d (suc i) low = let rest = greatest_of-at number xs d i (omega arith) in omega arith

pub greatest_of-push : {X : Type 0} (number : X → ℕ) (xs : List X) (x : X) → greatest_of number (xs ++ x ∷ []) ≡ max (greatest_of number xs) (number x)
greatest_of-push number [] x = omega arith
greatest_of-push number (y ∷ ys) x = let rest = greatest_of-push number ys x in omega arith

pub range-push : (a n : ℕ) → range_with_len a (suc n) ≡ range_with_len a n ++ (a + n) ∷ []
range-push a zero = ap (λ k. k ∷ []) (omega arith)
range-push a (suc n) = ap (λ ks. a ∷ ks) (range-push (a + 1) n ∙ ap (λ k. range_with_len (a + 1) n ++ k ∷ []) (omega arith))

pub greatest_of-range : (number : ℕ → ℕ) (n : ℕ) → greatest_of number (range_with_len 0 (n + 1)) ≡ max (greatest_of number (range_with_len 0 n)) (number n)
greatest_of-range number n =
    let one : n + 1 ≡ suc n = omega arith in
    let last : 0 + n ≡ n = omega arith in
    ap (λ (k : ℕ). greatest_of number (range_with_len 0 k)) one ∙ ap (greatest_of number) (range-push 0 n) ∙ greatest_of-push number (range_with_len 0 n) (0 + n)
    ∙ ap (λ (k : ℕ). max (greatest_of number (range_with_len 0 n)) (number k)) last

both : (a b : Bool) → (a && b) ≡ true → (a ≡ true) × (b ≡ true)
both true b e = (refl, e)
both false b e = cc

test_eq : (a b : ℕ) → eqb a b ≡ true → a ≡ b
test_eq a b e = grind (arith, nat_tests)

-- A match says which language and marks the pattern has.
pub matches-sound : (language : ℕ) (marks : List Mark) (start : ℕ) (pattern : Pattern) → matches_at language marks start pattern ≡ true
    → (pattern.language ≡ language) × (shape pattern.steps ≡ take (length (shape pattern.steps)) (drop start marks))
unfolding matches_at
matches-sound language marks start pattern e =
    let parts = both (eqb pattern.language language) (same_marks (shape pattern.steps) (take (length (shape pattern.steps)) (drop start marks))) e in
    (test_eq pattern.language language parts.0, same_marks-sound _ _ parts.1)

test_is : (a b : ℕ) → a ≡ b → eqb a b ≡ true
test_is a b e = grind (arith, nat_tests)

pub matches-complete : (language : ℕ) (marks : List Mark) (start : ℕ) (pattern : Pattern) → pattern.language ≡ language → shape pattern.steps ≡ take (length (shape pattern.steps)) (drop start marks)
    → matches_at language marks start pattern ≡ true
unfolding matches_at
matches-complete language marks start pattern e s =
    let first : eqb pattern.language language ≡ true = test_is pattern.language language e in
    let second = same_marks-complete _ _ s in
    rw (first, second) refl

pub given-matching : (language : ℕ) (marks : List Mark) (start place : ℕ) (pattern : Pattern) → matches_at language marks start pattern ≡ true → given_digit language marks start place pattern ≡ digit_from pattern.steps start place
unfolding given_digit
given-matching language marks start place pattern e = rw e refl

pub given-other : (language : ℕ) (marks : List Mark) (start place : ℕ) (pattern : Pattern) → matches_at language marks start pattern ≡ false → given_digit language marks start place pattern ≡ 0
unfolding given_digit
given-other language marks start place pattern e = rw e refl

-- Either a pattern gives nothing, or it matches.
pub given_cases : (language : ℕ) (marks : List Mark) (start place : ℕ) (pattern : Pattern)
    → (given_digit language marks start place pattern ≡ 0)
    ⊎ ((matches_at language marks start pattern ≡ true) × (given_digit language marks start place pattern ≡ digit_from pattern.steps start place))
given_cases language marks start place pattern =
    elim (cases_Bool (matches_at language marks start pattern)) [
      | inl yes_it_does ↦ inr (yes_it_does, given-matching language marks start place pattern yes_it_does)
      | inr other ↦ inl (given-other language marks start place pattern other)
    ]

-- The patterns as keys.
pub pattern_key : (patterns : List Pattern) (i : ℕ) → i < length patterns → key_at (map pattern_path patterns) i ≡ pattern_path (pattern_at patterns i)
pattern_key patterns i low = get_or-map pattern_path patterns i _ [] low

pub pattern_counts : (patterns : List Pattern) (i : ℕ) → i < length patterns → counts_at (map digit_counts patterns) i ≡ has_digit (pattern_at patterns i).steps
pattern_counts patterns i low = get_or-map digit_counts patterns i _ false low

pub first_same : (a b : ℕ) (xs ys : List Mark) → path_in a xs ≡ path_in b ys → a ≡ b
first_same a b xs ys e = cc

pub rest_same : (a b : ℕ) (xs ys : List Mark) → path_in a xs ≡ path_in b ys → xs ≡ ys
rest_same a b xs ys e = cc

same_path : (a b : ℕ) (xs ys : List Mark) → a ≡ b → xs ≡ ys → path_in a xs ≡ path_in b ys
same_path a b xs ys e f = cc

keys_length : (patterns : List Pattern) → length (map pattern_path patterns) ≡ length patterns
keys_length patterns = length-map patterns pattern_path

module _ (tree : Tree) (patterns : List Pattern) (language : ℕ) (marks : List Mark) (start : ℕ) (t : PatternsIndexed tree patterns) where
  -- Of the patterns with what stands at a node, at most the noted one gives a place anything.
  entry_given : (node n place : ℕ) → node < size tree → path_at tree node ≡ path_in language (take n (drop start marks)) → n ≤ length (drop start marks)
      → entry_digit tree patterns node start place ≤ greatest_of (given_digit language marks start place) patterns
  entry_given node n place low path_is within = at_entry (entry_at tree node) refl
    where
      at_entry : (entry : Option ℕ) → entry_at tree node ≡ entry → digit_of_entry patterns entry start place ≤ greatest_of (given_digit language marks start place) patterns
      at_entry None e = omega arith
      at_entry (Some i) e =
          let found = t.entry_key node i low e in
          let i_low : i < length patterns = omega (arith, keys_length patterns) in
          let key = pattern_key patterns i i_low in
          let path : pattern_path (pattern_at patterns i) ≡ path_in language (take n (drop start marks)) = sym key ∙ found.1 ∙ path_is in
          let same_language : (pattern_at patterns i).language ≡ language = first_same _ _ _ _ path in
          let same_shape : shape (pattern_at patterns i).steps ≡ take n (drop start marks) = rest_same _ _ _ _ path in
          let n_is : length (shape (pattern_at patterns i).steps) ≡ n = ap length same_shape ∙ length-take-le n (drop start marks) within in
          let matched = matches-complete language marks start (pattern_at patterns i) same_language (same_shape ∙ ap (λ k. take k (drop start marks)) (sym n_is)) in
          let given = given-matching language marks start place (pattern_at patterns i) matched in
          let most = greatest_of-at (given_digit language marks start place) patterns (record { language = 0; steps = [] }) i i_low in
          subst (λ (k : ℕ). k ≤ greatest_of (given_digit language marks start place) patterns) given most

  given_entry : (node n place i : ℕ) → node < size tree → path_at tree node ≡ path_in language (take n (drop start marks)) → i < length patterns
      → length (shape (pattern_at patterns i).steps) ≡ n → given_digit language marks start place (pattern_at patterns i) ≤ entry_digit tree patterns node start place
  given_entry node n place i low path_is i_low n_is =
      elim (given_cases language marks start place (pattern_at patterns i)) [
        | inl none ↦ omega arith
        | inr found ↦
            (let parts = matches-sound language marks start (pattern_at patterns i) found.0 in
            let shape_is : shape (pattern_at patterns i).steps ≡ take n (drop start marks) = parts.1 ∙ ap (λ k. take k (drop start marks)) n_is in
            let key : key_at (map pattern_path patterns) i ≡ path_at tree node =
            pattern_key patterns i i_low ∙ same_path _ _ _ _ parts.0 shape_is ∙ sym path_is in
            elim (cases_Bool (has_digit (pattern_at patterns i).steps)) [
              | inl counted ↦
                  (let entry = t.key_entry node i low (omega (arith, keys_length patterns)) key (pattern_counts patterns i i_low ∙ counted) in
                  let here : digit_of_entry patterns (entry_at tree node) start place ≡ digit_from (pattern_at patterns i).steps start place =
                  ap (λ (it : Option ℕ). digit_of_entry patterns it start place) entry in
                  let given = found.1 in
                  omega arith)
              | inr none ↦ let zero_digit = digit_from-none (pattern_at patterns i).steps start place none in let given = found.1 in omega arith
            ])
      ]

-- The scores so far at one start: risen to what the patterns with fewer marks than `limit` give, and to no more than all give.
pub record Scored (patterns : List Pattern) (language : ℕ) (marks : List Mark) (start limit : ℕ) (old new : List ℕ) : Type 0 where
  pub same_length : length new ≡ length old
  pub lower : (place : ℕ) → place < length old → get_or old place 0 ≤ get_or new place 0
  pub upper : (place : ℕ) → place < length old → get_or new place 0 ≤ max (get_or old place 0) (greatest_of (given_digit language marks start place) patterns)
  pub below : (place i : ℕ) → place < length old → i < length patterns → length (shape (pattern_at patterns i).steps) < limit
      → given_digit language marks start place (pattern_at patterns i) ≤ get_or new place 0

pub Scored-start : (patterns : List Pattern) (language : ℕ) (marks : List Mark) (start : ℕ) (old : List ℕ) → Scored patterns language marks start 0 old old
Scored-start patterns language marks start old =
    record {
      same_length = refl;
      lower = λ place low. omega arith;
      upper = λ place low. omega arith;
      below = λ place i low i_low few. absurd (omega arith);
    }

pub Scored-step : (tree : Tree) (patterns : List Pattern) (language : ℕ) (marks : List Mark) (start node n : ℕ) (old new newer : List ℕ) → PatternsIndexed tree patterns
    → node < size tree → path_at tree node ≡ path_in language (take n (drop start marks)) → n ≤ length (drop start marks)
    → Raised new newer (entry_digit tree patterns node start) → length newer ≡ length new
    → Scored patterns language marks start n old new → Scored patterns language marks start (n + 1) old newer
Scored-step tree patterns language marks start node n old new newer t low path_is within raised same s =
    let lengths = s.same_length in
    record {
      same_length = same ∙ s.same_length;
      lower = λ place p. (let r = raised place (omega arith) in let l = s.lower place p in omega arith);
      upper = λ place p.
          (let r = raised place (omega arith) in
          let u = s.upper place p in
          let g = entry_given tree patterns language marks start t node n place low path_is within in
          omega arith);
      below = λ place i p i_low few.
          (let r = raised place (omega arith) in
          elim (cases_lt (length (shape (pattern_at patterns i).steps)) n) [
            | inl fewer ↦ let b = s.below place i p i_low fewer in omega arith
            | inr last ↦ let g = given_entry tree patterns language marks start t node n place i low path_is i_low (omega arith) in omega arith
          ]);
    }

-- Where no pattern with more marks matches, the scores have risen to what all give.
pub Scored-end : (patterns : List Pattern) (language : ℕ) (marks : List Mark) (start limit : ℕ) (old new : List ℕ)
    → ((i : ℕ) → i < length patterns → limit ≤ length (shape (pattern_at patterns i).steps) → matches_at language marks start (pattern_at patterns i) ≡ true → ⊥)
    → Scored patterns language marks start limit old new → Raised old new (λ place. greatest_of (given_digit language marks start place) patterns)
Scored-end patterns language marks start limit old new none s place p =
    let l = s.lower place p in
    let u = s.upper place p in
    let b = greatest_of-bound (given_digit language marks start place) patterns (record { language = 0; steps = [] }) (get_or new place 0)
    (λ i i_low.
    elim (cases_lt (length (shape (pattern_at patterns i).steps)) limit) [
      | inl few ↦ s.below place i p i_low few
      | inr many ↦
          (elim (given_cases language marks start place (pattern_at patterns i)) [
            | inl nothing ↦ omega arith
            | inr found ↦ absurd (none i i_low many found.0)
          ])
    ])
    in
    omega arith

take_whole : (n : ℕ) (xs : List Mark) → length xs ≤ n → take n xs ≡ xs
take_whole zero [] h = refl
take_whole zero (x ∷ xs) h = absurd (omega arith)
take_whole (suc n) [] h = refl
take_whole (suc n) (x ∷ xs) h = ap (λ (it : List Mark). x ∷ it) (take_whole n xs (omega arith))

length-take_le : (n : ℕ) (xs : List Mark) → length (take n xs) ≤ length xs
length-take_le zero xs = omega arith
length-take_le (suc n) [] = omega arith
length-take_le (suc n) (x ∷ xs) = let rest = length-take_le n xs in omega arith

-- No pattern with more marks than stand behind the start matches there.
pub none_longer : (patterns : List Pattern) (language : ℕ) (marks : List Mark) (start limit : ℕ) → length (drop start marks) < limit
    → (i : ℕ) → i < length patterns → limit ≤ length (shape (pattern_at patterns i).steps) → matches_at language marks start (pattern_at patterns i) ≡ true → ⊥
none_longer patterns language marks start limit beyond i i_low many matched =
    let parts = matches-sound language marks start (pattern_at patterns i) matched in
    let lengths = ap length parts.1 in
    let most = length-take_le (length (shape (pattern_at patterns i).steps)) (drop start marks) in
    omega arith

take-take : (a b : ℕ) (xs : List Mark) → a ≤ b → take a (take b xs) ≡ take a xs
take-take zero b xs h = refl
take-take (suc a) zero xs h = absurd (omega arith)
take-take (suc a) (suc b) [] h = refl
take-take (suc a) (suc b) (x ∷ xs) h = ap (λ (it : List Mark). x ∷ it) (take-take a b xs (omega arith))

-- Where no path goes on by the next mark, no pattern with more marks matches.
pub none_further : (tree : Tree) (patterns : List Pattern) (language : ℕ) (marks : List Mark) (start node n : ℕ) (mark d : Mark) → PatternsIndexed tree patterns
    → path_at tree node ≡ path_in language (take n (drop start marks)) → n < length (drop start marks) → mark ≡ get_or (drop start marks) n d
    → ((other : ℕ) (rest : List Mark) → other < size tree → path_at tree other ≢ (path_at tree node ++ mark ∷ []) ++ rest)
    → (i : ℕ) → i < length patterns → n + 1 ≤ length (shape (pattern_at patterns i).steps) → matches_at language marks start (pattern_at patterns i) ≡ true → ⊥
none_further tree patterns language marks start node n mark d t path_is within mark_is none i i_low many matched =
    let parts = matches-sound language marks start (pattern_at patterns i) matched in
    let whole = shape (pattern_at patterns i).steps in
    let front : take (n + 1) whole ≡ take n (drop start marks) ++ mark ∷ [] =
    ap (take (n + 1)) parts.1 ∙ take-take (n + 1) (length whole) (drop start marks) many ∙ take_more (drop start marks) n d within ∙ ap (λ (it : Mark). take n (drop start marks) ++ it ∷ []) (sym mark_is) in
    let split : whole ≡ (take n (drop start marks) ++ mark ∷ []) ++ drop (n + 1) whole = sym (take-append-drop (n + 1) whole) ∙ ap (λ (it : List Mark). it ++ drop (n + 1) whole) front in
    let key : key_at (map pattern_path patterns) i ≡ (path_at tree node ++ mark ∷ []) ++ drop (n + 1) whole =
    pattern_key patterns i i_low ∙ same_path _ _ _ _ parts.0 split
    ∙ ap (λ (it : List Mark). (it ++ mark ∷ []) ++ drop (n + 1) whole) (sym path_is) in
    t.key_path i (omega (arith, keys_length patterns)) (λ other low e. none other (drop (n + 1) whole) low (e ∙ key))

-- Where the language has no node, none of its patterns matches anywhere.
pub none_at_all : (tree : Tree) (patterns : List Pattern) (language : ℕ) (marks : List Mark) (root : ℕ) → PatternsIndexed tree patterns → path_at tree root ≡ []
    → ((other : ℕ) (rest : List Mark) → other < size tree → path_at tree other ≢ (path_at tree root ++ Language language ∷ []) ++ rest)
    → (place : ℕ) → greatest_digit patterns language marks place ≡ 0
unfolding greatest_digit
none_at_all tree patterns language marks root t root_is none place =
    let bound = greatest_of-bound (λ start. greatest_of (given_digit language marks start place) patterns) (range_with_len 0 (length marks + 1)) 0 0
    (λ k k_low. at_start (get_or (range_with_len 0 (length marks + 1)) k 0)) in
    omega arith
  where
    at_start : (start : ℕ) → greatest_of (given_digit language marks start place) patterns ≤ 0
    at_start start =
        greatest_of-bound (given_digit language marks start place) patterns (record { language = 0; steps = [] }) 0
        (λ i i_low.
        elim (given_cases language marks start place (pattern_at patterns i)) [
          | inl nothing ↦ omega arith
          | inr found ↦
              (let parts = matches-sound language marks start (pattern_at patterns i) found.0 in
              let whole = shape (pattern_at patterns i).steps in
              let key : key_at (map pattern_path patterns) i ≡ (path_at tree root ++ Language language ∷ []) ++ whole =
              pattern_key patterns i i_low ∙ ap (λ (l : ℕ). Language l ∷ whole) parts.0 ∙ ap (λ (it : List Mark). (it ++ Language language ∷ []) ++ whole) (sym root_is) in
              absurd (t.key_path i (omega (arith, keys_length patterns)) (λ other low e. none other whole low (e ∙ key))))
        ])

-- One mark further on the way.
pub walked : (tree : Tree) (language node child n : ℕ) (xs : List Mark) (mark d : Mark) → path_at tree node ≡ path_in language (take n xs) → n < length xs → mark ≡ get_or xs n d
    → path_at tree child ≡ path_at tree node ++ mark ∷ [] → path_at tree child ≡ path_in language (take (n + 1) xs)
walked tree language node child n xs mark d path_is within mark_is child_is =
    let step = take_more xs n d within in
    child_is ∙ ap (λ (it : List Mark). it ++ mark ∷ []) path_is ∙ ap (λ (it : Mark). path_in language (take n xs) ++ it ∷ []) mark_is ∙ ap (path_in language) (sym step)

-- What stands from the start on, as a slice has it.
pub rest_is : (marks : List Mark) (start : ℕ) → take (length marks - start) (drop start marks) ≡ drop start marks
rest_is marks start = take_whole (length marks - start) (drop start marks) (omega (arith, length-drop start marks))

pub none_further_in : (tree : Tree) (patterns : List Pattern) (language : ℕ) (marks : List Mark) (start node n : ℕ) (rest : List Mark) (mark d : Mark) → rest ≡ drop start marks → PatternsIndexed tree patterns
    → path_at tree node ≡ path_in language (take n (drop start marks)) → n < length rest → mark ≡ get_or rest n d
    → ((other : ℕ) (more : List Mark) → other < size tree → path_at tree other ≢ (path_at tree node ++ mark ∷ []) ++ more)
    → (i : ℕ) → i < length patterns → n + 1 ≤ length (shape (pattern_at patterns i).steps) → matches_at language marks start (pattern_at patterns i) ≡ true → ⊥
none_further_in tree patterns language marks start node n rest mark d e t path_is within mark_is none =
    none_further tree patterns language marks start node n mark d t path_is (subst (λ (it : List Mark). n < length it) e within) (mark_is ∙ ap (λ (it : List Mark). get_or it n d) e) none

pub walked_in : (tree : Tree) (language node child n : ℕ) (xs rest : List Mark) (mark d : Mark) → rest ≡ xs → path_at tree node ≡ path_in language (take n xs) → n < length rest → mark ≡ get_or rest n d
    → path_at tree child ≡ path_at tree node ++ mark ∷ [] → path_at tree child ≡ path_in language (take (n + 1) xs)
walked_in tree language node child n xs rest mark d e path_is within mark_is child_is =
    walked tree language node child n xs mark d path_is (subst (λ (it : List Mark). n < length it) e within) (mark_is ∙ ap (λ (it : List Mark). get_or it n d) e) child_is
