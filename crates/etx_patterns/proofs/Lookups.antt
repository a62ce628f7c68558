-- What a look-up in the indexes says of the lists.
use Rattle.std.proofs.Common.{◌≡◌, ◌≢◌, ℕ, zero, suc, ◌<◌, Bool, true, false, ◌&&◌, ◌||◌, List, [], ◌∷◌, ◌++◌, Option, None, Some, MatchOption, inl, inr, refl, ap, sym, ◌∙◌, length, set, map, arith}
use Rattle.std.proofs.lemmas.Bool.{cases_Bool}
use Rattle.std.proofs.lemmas.List.{get_or-map, length-map}
use Rattle.etx_patterns.specs.declared.step.Mark.{Mark}
use Rattle.etx_patterns.specs.declared.tables.Pattern.{Pattern}
use Rattle.etx_patterns.specs.declared.tables.Exception.{Exception}
use Rattle.etx_patterns.specs.Shapes.{has_digit, same_marks}
use Rattle.etx_patterns.specs.Tables.{pattern_path, exception_path, exception_of, exception_at, IsException, is_known, put, replaced, IsKnownAt}
use Rattle.etx_patterns.specs.Tree.{Tree, size, path_at, entry_at, IsOnly}
use Rattle.etx_patterns.specs.Kept.{key_at, counts_at, PatternsIndexed, ExceptionsIndexed, always}
use Rattle.etx_patterns.specs.Tables.{pattern_at}
use Rattle.etx_patterns.proofs.Indexing.{same_marks-sound, same_marks-complete, not_same_marks}
use Rattle.etx_patterns.proofs.Scoring.{pattern_key, pattern_counts}

-- No pattern with this path has a digit.
abbrev pub NoneKnown : List Pattern → List Mark → Type 0
NoneKnown patterns path = (i : ℕ) → i < length patterns → pattern_path (pattern_at patterns i) ≡ path → has_digit (pattern_at patterns i).steps ≡ true → ⊥

pub unknown : (patterns : List Pattern) (path : List Mark) → NoneKnown patterns path → is_known patterns path ≡ false
unknown [] path none = refl
unknown (pattern ∷ patterns) path none =
    let rest = unknown patterns path (λ i low e d. none (suc i) (omega arith) e d) in
    elim (cases_Bool (same_marks (pattern_path pattern) path)) [
      | inl same ↦
          (elim (cases_Bool (has_digit pattern.steps)) [
            | inl digit ↦ absurd (none 0 (omega arith) (same_marks-sound (pattern_path pattern) path same) digit)
            | inr no_digit ↦ rw (same, no_digit) rest
          ])
      | inr other ↦ rw other rest
    ]

pub known : (patterns : List Pattern) (path : List Mark) (i : ℕ) → i < length patterns → pattern_path (pattern_at patterns i) ≡ path → has_digit (pattern_at patterns i).steps ≡ true → is_known patterns path ≡ true
known [] path i low e d = absurd (omega arith)
known (pattern ∷ patterns) path zero low e d =
    let same = same_marks-complete (pattern_path pattern) path e in
    rw (same, d) refl
known (pattern ∷ patterns) path (suc i) low e d =
    let rest = known patterns path i (omega arith) e d in
    or_true (same_marks (pattern_path pattern) path && has_digit pattern.steps) (is_known patterns path) rest
  where
    or_true : (a b : Bool) → b ≡ true → (a || b) ≡ true
    or_true true b e = refl
    or_true false b e = e

-- The converse, for adding.
pub none_known : (patterns : List Pattern) (path : List Mark) → is_known patterns path ≡ false → NoneKnown patterns path
none_known patterns path e i low p d = let k = known patterns path i low p d in cc

patterns_length : (patterns : List Pattern) → length (map pattern_path patterns) ≡ length patterns
patterns_length patterns = length-map patterns pattern_path

pub unknown_nowhere : (tree : Tree) (patterns : List Pattern) (path : List Mark) → PatternsIndexed tree patterns → ((node : ℕ) → node < size tree → path_at tree node ≢ path) → is_known patterns path ≡ false
unknown_nowhere tree patterns path t none =
    unknown patterns path (λ i low e d. t.key_path i (omega (arith, patterns_length patterns)) (λ node node_low there. none node node_low (there ∙ pattern_key patterns i low ∙ e)))

pub unknown_here : (tree : Tree) (patterns : List Pattern) (path : List Mark) (node : ℕ) → PatternsIndexed tree patterns → IsOnly tree path node → entry_at tree node ≡ None → is_known patterns path ≡ false
unknown_here tree patterns path node t only none =
    unknown patterns path
    (λ i low e d.
    let entry = t.key_entry node i only.within (omega (arith, patterns_length patterns)) (pattern_key patterns i low ∙ e ∙ sym only.path_is) (pattern_counts patterns i low ∙ d) in
    absurd (cc))

pub entry_pattern : (tree : Tree) (patterns : List Pattern) (node i : ℕ) → PatternsIndexed tree patterns → node < size tree → entry_at tree node ≡ Some i
    → (i < length patterns) × (pattern_path (pattern_at patterns i) ≡ path_at tree node)
entry_pattern tree patterns node i t low e =
    let found = t.entry_key node i low e in
    let i_low : i < length patterns = omega (arith, patterns_length patterns) in
    (i_low, sym (pattern_key patterns i i_low) ∙ found.1)

pub known_here : (tree : Tree) (patterns : List Pattern) (path : List Mark) (node i : ℕ) → PatternsIndexed tree patterns → IsOnly tree path node → entry_at tree node ≡ Some i
    → has_digit (pattern_at patterns i).steps ≡ is_known patterns path
known_here tree patterns path node i t only e =
    let found = entry_pattern tree patterns node i t only.within e in
    elim (cases_Bool (has_digit (pattern_at patterns i).steps)) [
      | inl digit ↦ digit ∙ sym (known patterns path i found.0 (found.1 ∙ only.path_is) digit)
      | inr none ↦
          none ∙ sym
          (unknown patterns path
          (λ j low p d.
          let entry = t.key_entry node j only.within (omega (arith, patterns_length patterns)) (pattern_key patterns j low ∙ p ∙ sym only.path_is) (pattern_counts patterns j low ∙ d) in
          let same : j ≡ i = some_same j i (sym entry ∙ e) in
          let there : has_digit (pattern_at patterns i).steps ≡ true = ap (λ (k : ℕ). has_digit (pattern_at patterns k).steps) (sym same) ∙ d in
          absurd (cc)))
    ]
  where
    some_same : (a b : ℕ) → Some a ≡ Some b → a ≡ b
    some_same a b e = cc

-- The entry of a node is the one known pattern with its path.
pub known_only : (tree : Tree) (patterns : List Pattern) (path : List Mark) (node i : ℕ) → PatternsIndexed tree patterns → IsOnly tree path node → entry_at tree node ≡ Some i
    → has_digit (pattern_at patterns i).steps ≡ true → IsKnownAt patterns path i
known_only tree patterns path node i t only e digit =
    let found = entry_pattern tree patterns node i t only.within e in
    record {
      within = found.0;
      path_is = found.1 ∙ only.path_is;
      digit = digit;
      only = λ j low p d.
          some_same j i
          (sym (t.key_entry node j only.within (omega (arith, patterns_length patterns)) (pattern_key patterns j low ∙ p ∙ sym only.path_is) (pattern_counts patterns j low ∙ d)) ∙ e);
    }
  where
    some_same : (a b : ℕ) → Some a ≡ Some b → a ≡ b
    some_same a b e = cc

pub known_at_is : (patterns : List Pattern) (path : List Mark) (i : ℕ) → IsKnownAt patterns path i → is_known patterns path ≡ true
known_at_is patterns path i found = known patterns path i found.within found.path_is found.digit

zero_is_no_suc : (i : ℕ) → 0 ≡ suc i → ⊥
zero_is_no_suc i e = omega arith

same_if_suc : (a b : ℕ) → suc a ≡ suc b → a ≡ b
same_if_suc a b e = omega arith

passed_over : (pattern new : Pattern) → (pattern_path pattern ≡ pattern_path new → has_digit pattern.steps ≡ true → ⊥) → (same_marks (pattern_path pattern) (pattern_path new) && has_digit pattern.steps) ≡ false
passed_over pattern new apart =
    elim (cases_Bool (same_marks (pattern_path pattern) (pattern_path new))) [
      | inl same ↦
          (elim (cases_Bool (has_digit pattern.steps)) [
            | inl digit ↦ absurd (apart (same_marks-sound (pattern_path pattern) (pattern_path new) same) digit)
            | inr none ↦ rw (same, none) refl
          ])
      | inr other ↦ rw other refl
    ]

pub replaced-found : (patterns : List Pattern) (new : Pattern) (i : ℕ) → i < length patterns → pattern_path (pattern_at patterns i) ≡ pattern_path new → has_digit (pattern_at patterns i).steps ≡ true
    → ((j : ℕ) → j < length patterns → pattern_path (pattern_at patterns j) ≡ pattern_path new → has_digit (pattern_at patterns j).steps ≡ true → j ≡ i)
    → replaced patterns new ≡ set patterns i new
replaced-found [] new i low e d only = absurd (omega arith)
replaced-found (pattern ∷ patterns) new zero low e d only =
    let same = same_marks-complete (pattern_path pattern) (pattern_path new) e in
    rw (same, d) refl
replaced-found (pattern ∷ patterns) new (suc i) low e d only =
    let other = passed_over pattern new (λ p q. zero_is_no_suc i (only 0 (omega arith) p q)) in
    rw other
    (ap (λ (it : List Pattern). pattern ∷ it)
    (replaced-found patterns new i (omega arith) e d (λ j j_low p q. same_if_suc j i (only (suc j) (omega arith) p q))))

-- Exceptions.
pub exception_key : (exceptions : List Exception) (i : ℕ) → i < length exceptions → key_at (map exception_path exceptions) i ≡ exception_path (exception_at exceptions i)
exception_key exceptions i low = get_or-map exception_path exceptions i _ [] low

pub exception_counts : (exceptions : List Exception) (i : ℕ) → i < length exceptions → counts_at (map always exceptions) i ≡ true
exception_counts exceptions i low = get_or-map always exceptions i (record { language = 0; word = []; places = [] }) false low

pub exceptions_length : (exceptions : List Exception) → length (map exception_path exceptions) ≡ length exceptions
exceptions_length exceptions = length-map exceptions exception_path

pub no_exception : (exceptions : List Exception) (path : List Mark) → ((i : ℕ) → i < length exceptions → exception_path (exception_at exceptions i) ≡ path → ⊥) → exception_of exceptions path ≡ None
no_exception [] path none = refl
no_exception (exception ∷ exceptions) path none =
    let other = not_same_marks (exception_path exception) path (none 0 (omega arith)) in
    rw other (no_exception exceptions path (λ i low e. none (suc i) (omega arith) e))

-- The converse.
pub no_such_path : (exceptions : List Exception) (path : List Mark) → exception_of exceptions path ≡ None → (i : ℕ) → i < length exceptions → exception_path (exception_at exceptions i) ≡ path → ⊥
no_such_path [] path none i low e = omega arith
no_such_path (exception ∷ exceptions) path none zero low e =
    let same = same_marks-complete (exception_path exception) path e in
    some_is_not_none exception.places (rw same at none)
  where
    some_is_not_none : (places : List ℕ) → Some places ≡ None → ⊥
    some_is_not_none places e = cc
no_such_path (exception ∷ exceptions) path none (suc i) low e =
    elim (cases_Bool (same_marks (exception_path exception) path)) [
      | inl same ↦ some_is_not_none exception.places (rw same at none)
      | inr other ↦ no_such_path exceptions path (rw other at none) i (omega arith) e
    ]
  where
    some_is_not_none : (places : List ℕ) → Some places ≡ None → ⊥
    some_is_not_none places e = cc

abbrev pub OnlyException : List Exception → List Mark → ℕ → Type 0
OnlyException exceptions path i = (j : ℕ) → j < length exceptions → exception_path (exception_at exceptions j) ≡ path → j ≡ i

pub only_exception : (exceptions : List Exception) (path : List Mark) (i : ℕ) → i < length exceptions → exception_path (exception_at exceptions i) ≡ path → OnlyException exceptions path i
    → exception_of exceptions path ≡ Some (exception_at exceptions i).places
only_exception [] path i low e only = absurd (omega arith)
only_exception (exception ∷ exceptions) path zero low e only =
    let same = same_marks-complete (exception_path exception) path e in
    rw same refl
only_exception (exception ∷ exceptions) path (suc i) low e only =
    let other = not_same_marks (exception_path exception) path (λ p. zero_not_suc i (only 0 (omega arith) p)) in
    rw other (only_exception exceptions path i (omega arith) e (λ j j_low p. suc_same j i (only (suc j) (omega arith) p)))
  where
    zero_not_suc : (i : ℕ) → 0 ≡ suc i → ⊥
    zero_not_suc i e = omega arith

    suc_same : (a b : ℕ) → suc a ≡ suc b → a ≡ b
    suc_same a b e = omega arith

pub put-found : (exceptions : List Exception) (new : Exception) (i : ℕ) → i < length exceptions → exception_path (exception_at exceptions i) ≡ exception_path new → OnlyException exceptions (exception_path new) i
    → put exceptions new ≡ set exceptions i new
put-found [] new i low e only = absurd (omega arith)
put-found (exception ∷ exceptions) new zero low e only =
    let same = same_marks-complete (exception_path exception) (exception_path new) e in
    rw same refl
put-found (exception ∷ exceptions) new (suc i) low e only =
    let other = not_same_marks (exception_path exception) (exception_path new) (λ p. zero_not_suc i (only 0 (omega arith) p)) in
    rw other (ap (λ (it : List Exception). exception ∷ it) (put-found exceptions new i (omega arith) e (λ j j_low p. suc_same j i (only (suc j) (omega arith) p))))
  where
    zero_not_suc : (i : ℕ) → 0 ≡ suc i → ⊥
    zero_not_suc i e = omega arith

    suc_same : (a b : ℕ) → suc a ≡ suc b → a ≡ b
    suc_same a b e = omega arith

pub put-new : (exceptions : List Exception) (new : Exception) → exception_of exceptions (exception_path new) ≡ None → put exceptions new ≡ exceptions ++ new ∷ []
put-new [] new none = refl
put-new (exception ∷ exceptions) new none =
    elim (cases_Bool (same_marks (exception_path exception) (exception_path new))) [
      | inl same ↦ absurd (some_is_not_none exception.places (rw same at none))
      | inr other ↦ rw other (ap (λ (it : List Exception). exception ∷ it) (put-new exceptions new (rw other at none)))
    ]
  where
    some_is_not_none : (places : List ℕ) → Some places ≡ None → ⊥
    some_is_not_none places e = cc

pub no_exception_nowhere : (tree : Tree) (exceptions : List Exception) (path : List Mark) → ExceptionsIndexed tree exceptions → ((node : ℕ) → node < size tree → path_at tree node ≢ path) → exception_of exceptions path ≡ None
no_exception_nowhere tree exceptions path t none =
    no_exception exceptions path
    (λ i low e. t.key_path i (omega (arith, exceptions_length exceptions)) (λ node node_low there. none node node_low (there ∙ exception_key exceptions i low ∙ e)))

pub exception_here : (tree : Tree) (exceptions : List Exception) (path : List Mark) (node : ℕ) (entry : Option ℕ) → ExceptionsIndexed tree exceptions → IsOnly tree path node → entry_at tree node ≡ entry
    → MatchOption entry (exception_of exceptions path ≡ None) (λ i. IsException exceptions path i)
exception_here tree exceptions path node None t only e =
    no_exception exceptions path
    (λ i low p.
    let entry = t.key_entry node i only.within (omega (arith, exceptions_length exceptions)) (exception_key exceptions i low ∙ p ∙ sym only.path_is) (exception_counts exceptions i low) in
    absurd (none_not_some i (sym e ∙ entry)))
  where
    none_not_some : (i : ℕ) → None ≡ Some i → ⊥
    none_not_some i e = cc
exception_here tree exceptions path node (Some i) t only e =
    let found = t.entry_key node i only.within e in
    let i_low : i < length exceptions = omega (arith, exceptions_length exceptions) in
    let path_is : exception_path (exception_at exceptions i) ≡ path = sym (exception_key exceptions i i_low) ∙ found.1 ∙ only.path_is in
    let alone : OnlyException exceptions path i =
    λ j low p. some_same j i
    (sym (t.key_entry node j only.within (omega (arith, exceptions_length exceptions)) (exception_key exceptions j low ∙ p ∙ sym only.path_is) (exception_counts exceptions j low)) ∙ e)
    in
    record { within = i_low; path_is = path_is; first = only_exception exceptions path i i_low path_is alone; only = alone }
  where
    some_same : (a b : ℕ) → Some a ≡ Some b → a ≡ b
    some_same a b e = cc
