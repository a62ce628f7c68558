-- The tries keep standing for the tables.
use Rattle.std.proofs.Common.{◌≡◌, ℕ, zero, suc, ◌+◌, ◌<◌, ◌≤◌, Bool, true, false, List, [], ◌∷◌, ◌++◌, None, refl, ap, sym, ◌∙◌, subst, length, set, map, arith}
use Rattle.std.proofs.lemmas.List.{length-map, map_push, length_push, length-set}
use Rattle.std.proofs.Math.Seq.{map-set, map-set_same}
use Rattle.etx_patterns.specs.declared.step.Mark.{Mark}
use Rattle.etx_patterns.specs.declared.step.Mark.TheVariants.{Language, Character, Boundary}
use Rattle.etx_patterns.specs.declared.step.Step.{Step}
use Rattle.etx_patterns.specs.declared.step.Step.TheVariants.{Letter, Digit, Edge}
use Rattle.etx_patterns.specs.declared.tables.Pattern.{Pattern}
use Rattle.etx_patterns.specs.declared.tables.Exception.{Exception}
use Rattle.etx_patterns.specs.Shapes.{shape, path_in, letter_count, word_marks}
use Rattle.etx_patterns.specs.Tables.{pattern_path, exception_path, exception_of, exception_at, is_known, all_letters, new_pattern, new_exception, IsException, put, pattern_at, IsKnownAt}
use Rattle.etx_patterns.specs.Tree.{Tree, IsOnly, Grows}
use Rattle.etx_patterns.specs.Kept.{Indexes, PatternsIndexed, ExceptionsIndexed, digit_counts, counts_at, always, PatternsKept, ExceptionsKept}
use Rattle.etx_patterns.proofs.Indexing.{Indexes-grown, Indexes-added, Indexes-recounted, noted, word_marks-injective}
use Rattle.etx_patterns.proofs.Scoring.{pattern_key, pattern_counts, first_same, rest_same}
use Rattle.etx_patterns.proofs.Lookups.{none_known, no_such_path, exception_key, put-found}

pub patterns_grown : (tree new : Tree) (patterns : List Pattern) (letters : ℕ) → PatternsKept tree patterns letters → Grows tree new → PatternsKept new patterns letters
patterns_grown tree new patterns letters k g =
    record { indexed = Indexes-grown tree new _ _ g k.indexed; letters_are = k.letters_are; letters_few = k.letters_few }

pub exceptions_grown : (tree new : Tree) (exceptions : List Exception) → ExceptionsKept tree exceptions → Grows tree new → ExceptionsKept new exceptions
exceptions_grown tree new exceptions k g = record { indexed = Indexes-grown tree new _ _ g k.indexed; few = k.few }

all_letters-push : (patterns : List Pattern) (pattern : Pattern) → all_letters (patterns ++ pattern ∷ []) ≡ all_letters patterns + letter_count pattern.steps
all_letters-push [] pattern = omega arith
all_letters-push (first ∷ patterns) pattern = let rest = all_letters-push patterns pattern in omega arith

indexes_along : (tree tree' : Tree) (keys keys' : List (List Mark)) (counts counts' : List Bool) → tree ≡ tree' → keys ≡ keys' → counts ≡ counts' → Indexes tree keys counts → Indexes tree' keys' counts'
indexes_along tree tree' keys keys' counts counts' et ek ec t =
    subst (λ (it : List Bool). Indexes tree' keys' it) ec (subst (λ (it : List (List Mark)). Indexes tree' it counts) ek (subst (λ (it : Tree). Indexes it keys counts) et t))

patterns_added : (new : Tree) (patterns : List Pattern) (pattern : Pattern) (path : List Mark) (at : ℕ) → PatternsIndexed new patterns → IsOnly new path at → path ≡ pattern_path pattern → is_known patterns path ≡ false
    → PatternsIndexed (noted new at (length patterns)) (patterns ++ pattern ∷ [])
patterns_added new patterns pattern path at t only path_is none =
    let lengths = length-map patterns pattern_path in
    let counts_length : length (map digit_counts patterns) ≡ length (map pattern_path patterns) = length-map patterns digit_counts ∙ sym lengths in
    let added = Indexes-added new (map pattern_path patterns) (map digit_counts patterns) path at (digit_counts pattern) only counts_length
    (λ i low key counted.
    let i_low : i < length patterns = omega arith in
    none_known patterns path none i i_low (sym (pattern_key patterns i i_low) ∙ key) (sym (pattern_counts patterns i i_low) ∙ counted))
    t
    in
    let keys : map pattern_path patterns ++ path ∷ [] ≡ map pattern_path (patterns ++ pattern ∷ []) =
    ap (λ (it : List Mark). map pattern_path patterns ++ it ∷ []) path_is ∙ sym (map_push pattern_path patterns pattern) in
    let counts : map digit_counts patterns ++ digit_counts pattern ∷ [] ≡ map digit_counts (patterns ++ pattern ∷ []) = sym (map_push digit_counts patterns pattern) in
    indexes_along _ _ _ _ _ _ (ap (noted new at) lengths) keys counts added

pub pattern_pushed : (tree new newer : Tree) (patterns patterns' : List Pattern) (letters letters' language at : ℕ) (steps : List Step) (path : List Mark)
    → PatternsKept tree patterns letters → Grows tree new → IsOnly new path at → path ≡ path_in language (shape steps) → is_known patterns path ≡ false → all_letters patterns + letter_count steps ≤ 1000000
    → newer ≡ noted new at (length patterns) → patterns' ≡ patterns ++ new_pattern language steps ∷ [] → letters' ≡ letters + letter_count steps
    → PatternsKept newer patterns' letters'
pattern_pushed tree new newer patterns patterns' letters letters' language at steps path k g only path_is none room en ep el =
    let grown = Indexes-grown tree new _ _ g k.indexed in
    let added = patterns_added new patterns (new_pattern language steps) path at grown only path_is none in
    let sums = all_letters-push patterns (new_pattern language steps) in
    let sums' = ap all_letters ep in
    let letters_are = k.letters_are in
    record { indexed = rw (en, ep) added; letters_are = omega arith; letters_few = omega arith }

-- The letters of a pattern are those of its path.
abbrev characters : List Mark → ℕ
characters [] = 0
characters (Language language ∷ marks) = characters marks
characters (Character code ∷ marks) = characters marks + 1
characters (Boundary ∷ marks) = characters marks

letter_count-shape : (steps : List Step) → letter_count steps ≡ characters (shape steps)
letter_count-shape [] = refl
letter_count-shape (Letter code ∷ steps) = ap (λ (n : ℕ). n + 1) (letter_count-shape steps)
letter_count-shape (Digit digit ∷ steps) = letter_count-shape steps
letter_count-shape (Edge ∷ steps) = letter_count-shape steps

same_letters : (a b : Pattern) → pattern_path a ≡ pattern_path b → letter_count a.steps ≡ letter_count b.steps
same_letters a b e =
    letter_count-shape a.steps ∙ ap characters (rest_same a.language b.language (shape a.steps) (shape b.steps) e) ∙ sym (letter_count-shape b.steps)

all_letters-set : (patterns : List Pattern) (i : ℕ) (new : Pattern) → i < length patterns → letter_count new.steps ≡ letter_count (pattern_at patterns i).steps → all_letters (set patterns i new) ≡ all_letters patterns
all_letters-set [] i new low e = absurd (omega arith)
all_letters-set (pattern ∷ patterns) zero new low e = ap (λ (n : ℕ). n + all_letters patterns) e
all_letters-set (pattern ∷ patterns) (suc i) new low e = ap (λ (n : ℕ). letter_count pattern.steps + n) (all_letters-set patterns i new (omega arith) e)

-- A known pattern in the place of which another one with its path comes.
pub pattern_replaced : (tree : Tree) (patterns : List Pattern) (letters i : ℕ) (new : Pattern) → PatternsKept tree patterns letters → IsKnownAt patterns (pattern_path new) i
    → PatternsKept tree (set patterns i new) letters
pattern_replaced tree patterns letters i new k found =
    let keys : map pattern_path (set patterns i new) ≡ map pattern_path patterns = map-set_same pattern_path patterns i new _ (sym found.path_is) in
    let counts : map digit_counts (set patterns i new) ≡ set (map digit_counts patterns) i (digit_counts new) = map-set digit_counts patterns i new in
    let counted : counts_at (map digit_counts patterns) i ≡ true = pattern_counts patterns i found.within ∙ found.digit in
    let sums = all_letters-set patterns i new found.within (same_letters new (pattern_at patterns i) (sym found.path_is)) in
    let letters_are = k.letters_are in
    record {
      indexed =
          indexes_along _ _ _ _ _ _ refl (sym keys) (sym counts) (Indexes-recounted tree (map pattern_path patterns) (map digit_counts patterns) i (digit_counts new) counted k.indexed);
      letters_are = letters_are ∙ sym sums;
      letters_few = k.letters_few;
    }

-- The steps in the place of the known pattern's.
pub replaces : (patterns : List Pattern) (path : List Mark) (entry language : ℕ) (steps listed : List Step) (old : Pattern) → IsKnownAt patterns path entry → path ≡ path_in language (shape steps)
    → old ≡ pattern_at patterns entry → listed ≡ steps
    → (let new : Pattern = record { language = old.language; steps = listed } in new) ≡ new_pattern language steps
replaces patterns path entry language steps listed old found path_is old_is listed_is =
    let whole : path_in old.language (shape old.steps) ≡ path_in language (shape steps) = ap pattern_path old_is ∙ found.path_is ∙ path_is in
    let same_language : old.language ≡ language = first_same _ _ _ _ whole in
    cc

pub exception_pushed : (tree new newer : Tree) (exceptions exceptions' : List Exception) (at : ℕ) (exception : Exception) (path : List Mark)
    → ExceptionsKept tree exceptions → Grows tree new → IsOnly new path at → path ≡ exception_path exception → exception_of exceptions path ≡ None → length exceptions < 10000
    → newer ≡ noted new at (length exceptions) → exceptions' ≡ exceptions ++ exception ∷ []
    → ExceptionsKept newer exceptions'
exception_pushed tree new newer exceptions exceptions' at exception path k g only path_is none room en ep =
    let grown = Indexes-grown tree new _ _ g k.indexed in
    let lengths = length-map exceptions exception_path in
    let counts_length : length (map always exceptions) ≡ length (map exception_path exceptions) = length-map exceptions always ∙ sym lengths in
    let added = Indexes-added new (map exception_path exceptions) (map always exceptions) path at true only counts_length
    (λ i low key counted.
    let i_low : i < length exceptions = omega arith in
    no_such_path exceptions path none i i_low (sym (exception_key exceptions i i_low) ∙ key))
    grown
    in
    let keys : map exception_path exceptions ++ path ∷ [] ≡ map exception_path (exceptions ++ exception ∷ []) =
    ap (λ (it : List Mark). map exception_path exceptions ++ it ∷ []) path_is ∙ sym (map_push exception_path exceptions exception) in
    let counts : map always exceptions ++ true ∷ [] ≡ map always (exceptions ++ exception ∷ []) = sym (map_push always exceptions exception) in
    let indexed : ExceptionsIndexed (noted new at (length exceptions)) (exceptions ++ exception ∷ []) = indexes_along _ _ _ _ _ _ (ap (noted new at) lengths) keys counts added in
    let one = length_push exceptions exception in
    let length' = ap length ep in
    record { indexed = rw (en, ep) indexed; few = omega arith }

pub exception_replaced : (tree : Tree) (exceptions : List Exception) (i : ℕ) (exception : Exception)
    → ExceptionsKept tree exceptions → exception_path exception ≡ exception_path (exception_at exceptions i)
    → ExceptionsKept tree (set exceptions i exception)
exception_replaced tree exceptions i exception k same =
    let keys = map-set_same exception_path exceptions i exception _ same in
    let counts = map-set_same always exceptions i exception exception refl in
    let lengths = length-set exceptions i exception in
    let few = k.few in
    record { indexed = indexes_along _ _ _ _ _ _ refl (sym keys) (sym counts) k.indexed; few = omega arith }

-- New places in an exception's stead.
pub put_replaces : (exceptions : List Exception) (path : List Mark) (entry language : ℕ) (word places listed : List ℕ) (old : Exception) → IsException exceptions path entry → path ≡ path_in language (word_marks word)
    → old ≡ exception_at exceptions entry → listed ≡ places
    → set exceptions entry (record { language = old.language; word = old.word; places = listed }) ≡ put exceptions (new_exception language word places)
put_replaces exceptions path entry language word places listed old found path_is old_is listed_is =
    let whole : path_in old.language (word_marks old.word) ≡ path_in language (word_marks word) = ap exception_path old_is ∙ found.path_is ∙ path_is in
    let same_language : old.language ≡ language = first_same _ _ _ _ whole in
    let same_word : old.word ≡ word = word_marks-injective old.word word (rest_same _ _ _ _ whole) in
    let new : new_exception old.language old.word listed ≡ new_exception language word places = cc in
    ap (set exceptions entry) new
    ∙ sym
    (put-found exceptions (new_exception language word places) entry found.within (found.path_is ∙ path_is)
    (λ other low e. found.only other low (e ∙ sym path_is)))
