-- The tables of patterns and exceptions, and the places of a word that they allow.
use Rattle.std.specs.Prelude.{ℕ, ◌+◌, ◌-◌, Bool, true, false, ◌&&◌, ◌||◌, List, [], ◌∷◌, ◌++◌, max, filter, length, take, drop, Option, Some, None, is_some, if◌then◌else◌, ◌==◌, nat_lt, nat_le, Result, Ok, Err, ◌≡◌, ◌<◌, slice_index_or, ⊤}
use Rattle.std.specs.List.{range_with_len, list_any}
use Rattle.etx_patterns.specs.declared.step.Step.{Step}
use Rattle.etx_patterns.specs.declared.step.Mark.{Mark}
use Rattle.etx_patterns.specs.declared.tables.Pattern.{Pattern}
use Rattle.etx_patterns.specs.declared.tables.Exception.{Exception}
use Rattle.etx_patterns.specs.declared.refused.PatternRefused.{PatternRefused}
use Rattle.etx_patterns.specs.declared.refused.PatternRefused.TheVariants.{NonLetter, Duplicate, Full, OutOfMemory}
use Rattle.etx_patterns.specs.Shapes.{shape, has_digit, has_zero_letter, letter_count, digit_from, same_marks, word_marks, framed, path_in, is_odd}

-- The patterns in the order in which they were added, and one exception at most for each word of a language.
pub record Tables : Type 0 where
  pub patterns : List Pattern
  pub exceptions : List Exception

abbrev pub empty : Tables
empty = record { patterns = []; exceptions = [] }

abbrev pub pattern_path : Pattern → List Mark
pattern_path pattern = path_in pattern.language (shape pattern.steps)

abbrev pub exception_path : Exception → List Mark
exception_path exception = path_in exception.language (word_marks exception.word)

-- Whether the pattern matches at `start`: the marks from there on begin with what it matches.
unfoldable pub matches_at : ℕ → List Mark → ℕ → Pattern → Bool
matches_at language marks start pattern =
    pattern.language == language && same_marks (shape pattern.steps) (take (length (shape pattern.steps)) (drop start marks))

-- The digit that a pattern gives a place by a match at `start`, or 0.
unfoldable pub given_digit : ℕ → List Mark → ℕ → ℕ → Pattern → ℕ
given_digit language marks start place pattern = if matches_at language marks start pattern then digit_from pattern.steps start place else 0

-- The greatest of these numbers, 0 where there is none.
abbrev pub greatest_of : {X : Type 0} → (X → ℕ) → List X → ℕ
greatest_of number [] = 0
greatest_of number (x ∷ xs) = max (number x) (greatest_of number xs)

-- The greatest digit at a place, over all patterns of the language and all places where they match.
-- Places count the marks before them, the first edge among them.
unfoldable pub greatest_digit : List Pattern → ℕ → List Mark → ℕ → ℕ
greatest_digit patterns language marks place =
    greatest_of (λ start. greatest_of (given_digit language marks start place) patterns) (range_with_len 0 (length marks + 1))

-- The places of the exception for this word of the language, if there is one.
abbrev pub exception_of : List Exception → List Mark → Option (List ℕ)
exception_of [] path = None
exception_of (exception ∷ exceptions) path = if same_marks (exception_path exception) path then Some exception.places else exception_of exceptions path

abbrev pub allowed_by : Option (List ℕ) → ℕ → ℕ → Bool
allowed_by None digit place = is_odd digit
allowed_by (Some places) digit place = list_any (λ k. k == place) places

-- Whether a hyphen may follow that many letters of the word: by its exception, if there is one, or else where the
-- greatest digit is odd. One edge stands before the letters.
abbrev pub is_allowed : Tables → ℕ → List ℕ → ℕ → Bool
is_allowed tables language word place =
    allowed_by (exception_of tables.exceptions (path_in language (word_marks word))) (greatest_digit tables.patterns language (framed word) (place + 1)) place

-- The places between two letters of a word that pass a test, in order.
abbrev pub places_that : (ℕ → Bool) → ℕ → List ℕ
places_that allowed letters = filter allowed (range_with_len 1 (letters - 1))

abbrev pub places_of : Tables → ℕ → List ℕ → List ℕ
places_of tables language word = places_that (is_allowed tables language word) (length word)

-- The letters of all patterns.
abbrev pub all_letters : List Pattern → ℕ
all_letters [] = 0
all_letters (pattern ∷ patterns) = letter_count pattern.steps + all_letters patterns

-- Whether the language has a pattern of the same letters and edges, in the same order, with a digit above 0.
abbrev pub is_known : List Pattern → List Mark → Bool
is_known [] path = false
is_known (pattern ∷ patterns) path = (same_marks (pattern_path pattern) path && has_digit pattern.steps) || is_known patterns path

-- Why a pattern is refused, if it is. The letters of all patterns are at most 1000000.
unfoldable pub pattern_refusal : Tables → ℕ → List Step → Option PatternRefused
pattern_refusal tables language steps =
    if has_zero_letter steps then Some NonLetter
    else (if is_known tables.patterns (path_in language (shape steps)) then Some Duplicate
    else (if nat_lt 1000000 (all_letters tables.patterns + letter_count steps) then Some Full else None))

abbrev pub new_pattern : ℕ → List Step → Pattern
new_pattern language steps = record { language = language; steps = steps }

unfoldable pub with_pattern : Tables → ℕ → List Step → Tables
with_pattern tables language steps = record tables { patterns = tables.patterns ++ new_pattern language steps ∷ [] }

-- A pattern in the place of the one with its path and with a digit above 0.
abbrev pub replaced : List Pattern → Pattern → List Pattern
replaced [] new = []
replaced (pattern ∷ patterns) new = if same_marks (pattern_path pattern) (pattern_path new) && has_digit pattern.steps then new ∷ patterns else pattern ∷ replaced patterns new

-- Adds a pattern, or puts it in the place of the known one with its letters and edges. "TeX: The Program", section 963:
-- there a pattern that comes again is stored all the same, behind the error.
unfoldable pub with_replaced : Tables → ℕ → List Step → Tables
with_replaced tables language steps =
    if is_known tables.patterns (path_in language (shape steps)) then record tables { patterns = replaced tables.patterns (new_pattern language steps) }
    else record tables { patterns = tables.patterns ++ new_pattern language steps ∷ [] }

-- Why that is refused, if it is. A pattern in the place of another takes no further room.
unfoldable pub replacement_refusal : Tables → ℕ → List Step → Option PatternRefused
replacement_refusal tables language steps =
    if has_zero_letter steps then Some NonLetter
    else (if is_known tables.patterns (path_in language (shape steps)) then None
    else (if nat_lt 1000000 (all_letters tables.patterns + letter_count steps) then Some Full else None))

-- Why an exception is refused, if it is. A word that has one already takes no further room; there is room for 10000.
unfoldable pub exception_refusal : Tables → ℕ → List ℕ → Option PatternRefused
exception_refusal tables language word =
    if list_any (λ letter. letter == 0) word then Some NonLetter
    else (if is_some (exception_of tables.exceptions (path_in language (word_marks word))) then None
    else (if nat_le 10000 (length tables.exceptions) then Some Full else None))

-- A word of this path has an exception, or there is room for one.
abbrev pub has_room_for : List Exception → List Mark → Bool
has_room_for exceptions path = is_some (exception_of exceptions path) || nat_lt (length exceptions) 10000

-- An exception takes the place of an earlier one for the same word, or is added.
abbrev pub put : List Exception → Exception → List Exception
put [] new = new ∷ []
put (exception ∷ exceptions) new = if same_marks (exception_path exception) (exception_path new) then new ∷ exceptions else exception ∷ put exceptions new

abbrev pub new_exception : ℕ → List ℕ → List ℕ → Exception
new_exception language word places = record { language = language; word = word; places = places }

unfoldable pub with_exception : Tables → ℕ → List ℕ → List ℕ → Tables
with_exception tables language word places = record tables { exceptions = put tables.exceptions (new_exception language word places) }

-- The answer is Ok exactly where nothing refuses, and each refusal exactly where it is due; want of memory is free.
abbrev pub AnswersBy : Option PatternRefused → Result (Unit {0}) PatternRefused → Type 0
AnswersBy refusal (Ok done) = refusal ≡ None
AnswersBy refusal (Err OutOfMemory) = ⊤
AnswersBy refusal (Err NonLetter) = refusal ≡ Some NonLetter
AnswersBy refusal (Err Duplicate) = refusal ≡ Some Duplicate
AnswersBy refusal (Err Full) = refusal ≡ Some Full

abbrev pub exception_at : List Exception → ℕ → Exception
exception_at exceptions i = slice_index_or exceptions i (record { language = 0; word = []; places = [] })

-- The entry is the number of the one exception with this path.
pub record IsException (exceptions : List Exception) (path : List Mark) (entry : ℕ) : Type 0 where
  pub within : entry < length exceptions
  pub path_is : exception_path (exception_at exceptions entry) ≡ path
  pub first : exception_of exceptions path ≡ Some (exception_at exceptions entry).places
  pub only : (other : ℕ) → other < length exceptions → exception_path (exception_at exceptions other) ≡ path → other ≡ entry

abbrev pub pattern_at : List Pattern → ℕ → Pattern
pattern_at patterns i = slice_index_or patterns i (record { language = 0; steps = [] })

-- The number of the one pattern with this path and with a digit above 0.
pub record IsKnownAt (patterns : List Pattern) (path : List Mark) (i : ℕ) : Type 0 where
  pub within : i < length patterns
  pub path_is : pattern_path (pattern_at patterns i) ≡ path
  pub digit : has_digit (pattern_at patterns i).steps ≡ true
  pub only : (other : ℕ) → other < length patterns → pattern_path (pattern_at patterns other) ≡ path → has_digit (pattern_at patterns other).steps ≡ true → other ≡ i
