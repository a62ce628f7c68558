-- Which refusal is due.
use Rattle.std.proofs.Common.{◌≡◌, ℕ, ◌+◌, ◌<◌, ◌≤◌, true, false, ltb, leb, List, [], ◌∷◌, ◌++◌, length, None, Some, refl, arith}
use Rattle.std.proofs.lemmas.Bool.{ltb-true, ltb-false}
use Rattle.std.proofs.lemmas.Bool.Decides.{nat_tests}
use Rattle.std.specs.Prelude.{◌==◌, ◌||◌, Bool, Option, is_some}
use Rattle.std.specs.List.{list_any}
use Rattle.etx_patterns.specs.declared.step.Step.{Step}
use Rattle.etx_patterns.specs.declared.step.Mark.{Mark}
use Rattle.etx_patterns.specs.declared.tables.Exception.{Exception}
use Rattle.etx_patterns.specs.declared.refused.PatternRefused.TheVariants.{NonLetter, Duplicate, Full}
use Rattle.etx_patterns.specs.Shapes.{shape, has_zero_letter, letter_count, path_in, word_marks}
use Rattle.etx_patterns.specs.Tables.{Tables, pattern_refusal, exception_refusal, exception_of, has_room_for, is_known, all_letters, replacement_refusal, with_replaced, replaced, new_pattern}

above : (n : ℕ) → 1000000 < n → ltb 1000000 n ≡ true
above n h = grind (arith, nat_tests)

not_above : (n : ℕ) → n ≤ 1000000 → ltb 1000000 n ≡ false
not_above n h = grind (arith, nat_tests)

pub refused_letter : (tables : Tables) (language : ℕ) (steps : List Step) → has_zero_letter steps ≡ true → pattern_refusal tables language steps ≡ Some NonLetter
unfolding pattern_refusal
refused_letter tables language steps a = rw a refl

pub refused_known : (tables : Tables) (language : ℕ) (steps : List Step) → has_zero_letter steps ≡ false → is_known tables.patterns (path_in language (shape steps)) ≡ true → pattern_refusal tables language steps ≡ Some Duplicate
unfolding pattern_refusal
refused_known tables language steps a b = rw (a, b) refl

pub refused_full : (tables : Tables) (language : ℕ) (steps : List Step) → has_zero_letter steps ≡ false → is_known tables.patterns (path_in language (shape steps)) ≡ false
    → 1000000 < all_letters tables.patterns + letter_count steps → pattern_refusal tables language steps ≡ Some Full
unfolding pattern_refusal
refused_full tables language steps a b h = let d = above (all_letters tables.patterns + letter_count steps) h in rw (a, b, d) refl

pub accepted : (tables : Tables) (language : ℕ) (steps : List Step) → has_zero_letter steps ≡ false → is_known tables.patterns (path_in language (shape steps)) ≡ false
    → all_letters tables.patterns + letter_count steps ≤ 1000000 → pattern_refusal tables language steps ≡ None
unfolding pattern_refusal
accepted tables language steps a b h = let d = not_above (all_letters tables.patterns + letter_count steps) h in rw (a, b, d) refl

pub exception_letter : (tables : Tables) (language : ℕ) (word : List ℕ) → list_any (λ letter. letter == 0) word ≡ true → exception_refusal tables language word ≡ Some NonLetter
unfolding exception_refusal
exception_letter tables language word a = rw a refl

pub exception_replaced : (tables : Tables) (language : ℕ) (word places : List ℕ) → list_any (λ letter. letter == 0) word ≡ false → exception_of tables.exceptions (path_in language (word_marks word)) ≡ Some places
    → exception_refusal tables language word ≡ None
unfolding exception_refusal
exception_replaced tables language word places a b = rw (a, b) refl

many : (n : ℕ) → 10000 ≤ n → leb 10000 n ≡ true
many n h = grind (arith, nat_tests)

few : (n : ℕ) → n < 10000 → leb 10000 n ≡ false
few n h = grind (arith, nat_tests)

pub exception_full : (tables : Tables) (language : ℕ) (word : List ℕ) → list_any (λ letter. letter == 0) word ≡ false → exception_of tables.exceptions (path_in language (word_marks word)) ≡ None
    → 10000 ≤ length tables.exceptions → exception_refusal tables language word ≡ Some Full
unfolding exception_refusal
exception_full tables language word a b h = let d = many (length tables.exceptions) h in rw (a, b, d) refl

pub exception_accepted : (tables : Tables) (language : ℕ) (word : List ℕ) → list_any (λ letter. letter == 0) word ≡ false → exception_of tables.exceptions (path_in language (word_marks word)) ≡ None
    → length tables.exceptions < 10000 → exception_refusal tables language word ≡ None
unfolding exception_refusal
exception_accepted tables language word a b h = let d = few (length tables.exceptions) h in rw (a, b, d) refl

pub replacement_letter : (tables : Tables) (language : ℕ) (steps : List Step) → has_zero_letter steps ≡ true → replacement_refusal tables language steps ≡ Some NonLetter
unfolding replacement_refusal
replacement_letter tables language steps a = rw a refl

pub replacement_known : (tables : Tables) (language : ℕ) (steps : List Step) → has_zero_letter steps ≡ false → is_known tables.patterns (path_in language (shape steps)) ≡ true
    → (replacement_refusal tables language steps ≡ None) × (with_replaced tables language steps ≡ record tables { patterns = replaced tables.patterns (new_pattern language steps) })
unfolding replacement_refusal with_replaced
replacement_known tables language steps a b = (rw (a, b) refl, rw b refl)

pub replacement_full : (tables : Tables) (language : ℕ) (steps : List Step) → has_zero_letter steps ≡ false → is_known tables.patterns (path_in language (shape steps)) ≡ false
    → 1000000 < all_letters tables.patterns + letter_count steps → replacement_refusal tables language steps ≡ Some Full
unfolding replacement_refusal
replacement_full tables language steps a b h = let d = above (all_letters tables.patterns + letter_count steps) h in rw (a, b, d) refl

pub replacement_added : (tables : Tables) (language : ℕ) (steps : List Step) → has_zero_letter steps ≡ false → is_known tables.patterns (path_in language (shape steps)) ≡ false
    → all_letters tables.patterns + letter_count steps ≤ 1000000
    → (replacement_refusal tables language steps ≡ None) × (with_replaced tables language steps ≡ record tables { patterns = tables.patterns ++ new_pattern language steps ∷ [] })
unfolding replacement_refusal with_replaced
replacement_added tables language steps a b h = let d = not_above (all_letters tables.patterns + letter_count steps) h in (rw (a, b, d) refl, rw b refl)

neither : (a b : Bool) → (a || b) ≡ false → (a ≡ false) × (b ≡ false)
neither true b e = cc
neither false b e = (refl, e)

is_none_of : {X : Type 0} (o : Option X) → is_some o ≡ false → o ≡ None
is_none_of None e = refl
is_none_of (Some x) e = cc

pub no_room : (tables : Tables) (language : ℕ) (word : List ℕ) → list_any (λ letter. letter == 0) word ≡ false → has_room_for tables.exceptions (path_in language (word_marks word)) ≡ false
    → exception_refusal tables language word ≡ Some Full
no_room tables language word a b =
    let parts = neither (is_some (exception_of tables.exceptions (path_in language (word_marks word)))) (ltb (length tables.exceptions) 10000) b in
    exception_full tables language word a (is_none_of (exception_of tables.exceptions (path_in language (word_marks word))) parts.0) (ltb-false (length tables.exceptions) 10000 parts.1)

room_by : (tables : Tables) (language : ℕ) (word : List ℕ) (o : Option (List ℕ)) → list_any (λ letter. letter == 0) word ≡ false → exception_of tables.exceptions (path_in language (word_marks word)) ≡ o
    → (is_some o || ltb (length tables.exceptions) 10000) ≡ true → exception_refusal tables language word ≡ None
room_by tables language word None a e b = exception_accepted tables language word a e (ltb-true (length tables.exceptions) 10000 b)
room_by tables language word (Some places) a e b = exception_replaced tables language word places a e

pub room : (tables : Tables) (language : ℕ) (word : List ℕ) → list_any (λ letter. letter == 0) word ≡ false → has_room_for tables.exceptions (path_in language (word_marks word)) ≡ true
    → exception_refusal tables language word ≡ None
room tables language word a b = room_by tables language word (exception_of tables.exceptions (path_in language (word_marks word))) a refl b

pub few_by : (exceptions : List Exception) (path : List Mark) → exception_of exceptions path ≡ None → has_room_for exceptions path ≡ true → length exceptions < 10000
few_by exceptions path e b = ltb-true (length exceptions) 10000 (rw e at b)
