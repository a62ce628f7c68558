-- Patterns by their steps: what they match, and the digits between.
use Rattle.std.specs.Prelude.{ℕ, ◌+◌, ◌%◌, Bool, true, false, ◌&&◌, ◌||◌, List, [], ◌∷◌, ◌++◌, map, max, if◌then◌else◌, ◌==◌, nat_lt}
use Rattle.etx_patterns.specs.declared.step.Step.{Step}
use Rattle.etx_patterns.specs.declared.step.Step.TheVariants.{Letter, Digit, Edge}
use Rattle.etx_patterns.specs.declared.step.Mark.{Mark}
use Rattle.etx_patterns.specs.declared.step.Mark.TheVariants.{Language, Character, Boundary}

-- What a pattern matches: its letters and edges, in order.
abbrev pub shape : List Step → List Mark
shape [] = []
shape (Letter code ∷ steps) = Character code ∷ shape steps
shape (Edge ∷ steps) = Boundary ∷ shape steps
shape (Digit digit ∷ steps) = shape steps

-- Some digit is above 0.
abbrev pub has_digit : List Step → Bool
has_digit [] = false
has_digit (Letter code ∷ steps) = has_digit steps
has_digit (Edge ∷ steps) = has_digit steps
has_digit (Digit digit ∷ steps) = nat_lt 0 digit || has_digit steps

-- Some letter is 0.
abbrev pub has_zero_letter : List Step → Bool
has_zero_letter [] = false
has_zero_letter (Letter code ∷ steps) = code == 0 || has_zero_letter steps
has_zero_letter (Edge ∷ steps) = has_zero_letter steps
has_zero_letter (Digit digit ∷ steps) = has_zero_letter steps

-- How many letters there are.
abbrev pub letter_count : List Step → ℕ
letter_count [] = 0
letter_count (Letter code ∷ steps) = letter_count steps + 1
letter_count (Edge ∷ steps) = letter_count steps
letter_count (Digit digit ∷ steps) = letter_count steps

-- The greatest digit of these steps at a place, where they begin at the place `here`; 0 where there is none.
-- A place is passed by each letter and edge.
abbrev pub digit_from : List Step → ℕ → ℕ → ℕ
digit_from [] here place = 0
digit_from (Letter code ∷ steps) here place = digit_from steps (here + 1) place
digit_from (Edge ∷ steps) here place = digit_from steps (here + 1) place
digit_from (Digit digit ∷ steps) here place = max (if here == place then digit else 0) (digit_from steps here place)

abbrev pub same_mark : Mark → Mark → Bool
same_mark (Language a) (Language b) = a == b
same_mark (Language a) (Character b) = false
same_mark (Language a) Boundary = false
same_mark (Character a) (Language b) = false
same_mark (Character a) (Character b) = a == b
same_mark (Character a) Boundary = false
same_mark Boundary (Language b) = false
same_mark Boundary (Character b) = false
same_mark Boundary Boundary = true

abbrev pub same_marks : List Mark → List Mark → Bool
same_marks [] [] = true
same_marks [] (y ∷ ys) = false
same_marks (x ∷ xs) [] = false
same_marks (x ∷ xs) (y ∷ ys) = same_mark x y && same_marks xs ys

abbrev pub word_marks : List ℕ → List Mark
word_marks word = map Character word

-- A word with its two edges.
abbrev pub framed : List ℕ → List Mark
framed word = Boundary ∷ (word_marks word ++ Boundary ∷ [])

-- The path of a pattern or of an exception: its language, and what it matches.
abbrev pub path_in : ℕ → List Mark → List Mark
path_in language marks = Language language ∷ marks

abbrev pub is_odd : ℕ → Bool
is_odd digit = digit % 2 == 1
