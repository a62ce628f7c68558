-- Words in numbers ("TeX: The Program", sections 407 and 453 to 458, 462): their letters are characters of any category but 13, large
-- or small.
use Rattle.std.specs.Prelude.{ℕ, ◌+◌, Bool, true, false, not, ◌==◌, ◌&&◌, ◌||◌, nat_le, nat_eq, List, [], ◌∷◌, ◌++◌, Option, Some, None, codes, if◌then◌else◌}
use Rattle.std.specs.Str.{bytes_eq}
use Rattle.std.specs.List.{starts_with}
use Rattle.etx_matter.specs.declared.token.Token.{Token}
use Rattle.etx_matter.specs.declared.token.Token.TheVariants.{Char, Name, Param}
use Rattle.etx_state.specs.declared.taker.NumberScan.{NumberScan}
use Rattle.etx_numbers.specs.declared.words.Word.{Word}
use Rattle.etx_numbers.specs.declared.words.Word.TheVariants as word
use Rattle.etx_numbers.specs.declared.words.WordSet.{WordSet}
use Rattle.etx_numbers.specs.declared.words.WordSet.TheVariants as words
use Rattle.etx_numbers.specs.declared.words.Spelled.{Spelled}
use Rattle.etx_numbers.specs.declared.words.Spelled.TheVariants as spelled
use Rattle.etx_answers.specs.declared.read.Read.{Read}
use Rattle.etx_answers.specs.Reads.{letter}

unfoldable pub word_text : Word → List ℕ
word_text word.Em = codes "em"
word_text word.Ex = codes "ex"
word_text word.Pt = codes "pt"
word_text word.Pc = codes "pc"
word_text word.In = codes "in"
word_text word.Cm = codes "cm"
word_text word.Mm = codes "mm"
word_text word.Bp = codes "bp"
word_text word.Dd = codes "dd"
word_text word.Cc = codes "cc"
word_text word.Sp = codes "sp"
word_text word.Mu = codes "mu"
word_text word.True = codes "true"
word_text word.Fil = codes "fil"
word_text word.Plus = codes "plus"
word_text word.Minus = codes "minus"
word_text word.By = codes "by"

-- the units, by whether `true` stood before them, whether they are in mu, and whether they may be infinite
abbrev pub is_unit : Bool → Bool → Bool → Word → Bool
is_unit behind_true is_mu is_infinite word.Fil = is_infinite && not behind_true
is_unit behind_true is_mu is_infinite word.Mu = is_mu
is_unit behind_true is_mu is_infinite word.Em = not is_mu && not behind_true
is_unit behind_true is_mu is_infinite word.Ex = not is_mu && not behind_true
is_unit behind_true is_mu is_infinite word.True = not is_mu && not behind_true
is_unit behind_true is_mu is_infinite word.Pt = not is_mu
is_unit behind_true is_mu is_infinite word.Pc = not is_mu
is_unit behind_true is_mu is_infinite word.In = not is_mu
is_unit behind_true is_mu is_infinite word.Cm = not is_mu
is_unit behind_true is_mu is_infinite word.Mm = not is_mu
is_unit behind_true is_mu is_infinite word.Bp = not is_mu
is_unit behind_true is_mu is_infinite word.Dd = not is_mu
is_unit behind_true is_mu is_infinite word.Cc = not is_mu
is_unit behind_true is_mu is_infinite word.Sp = not is_mu
is_unit behind_true is_mu is_infinite word.Plus = false
is_unit behind_true is_mu is_infinite word.Minus = false
is_unit behind_true is_mu is_infinite word.By = false

abbrev pub is_plus : Word → Bool
is_plus word.Plus = true
is_plus _ = false

abbrev pub is_minus : Word → Bool
is_minus word.Minus = true
is_minus _ = false

abbrev pub is_by : Word → Bool
is_by word.By = true
is_by _ = false

unfoldable pub is_in : WordSet → Word → Bool
is_in (words.Units behind_true is_mu is_infinite) w = is_unit behind_true is_mu is_infinite w
is_in words.PlusMinus w = is_plus w || is_minus w
is_in words.Minus w = is_minus w
is_in words.By w = is_by w

unfoldable pub all_words : List Word
all_words =
    word.Em ∷ word.Ex ∷ word.Pt ∷ word.Pc ∷ word.In ∷ word.Cm ∷ word.Mm ∷ word.Bp ∷ word.Dd ∷ word.Cc ∷ word.Sp ∷ word.Mu ∷
    word.True ∷ word.Fil ∷ word.Plus ∷ word.Minus ∷ word.By ∷ []

-- the small letter that a token is
abbrev pub small : ℕ → ℕ
small code = if nat_le 65 code && nat_le code 90 then code + 32 else code

unfoldable pub letter_of : Token → Option ℕ
letter_of (Char code cat) = if cat == 13 then None else Some (small code)
letter_of (Name n) = None
letter_of (Param n) = None

abbrev pub with_letter : Option ℕ → Option (List ℕ) → Option (List ℕ)
with_letter None text = None
with_letter (Some c) None = None
with_letter (Some c) (Some cs) = Some (c ∷ cs)

unfoldable pub letters_of : List Token → Option (List ℕ)
letters_of [] = Some []
letters_of (t ∷ ts) = with_letter (letter_of t) (letters_of ts)

-- whether a text begins with these letters
abbrev pub is_front : List ℕ → List ℕ → Bool
is_front letters text = starts_with nat_eq text letters

-- The letters are a word of the place, or one begins with them, or none does. (No word of a place begins with another one.)
abbrev pub found_among : WordSet → List ℕ → Spelled → List Word → Spelled
found_among set letters so_far [] = so_far
found_among set letters so_far (w ∷ ws) =
    if not (is_in set w) then found_among set letters so_far ws
    else if bytes_eq (word_text w) letters then spelled.Whole w
    else found_among set letters (if is_front letters (word_text w) then spelled.Front else so_far) ws

unfoldable pub found_in : WordSet → List ℕ → Spelled
found_in set letters = found_among set letters spelled.Nothing all_words

abbrev pub found_by : WordSet → Option (List ℕ) → Spelled
found_by set None = spelled.Nothing
found_by set (Some letters) = found_in set letters

abbrev pub is_begun : Spelled → Bool
is_begun (spelled.Whole w) = false
is_begun spelled.Front = true
is_begun spelled.Nothing = false

-- a word of the place begins with the token
unfoldable pub begins_word : WordSet → Token → Bool
begins_word set t = is_begun (found_by set (letters_of (t ∷ [])))

abbrev pub letter_read : WordSet → NumberScan → Token → Read → Read
letter_read set s t other = if begins_word set t then letter s else other
