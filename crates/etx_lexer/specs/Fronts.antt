-- Fronts: two equal characters of category 7 stand, with what follows them, for one character.
use Rattle.std.specs.Prelude.{ℕ, ◌+◌, ◌-◌, ◌*◌, Bool, ◌&&◌, ◌||◌, List, [], ◌∷◌, Option, Some, None, ◌==◌, nat_lt, nat_le, if◌then◌else◌}

-- a digit of 0123456789abcdef; capitals are none
unfoldable pub is_hex : ℕ → Bool
is_hex c = (nat_le 48 c && nat_le c 57) || (nat_le 97 c && nat_le c 102)

-- the value of such a digit
unfoldable pub hex_value : ℕ → ℕ
hex_value c = if nat_lt c 58 then c - 48 else c - 87

-- the code that two such digits stand for
unfoldable pub hex_code : ℕ → ℕ → ℕ
hex_code e f = 16 * hex_value e + hex_value f

-- the character 64 before or behind: before where there is one
unfoldable pub shifted : ℕ → ℕ
shifted e = if nat_lt e 64 then e + 64 else e - 64

-- c, d and e begin a front
unfoldable pub is_front : (ℕ → ℕ) → ℕ → ℕ → ℕ → Bool
is_front cats c d e = (cats c == 7) && (c == d) && nat_lt e 128

-- What the third character e of a front and the text behind it are replaced by: two digits stand for a code, which is
-- tried first; else e alone is shifted.
unfoldable pub replaced : ℕ → List ℕ → List ℕ
replaced e [] = shifted e ∷ []
replaced e (f ∷ rest) = if is_hex e && is_hex f then hex_code e f ∷ rest else shifted e ∷ f ∷ rest

-- The text with the front at its beginning replaced by what it stands for, or none where the text begins with no front.
unfoldable pub front_of : (ℕ → ℕ) → List ℕ → Option (List ℕ)
front_of cats [] = None
front_of cats (c ∷ []) = None
front_of cats (c ∷ d ∷ []) = None
front_of cats (c ∷ d ∷ e ∷ rest) = if is_front cats c d e then Some (replaced e rest) else None
