-- A line's text, and the places in it.
use Rattle.std.specs.Prelude.{ℕ, ℤ, pos, negsuc, List, [], ◌∷◌, ◌++◌, drop, Option, Some, None, ◌==◌, nat_lt, if◌then◌else◌}
use Rattle.etx_lexer.specs.declared.place.LinePlace.{LinePlace}

-- a character that stands before a text, if there is one
abbrev pub behind_head : Option ℕ → List ℕ → List ℕ
behind_head None text = text
behind_head (Some c) text = c ∷ text

-- the rest of a line at a place: its head, if there is one, and the line from `at` on
abbrev pub rest_of : List ℕ → LinePlace → List ℕ
rest_of line place = behind_head place.head (drop place.at line)

-- a byte before what is left of a text: a space is dropped where nothing is left behind it
abbrev pub before_trimmed : ℕ → List ℕ → List ℕ
before_trimmed b [] = if b == 32 then [] else b ∷ []
before_trimmed b (c ∷ rest) = b ∷ c ∷ rest

-- a text without the spaces at its end
unfoldable pub trimmed : List ℕ → List ℕ
trimmed [] = []
trimmed (b ∷ rest) = before_trimmed b (trimmed rest)

-- the character that ends each line, if the parameter is the code of one
unfoldable pub end_of_line : ℤ → List ℕ
end_of_line (pos n) = if nat_lt n 256 then n ∷ [] else []
end_of_line (negsuc n) = []

-- the text that is lexed of a line that was read
abbrev pub line_of : List ℕ → ℤ → List ℕ
line_of bytes endline = trimmed bytes ++ end_of_line endline
