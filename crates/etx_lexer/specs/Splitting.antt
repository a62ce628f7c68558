-- The lines of a text.
use Rattle.std.specs.Prelude.{◌≡◌, ℕ, ◌+◌, Bool, false, List, [], ◌∷◌, ◌++◌, ◌==◌, take, drop, position, Option, Some, None, if◌then◌else◌}
use Rattle.std.specs.List.{list_any}

-- a line, and the text behind it
pub record Split : Type 0 where
  pub line : List ℕ
  pub rest : List ℕ

-- a text without a byte 13 at its end: one of them alone is dropped
unfoldable pub without_return : List ℕ → List ℕ
without_return [] = []
without_return (b ∷ []) = if b == 13 then [] else b ∷ []
without_return (b ∷ c ∷ rest) = b ∷ without_return (c ∷ rest)

-- the line that ends at the byte 10 at this place, or that ends with the text
abbrev pub split_at : List ℕ → Option ℕ → Split
split_at text (Some k) = record { line = without_return (take k text); rest = drop (k + 1) text }
split_at text None = record { line = text; rest = [] }

-- The first line of a text: up to its first byte 10, without that byte and without one byte 13 directly before it. A text
-- that has no byte 10 is its own last line. The empty text has no line.
unfoldable pub first_line : List ℕ → Option Split
first_line [] = None
first_line (b ∷ rest) = Some (split_at (b ∷ rest) (position (λ x. x == 10) (b ∷ rest)))

-- whether a line's last byte is 13
unfoldable pub ends_in_return : List ℕ → Bool
ends_in_return [] = false
ends_in_return (b ∷ []) = b == 13
ends_in_return (b ∷ c ∷ rest) = ends_in_return (c ∷ rest)

-- whether a line has a byte 10
abbrev pub has_new_line : List ℕ → Bool
has_new_line line = list_any (λ b. b == 10) line

-- A text is its first line, the end of that line, and the rest. No line has a byte 10; and its end is as long as it can be.
pub data IsFirstLine : List ℕ → List ℕ → List ℕ → Type 0 where
  -- the end is byte 10
  new_line : {line rest : List ℕ} → has_new_line line ≡ false → ends_in_return line ≡ false → IsFirstLine line rest (line ++ 10 ∷ rest)
  -- the end is bytes 13 and 10
  return_and_new_line : {line rest : List ℕ} → has_new_line line ≡ false → IsFirstLine line rest (line ++ 13 ∷ 10 ∷ rest)
  -- the text is over, and the line isn't empty
  text_over : {b : ℕ} {line : List ℕ} → has_new_line (b ∷ line) ≡ false → IsFirstLine (b ∷ line) [] (b ∷ line)
