-- What the innermost level gives, and what is then left of it.
use Rattle.std.specs.Prelude.{◌≡◌, ℕ, ℤ, List, [], ◌∷◌, Option, Some, None}
use Rattle.etx_lexer.specs.declared.lexed.Lexed.{Lexed}
use Rattle.etx_matter.specs.declared.token.Token.{Token}
use Rattle.etx_input.specs.Files.{got_of}
use Rattle.etx_input.specs.declared.gift.Gift.{Gift}
use Rattle.etx_input.specs.declared.gift.Gift.TheVariants.{Stay, Leave, Empty}
use Rattle.etx_input.specs.declared.level.Level.{Level}
use Rattle.etx_input.specs.declared.level.Level.TheVariants as level
use Rattle.etx_input.specs.declared.levels.Next.TheVariants as gives
use Rattle.etx_input.specs.declared.origin.Origin.{Origin}
use Rattle.etx_input.specs.Lists.{ListState}
use Rattle.etx_input.specs.Levels.{InputState, reading}

-- a list gives its first token, and is left with its last
abbrev pub list_gift : List Token → Origin → Gift
list_gift [] origin = Empty
list_gift (t ∷ []) origin = Leave (gives.Listed t origin)
list_gift (t ∷ u ∷ ts) origin = Stay (gives.Listed t origin)

abbrev pub tokens_behind : List Token → List Token
tokens_behind [] = []
tokens_behind (t ∷ ts) = ts

abbrev pub list_behind : ListState → ListState
list_behind list = record { rest = tokens_behind list.rest; origin = list.origin }

-- a file is left once it is over
abbrev pub file_gift : Option Lexed → Gift
file_gift None = Leave gives.FileEnd
file_gift (Some lexed) = Stay (gives.Lexed lexed)

abbrev pub level_gift : (ℕ → ℕ) → ℤ → Level → Gift
level_gift cats endline (level.List l) = list_gift l.rest l.origin
level_gift cats endline (level.File f) = file_gift (got_of cats endline f).lexed

abbrev pub level_behind : (ℕ → ℕ) → ℤ → Level → Level
level_behind cats endline (level.List l) = level.List (list_behind l)
level_behind cats endline (level.File f) = level.File (got_of cats endline f).file

-- the innermost level's, or that nothing is left
abbrev pub gift_in : (ℕ → ℕ) → ℤ → List Level → Gift
gift_in cats endline [] = Stay gives.Over
gift_in cats endline (l ∷ ls) = level_gift cats endline l

abbrev pub behind_gift : (ℕ → ℕ) → ℤ → List Level → List Level
behind_gift cats endline [] = []
behind_gift cats endline (l ∷ ls) = level_behind cats endline l ∷ ls

-- What a level gives whatever the categories and \endlinechar are, and what is left of it. Where it gives nothing so, it is as it was.
abbrev pub IsListedBy : Gift → Level → Level → Type 0
IsListedBy Empty old new = new ≡ old
IsListedBy gift old new = (cats : ℕ → ℕ) → (endline : ℤ) → (level_gift cats endline old ≡ gift) × (new ≡ level_behind cats endline old)

-- What the innermost level gives whatever the categories and \endlinechar are, and the input while that level isn't left. Where
-- nothing is given so, nothing is changed.
abbrev pub IsListed : Gift → InputState → InputState → Type 0
IsListed Empty old new = new ≡ old
IsListed gift old new = (cats : ℕ → ℕ) → (endline : ℤ) → (gift_in cats endline old.levels ≡ gift) × (new ≡ reading (behind_gift cats endline old.levels) old.left)

-- the innermost level is left; a file's number of lines is kept
abbrev pub number_left : Level → ℕ → ℕ
number_left (level.List l) left = left
number_left (level.File f) left = f.number

abbrev pub left_next : List Level → ℕ → ℕ
left_next [] left = left
left_next (l ∷ ls) left = number_left l left

abbrev pub innermost_left : List Level → ℕ → InputState
innermost_left [] left = reading [] left
innermost_left (l ∷ ls) left = reading ls (number_left l left)
