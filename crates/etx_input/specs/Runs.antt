-- Many tokens of the innermost level at once.
use Rattle.std.specs.Prelude.{Bool, true, false, ℕ, List, [], ◌∷◌, drop}
use Rattle.etx_matter.specs.declared.token.Token.{Token}
use Rattle.etx_input.specs.declared.level.Level.{Level}
use Rattle.etx_input.specs.declared.level.Level.TheVariants as level
use Rattle.etx_input.specs.declared.origin.Origin.{Origin}
use Rattle.etx_input.specs.Lists.{is_empty, fresh_of}
use Rattle.etx_input.specs.Levels.{InputState, reading, list_level}

-- the tokens to come of a level, where it is a list of tokens that count as steps
abbrev pub fresh_at : Level → List Token
fresh_at (level.File f) = []
fresh_at (level.List l) = fresh_of l.origin l.rest

-- the same of the innermost level
abbrev pub fresh_in : List Level → List Token
fresh_in [] = []
fresh_in (l ∷ ls) = fresh_at l

-- a list whose first so many tokens were taken
abbrev pub level_skipped : ℕ → Level → Level
level_skipped count (level.File f) = level.File f
level_skipped count (level.List l) = list_level (drop count l.rest) l.origin

abbrev pub level_is_over : Level → Bool
level_is_over (level.File f) = false
level_is_over (level.List l) = is_empty l.rest

-- a list of which nothing is left is left
abbrev pub list_unless_over : List Token → Origin → List Level → List Level
list_unless_over [] origin ls = ls
list_unless_over (t ∷ ts) origin ls = list_level (t ∷ ts) origin ∷ ls

abbrev pub unless_over : Level → List Level → List Level
unless_over (level.File f) ls = level.File f ∷ ls
unless_over (level.List l) ls = list_unless_over l.rest l.origin ls

abbrev pub levels_skipped : ℕ → List Level → List Level
levels_skipped count [] = []
levels_skipped count (l ∷ ls) = unless_over (level_skipped count l) ls

-- the input once so many tokens of the innermost level were taken
unfoldable pub skipped : ℕ → InputState → InputState
skipped count input = reading (levels_skipped count input.levels) input.left
