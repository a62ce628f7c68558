-- What the input gives, by what its innermost level gives.
use Rattle.std.proofs.Common.{◌≡◌, ℕ, ℤ, List, [], ◌∷◌, Option, Some, None, refl, ap, ◌∙◌}
use Rattle.etx_lexer.specs.declared.lexed.Lexed.{Lexed}
use Rattle.etx_matter.specs.declared.token.Token.{Token}
use Rattle.etx_input.specs.Files.{FileState, got_of}
use Rattle.etx_input.specs.declared.gift.Gift.{Gift}
use Rattle.etx_input.specs.declared.gift.Gift.TheVariants.{Stay, Leave, Empty}
use Rattle.etx_input.specs.declared.level.Level.{Level}
use Rattle.etx_input.specs.declared.level.Level.TheVariants as level
use Rattle.etx_input.specs.declared.origin.Origin.{Origin}
use Rattle.etx_input.specs.Levels.{InputState, Given, reading, list_given, file_given, given_in, given_of, list_level}
use Rattle.etx_input.specs.Gifts.{list_gift, tokens_behind, file_gift, gift_in, behind_gift, innermost_left}

-- what the input gives where its innermost level gives this, the levels are then so, and more would come behind it
abbrev pub given_by : Gift → List Level → ℕ → Given → Given
given_by (Stay next) ls left more = record { next = next; input = reading ls left }
given_by (Leave next) ls left more = record { next = next; input = innermost_left ls left }
given_by Empty ls left more = more

list_by : (tokens : List Token) (origin : Origin) (ls : List Level) (left : ℕ) (more : Given) → list_given tokens origin ls left more ≡ given_by (list_gift tokens origin) (list_level (tokens_behind tokens) origin ∷ ls) left more
list_by [] origin ls left more = refl
list_by (t ∷ []) origin ls left more = refl
list_by (t ∷ u ∷ ts) origin ls left more = refl

file_by : (lexed : Option Lexed) (file : FileState) (ls : List Level) (left : ℕ) (more : Given) → file_given lexed file ls left ≡ given_by (file_gift lexed) (level.File file ∷ ls) left more
file_by None file ls left more = refl
file_by (Some lexed) file ls left more = refl

module _ (cats : ℕ → ℕ) (endline : ℤ) where
  -- what is given once the innermost level is left
  abbrev given_behind : List Level → ℕ → Given
  given_behind ls left = given_of cats endline (innermost_left (behind_gift cats endline ls) left)

  by_levels : (ls : List Level) (left : ℕ) → given_in cats endline ls left ≡ given_by (gift_in cats endline ls) (behind_gift cats endline ls) left (given_behind ls left)
  unfolding given_of
  by_levels [] left = refl
  by_levels (level.List l ∷ ls) left = list_by l.rest l.origin ls left (given_in cats endline ls left)
  by_levels (level.File f ∷ ls) left = file_by (got_of cats endline f).lexed (got_of cats endline f).file ls left _

  pub given-gift : (v : InputState) (gift : Gift) → gift_in cats endline v.levels ≡ gift → given_of cats endline v ≡ given_by gift (behind_gift cats endline v.levels) v.left (given_behind v.levels v.left)
  unfolding given_of
  given-gift v gift is = by_levels v.levels v.left ∙ ap (λ (g : Gift). given_by g (behind_gift cats endline v.levels) v.left (given_behind v.levels v.left)) is
