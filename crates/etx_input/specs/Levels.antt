-- What is read: a stack of files and lists of tokens, the innermost first ("TeX: The Program", sections 300 to 331, 357 and 362).
use Rattle.std.specs.Prelude.{ℕ, ℤ, List, [], ◌∷◌, Option, Some, None}
use Rattle.etx_lexer.specs.declared.lexed.Lexed.{Lexed}
use Rattle.etx_matter.specs.declared.token.Token.{Token}
use Rattle.etx_input.specs.Files.{FileState, got_of}
use Rattle.etx_input.specs.declared.origin.Origin.{Origin}
use Rattle.etx_input.specs.declared.level.Level.{Level}
use Rattle.etx_input.specs.declared.level.Level.TheVariants as level
use Rattle.etx_input.specs.declared.levels.Next.{Next}
use Rattle.etx_input.specs.declared.levels.Next.TheVariants as gives

-- the levels, and the number of lines of the outermost file, once that is left
pub record InputState : Type 0 where
  pub levels : List Level
  pub left : ℕ

-- what the input gives, and the input behind it
pub record Given : Type 0 where
  pub next : Next
  pub input : InputState

abbrev pub reading : List Level → ℕ → InputState
reading levels left = record { levels = levels; left = left }

unfoldable pub no_input : InputState
no_input = reading [] 0

abbrev pub list_level : List Token → Origin → Level
list_level tokens origin = level.List (record { rest = tokens; origin = origin })

-- a list is read before all else; a list of no tokens is not read at all
abbrev pub list_before : List Token → Origin → InputState → InputState
list_before [] origin input = input
list_before (t ∷ ts) origin input = record input { levels = list_level (t ∷ ts) origin ∷ input.levels }

unfoldable pub with_list : Origin → List Token → InputState → InputState
with_list origin tokens input = list_before tokens origin input

-- a file is read before all else
unfoldable pub with_file : FileState → InputState → InputState
with_file file input = record input { levels = level.File file ∷ input.levels }

-- A list gives its first token, and is left with its last. An empty list gives nothing; more: what is given below it.
abbrev pub list_given : List Token → Origin → List Level → ℕ → Given → Given
list_given [] origin levels left more = more
list_given (t ∷ []) origin levels left more = record { next = gives.Listed t origin; input = reading levels left }
list_given (t ∷ u ∷ ts) origin levels left more = record { next = gives.Listed t origin; input = reading (list_level (u ∷ ts) origin ∷ levels) left }

-- a file that is over is left, which is said
abbrev pub file_given : Option Lexed → FileState → List Level → ℕ → Given
file_given None file levels left = record { next = gives.FileEnd; input = reading levels file.number }
file_given (Some lexed) file levels left = record { next = gives.Lexed lexed; input = reading (level.File file ∷ levels) left }

abbrev pub given_in : (ℕ → ℕ) → ℤ → List Level → ℕ → Given
given_in cats endline [] left = record { next = gives.Over; input = reading [] left }
given_in cats endline (level.List l ∷ ls) left = list_given l.rest l.origin ls left (given_in cats endline ls left)
given_in cats endline (level.File f ∷ ls) left = file_given (got_of cats endline f).lexed (got_of cats endline f).file ls left

-- what the input gives under these categories, where \endlinechar has this value
unfoldable pub given_of : (ℕ → ℕ) → ℤ → InputState → Given
given_of cats endline input = given_in cats endline input.levels input.left

-- the number of the line that was read last: of the innermost file, or of the outermost one once it is left
abbrev pub line_in : List Level → ℕ → ℕ
line_in [] left = left
line_in (level.List l ∷ ls) left = line_in ls left
line_in (level.File f ∷ ls) left = f.number

unfoldable pub line_number : InputState → ℕ
line_number input = line_in input.levels input.left
