-- What is read now, and what was read at a mark.
use Rattle.std.specs.Prelude.{◌≡◌, reverse}
use Rattle.etx_stack.specs.Undoing as history
use Rattle.etx_input.specs.declared.levels.Levels.{Levels}
use Rattle.etx_input.specs.declared.mark.Mark.{Mark}
use Rattle.etx_input.specs.Levels.{InputState, reading}

-- THE MEANING: what is read, the innermost first
unfoldable pub input_of : Levels → InputState
input_of l = reading (reverse l.levels.items) l.left

-- what was read at the mark
unfoldable pub input_at : Levels → Mark → InputState
input_at l m = reading (reverse (history.at l.levels m.levels)) m.left

-- at the mark m the input is still what it was in first, and one can go back to it
unfoldable pub IsKept : Mark → Levels → Levels → Type 0
IsKept m first l = history.IsSince m.levels first.levels l.levels

-- at every mark that was taken before, the input is still what it was
abbrev pub Keeps : Levels → Levels → Type 0
Keeps old new = (m : Mark) (first : Levels) → IsKept m first old → IsKept m first new

-- m was taken before n
abbrev pub IsBefore : Mark → Mark → Type 0
IsBefore m n = history.IsBefore m.levels n.levels
