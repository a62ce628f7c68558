-- A pass over a paragraph: what it goes by, its breaks, and the widths of its lines.
use Rattle.std.specs.Prelude.{◌≡◌, ℕ, ◌-◌, Bool, if◌then◌else◌, ℤ, List, ◌∷◌, length, slice_index}
use Rattle.etx_sealed.specs.Breaks.{legal_breaks}
use Rattle.etx_sealed.specs.Stops.{StopState, stops}
use Rattle.etx_sealed.specs.Paragraphs.{Paragraph, is_zero}
use Rattle.etx_sealed.specs.Shapes.{line_shape, special_lines}

-- what a pass goes by: the greatest badness, the stretch that each line has besides its own, whether it is the last one, and
-- the last line that is told apart from all later ones
pub record PassState : Type 0 where
  pub paragraph : Paragraph
  pub threshold : ℤ
  pub stretch : ℤ
  pub is_final : Bool
  pub easy : ℕ

-- more lines than any row has: where a number of lines is wanted they are told apart without bound
unfoldable pub most_lines : ℕ
most_lines = 18_446_744_073_709_551_615

-- Lines are counted from 1 in each part of a paragraph. Behind the last one with a shape of its own they are not told apart,
-- unless a number of lines is wanted.
unfoldable pub easy_of : Paragraph → ℕ
easy_of p =
    if is_zero p.params.breaks.looseness
    then special_lines p.params.shape - p.params.prevgraf
    else most_lines

unfoldable pub pass_over : Paragraph → ℤ → ℤ → Bool → PassState
pass_over p threshold stretch is_final = record {
  paragraph = p;
  threshold = threshold;
  stretch = stretch;
  is_final = is_final;
  easy = easy_of p;
}

-- how many legal breaks there are, of which the last one is the end
unfoldable pub break_count : PassState → ℕ
break_count p = length (legal_breaks p.paragraph)

-- the place of a break by its number, from 1 on; the start has the number 0
unfoldable pub break_at : PassState → ℕ → ℕ
break_at p j = slice_index (0 ∷ legal_breaks p.paragraph) j

unfoldable pub width_of : PassState → ℕ → ℤ
width_of p line = (line_shape p.paragraph line).width

-- the stops of a paragraph: its start and its legal breaks
abbrev pub AreStops : Paragraph → List StopState → Type 0
AreStops p found = found ≡ stops p
