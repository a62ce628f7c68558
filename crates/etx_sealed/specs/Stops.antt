-- Sums at the breaks of a paragraph, by which each line is measured: what ends a line at a break without what comes before
-- the items that the line keeps is what stands in it.
use Rattle.std.specs.Prelude.{ℕ, ◌-◌, Bool, ℤ, List, ◌∷◌, map, take}
use Rattle.etx_sealed.specs.declared.measure.Measure.{Measure}
use Rattle.etx_sealed.specs.Breaks.{item_at, legal_breaks, penalty_at, is_hyphenated}
use Rattle.etx_sealed.specs.Lines.{before_in, after_in, left_out, sides}
use Rattle.etx_sealed.specs.Paragraphs.{Paragraph}
use Rattle.etx_sealed.specs.Sums.{plus, less, measure_all}

-- a place where a line may end or begin
pub record StopState : Type 0 where
  pub place : ℕ
  pub penalty : ℤ
  pub hyphenated : Bool
  pub left_out : ℕ
  pub end : Measure
  pub start : Measure

-- what stands before a break, with the glue on the sides of a line and with what is shown where a line ends there
unfoldable pub end_at : Paragraph → ℕ → Measure
end_at p j = plus (sides p) (plus (measure_all (take (j - 1) p.list)) (measure_all (before_in (item_at p.list j))))

-- what stands before the items that a line keeps which begins at a place, without what it shows first
unfoldable pub start_at : Paragraph → ℕ → Measure
start_at p i = less (measure_all (take (left_out p.list i) p.list)) (measure_all (after_in (item_at p.list i)))

unfoldable pub stop_at : Paragraph → ℕ → StopState
stop_at p j = record {
  place = j;
  penalty = penalty_at p j;
  hyphenated = is_hyphenated p j;
  left_out = left_out p.list j;
  end = end_at p j;
  start = start_at p j;
}

-- the start of the paragraph, and then each legal break
unfoldable pub stops : Paragraph → List StopState
stops p = map (stop_at p) (0 ∷ legal_breaks p)
