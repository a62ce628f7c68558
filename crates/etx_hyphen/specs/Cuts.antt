-- What a hyphen at a place of a word does.
use Rattle.std.specs.Prelude.{ℕ, if◌then◌else◌, List, [], ◌∷◌, ◌++◌, length, take, drop, ◌≡◌}
use Rattle.etx_matter.specs.declared.node.Node.{Node}
use Rattle.etx_matter.specs.Fonts.{FontState, exists}
use Rattle.etx_tfm.specs.declared.reading.Reading.{Reading}
use Rattle.etx_tfm.specs.declared.piece.Neighbour.{Neighbour}
use Rattle.etx_tfm.specs.declared.piece.Neighbour.TheVariants.{Boundary}
use Rattle.etx_tfm.specs.Machine.{no_edges, between}
use Rattle.etx_tfm.specs.Cleans.{Reads}
use Rattle.etx_hyphen.specs.declared.bounds.Bound.{Bound}
use Rattle.etx_hyphen.specs.declared.cuts.Cut.{Cut}
use Rattle.etx_hyphen.specs.declared.cuts.Unbroken.{Unbroken}
use Rattle.etx_hyphen.specs.declared.cuts.WordEnds.{WordEnds}
use Rattle.etx_hyphen.specs.Bounds.{start_from, end_from}

-- the nodes of a run of characters between its neighbours, with the places at which it can be cut
abbrev pub IsReading : FontState → List ℕ → Neighbour → Neighbour → Reading → Type 0
IsReading font chars left right reading =
    Reads font (length chars) 0 [] no_edges (between chars left right) [] reading.nodes reading.places

-- a hyphen that the font doesn't have is left out
unfoldable pub hyphen_in : FontState → ℕ → List ℕ
hyphen_in font hyphen = if exists font.info hyphen then hyphen ∷ [] else []

abbrev pub first_bound : Bound
first_bound = record { letters = 0; unbroken = 0; part = 0 }

abbrev pub last_bound : Unbroken → ℕ → Bound
last_bound word nodes = record { letters = word.letters; unbroken = word.nodes; part = nodes }

-- The run that a hyphen behind the letter `place` changes, and the texts of its discretionary: the run as it stands in
-- the left part, and as it stands in the right part.
unfoldable pub cut_between : Bound → Bound → List Node → List Node → Cut
cut_between start end left right = record { start = start; end = end; pre = drop start.part left; post = take end.part right }

unfoldable pub cut_of : Unbroken → ℕ → Reading → Reading → Cut
cut_of word place left right =
    cut_between (start_from left.places place first_bound word.places)
    (end_from right.places place (last_bound word (length right.nodes)) word.places) left.nodes right.nodes

-- The word is read in two parts. The left one ends with the hyphen at the end of a word, the right one begins at the
-- beginning of one; their outer ends are those of the word.
pub record IsCut (font : FontState) (hyphen : ℕ) (ends : WordEnds) (letters : List ℕ) (word : Unbroken) (place : ℕ) (cut : Cut) : Type 0 where
  pub left : Reading
  pub right : Reading
  pub reads_left : IsReading font (take place letters ++ hyphen_in font hyphen) ends.left Boundary left
  pub reads_right : IsReading font (drop place letters) Boundary ends.right right
  pub is : cut ≡ cut_of word place left right
