-- What holds of words with hyphens.
use Rattle.std.specs.Prelude.{◌≡◌, Bool, true, false, List, [], ◌∷◌, ◌++◌, drop, take, Some, None}
use Rattle.etx_matter.specs.declared.node.Node.{Node}
use Rattle.etx_sealed.specs.declared.params.ParParams.{ParParams}
use Rattle.etx_sealed.specs.Breaks.{is_hyphen}
use Rattle.etx_tfm.specs.declared.reading.Reading.{Reading}
use Rattle.etx_hyphen.specs.declared.walk.Walk.{Walk}
use Rattle.etx_hyphen.specs.Cuts.{IsReading}
use Rattle.etx_hyphen.specs.Words.{FoundWord, word_at, walk_behind}
use Rattle.etx_hyphen.specs.Hyphenations.{behind_word, Hyphenates}

abbrev pub unless : Bool → Node → List Node
unless true node = []
unless false node = node ∷ []

-- a list without its discretionaries
unfoldable pub without_discs : List Node → List Node
without_discs [] = []
without_discs (node ∷ nodes) = unless (is_hyphen node) node ++ without_discs nodes

-- the items of a word are what its font makes of its letters between its neighbours
abbrev pub IsRead : FoundWord → List Node → Type 0
IsRead word nodes = (reading : Reading) → IsReading word.font word.letters word.ends.left word.ends.right reading → reading.nodes ≡ take word.count nodes

-- a list in which each word that is found stands as its font sets it
pub data AreRead (p : ParParams) : Walk → List Node → Type 0 where
  over : {walk : Walk} → AreRead p walk []
  stays :
      {walk : Walk} {node : Node} {nodes : List Node}
      → word_at p walk (node ∷ nodes) ≡ None → AreRead p (walk_behind p walk node) nodes → AreRead p walk (node ∷ nodes)
  found :
      {walk : Walk} {nodes : List Node} {word : FoundWord}
      → word_at p walk nodes ≡ Some word → IsRead word nodes → AreRead p (behind_word walk) (drop word.count nodes) → AreRead p walk nodes

-- hyphens change nothing in a line that isn't broken at one
abbrev pub StaysUnbroken : ParParams → Type 0
StaysUnbroken p =
    (walk : Walk) (list nodes : List Node) → AreRead p walk list → Hyphenates p walk list nodes → without_discs nodes ≡ without_discs list
