-- A paragraph's list with hyphens.
use Rattle.std.specs.Prelude.{false, List, [], ◌∷◌, ◌++◌, drop, Option, Some, None, ◌≡◌, ◌<◌}
use Rattle.etx_matter.specs.declared.node.Node.{Node}
use Rattle.etx_matter.specs.Nests.{AreNested}
use Rattle.etx_sealed.specs.declared.params.ParParams.{ParParams}
use Rattle.etx_hyphen.specs.declared.walk.Before.TheVariants as before
use Rattle.etx_hyphen.specs.declared.walk.Walk.{Walk}
use Rattle.etx_hyphen.specs.declared.words.Rewritten.{Rewritten}
use Rattle.etx_hyphen.specs.Rebuilds.{IsRebuilt}
use Rattle.etx_hyphen.specs.Words.{FoundWord, word_at, walk_behind}

-- the first word of a paragraph that doesn't begin with glue has none
abbrev pub walk_start : ParParams → Walk
walk_start p =
    record { looking = false; formula = false; before = before.Nothing; language = p.language; left = p.left; right = p.right }

abbrev pub behind_word : Walk → Walk
behind_word walk = record walk { looking = false }

abbrev pub IsRebuiltWord : FoundWord → List Node → Type 0
IsRebuiltWord word nodes = IsRebuilt word.font word.hyphen word.ends word.letters word.places nodes

-- the list from an item on: each item stays as it is, but words with places for hyphens are rebuilt
pub data Hyphenates (p : ParParams) : Walk → List Node → List Node → Type 0 where
  over : {walk : Walk} → Hyphenates p walk [] []
  stays :
      {walk : Walk} {node : Node} {nodes rest : List Node}
      → word_at p walk (node ∷ nodes) ≡ None → Hyphenates p (walk_behind p walk node) nodes rest → Hyphenates p walk (node ∷ nodes) (node ∷ rest)
  rebuilt :
      {walk : Walk} {nodes word_nodes rest : List Node} {word : FoundWord}
      → word_at p walk nodes ≡ Some word → IsRebuiltWord word word_nodes
      → Hyphenates p (behind_word walk) (drop word.count nodes) rest → Hyphenates p walk nodes (word_nodes ++ rest)

-- a word, where one is found, is rebuilt
abbrev pub IsRewritten : Option FoundWord → Option Rewritten → Type 0
IsRewritten None None = Unit {0}
IsRewritten None (Some it) = ⊥
IsRewritten (Some word) None = ⊥
IsRewritten (Some word) (Some it) = (it.count ≡ word.count) × IsRebuiltWord word it.nodes

-- a word that is found has an item at least, and the lists in its nodes carry their right nestings
abbrev pub IsSoundWord : Option Rewritten → Type 0
IsSoundWord None = Unit {0}
IsSoundWord (Some it) = (0 < it.count) × AreNested it.nodes

-- what the list from one item on comes to, the list from an earlier one comes to behind what is written
abbrev pub HyphenatesOn : ParParams → Walk → List Node → Walk → List Node → List Node → Type 0
HyphenatesOn p walk nodes walk' written nodes' = (rest : List Node) → Hyphenates p walk' nodes' rest → Hyphenates p walk nodes (written ++ rest)
