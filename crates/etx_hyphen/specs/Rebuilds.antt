-- The word with its discretionaries.
use Rattle.std.specs.Prelude.{ℕ, ◌-◌, Bool, ◌&&◌, nat_le, if◌then◌else◌, List, [], ◌∷◌, ◌++◌, length, take, drop, ◌≡◌}
use Rattle.etx_matter.specs.declared.node.Node.{Node, Node-F, roll-Node}
use Rattle.etx_matter.specs.Fonts.{FontState}
use Rattle.etx_pack.specs.Packs.{inner}
use Rattle.etx_tfm.specs.declared.piece.Neighbour.TheVariants.{Nothing}
use Rattle.etx_tfm.specs.declared.reading.Reading.{Reading}
use Rattle.etx_hyphen.specs.declared.cuts.Cut.{Cut}
use Rattle.etx_hyphen.specs.declared.cuts.Unbroken.{Unbroken}
use Rattle.etx_hyphen.specs.declared.cuts.WordEnds.{WordEnds}
use Rattle.etx_hyphen.specs.Cuts.{IsReading, IsCut}

-- what a hyphen does at each of these places
pub data AreCuts (font : FontState) (hyphen : ℕ) (ends : WordEnds) (letters : List ℕ) (word : Unbroken) : List ℕ → List Cut → Type 0 where
  none : AreCuts font hyphen ends letters word [] []
  more :
      {place : ℕ} {places : List ℕ} {cut : Cut} {cuts : List Cut}
      → IsCut font hyphen ends letters word place cut → AreCuts font hyphen ends letters word places cuts
      → AreCuts font hyphen ends letters word (place ∷ places) (cut ∷ cuts)

-- how many nodes of the unbroken word the run has
abbrev pub replaced_by : Cut → ℕ
replaced_by cut = cut.end.unbroken - cut.start.unbroken

-- A run that begins before the last one that was kept ends is dropped. So is one of more nodes than a discretionary counts.
unfoldable pub is_kept : ℕ → Cut → Bool
is_kept end cut = nat_le end cut.start.letters && nat_le (replaced_by cut) 65_535

-- the runs that are kept, where the last one before them ends behind so many letters
unfoldable pub kept_from : ℕ → List Cut → List Cut
kept_from end [] = []
kept_from end (cut ∷ cuts) = if is_kept end cut then cut ∷ kept_from cut.end.letters cuts else kept_from end cuts

-- the discretionary takes the place of the run
unfoldable pub disc_of : Cut → Node
disc_of cut = roll-Node (Node-F.Disc (record { pre = inner cut.pre; post = inner cut.post; replaces = replaced_by cut }))

-- each discretionary stands before the first node of its run; before these nodes stand so many of the unbroken word
unfoldable pub with_discs : ℕ → List Cut → List Node → List Node
with_discs at [] nodes = nodes
with_discs at (cut ∷ cuts) nodes =
    take (cut.start.unbroken - at) nodes ++ disc_of cut ∷ with_discs cut.start.unbroken cuts (drop (cut.start.unbroken - at) nodes)

abbrev pub unbroken_of : List ℕ → Reading → Unbroken
unbroken_of letters reading = record { letters = length letters; nodes = length reading.nodes; places = reading.places }

-- a word between its neighbours, with a discretionary at each place whose run doesn't overlap the run of an earlier one
pub record IsRebuilt (font : FontState) (hyphen : ℕ) (ends : WordEnds) (letters places : List ℕ) (nodes : List Node) : Type 0 where
  pub unbroken : Reading
  pub cuts : List Cut
  pub reads : IsReading font letters ends.left ends.right unbroken
  pub cut : AreCuts font hyphen ends letters (unbroken_of letters unbroken) places cuts
  pub is : nodes ≡ with_discs 0 (kept_from 0 cuts) unbroken.nodes

abbrev pub no_ends : WordEnds
no_ends = record { left = Nothing; right = Nothing }
