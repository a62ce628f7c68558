-- The words of a paragraph that can be hyphenated ("TeX: The Program", sections 894 to 899 and 1363).
use Rattle.std.specs.Prelude.{ℕ, ◌+◌, ◌==◌, nat_lt, nat_le, max, min, Bool, true, false, not, ◌&&◌, ◌||◌, if◌then◌else◌, ℤ, pos, negsuc, int_lt, List, [], ◌∷◌, ◌++◌, length, filter, map, drop, slice_get, Option, Some, None, unwrap_or, ◌≡◌, ◌≤◌, ◌<◌}
use Rattle.std.specs.List.{list_all}
use Rattle.std.specs.Option.{option_map_or, option_and_then}
use Rattle.etx_matter.specs.declared.node.Node.{Node, Node-F, out-Node}
use Rattle.etx_matter.specs.declared.node.KernKind.{KernKind}
use Rattle.etx_matter.specs.declared.node.KernKind.TheVariants.{Normal, Explicit, Accent}
use Rattle.etx_matter.specs.declared.whats.What.{What}
use Rattle.etx_matter.specs.declared.whats.What.TheVariants.{Language}
use Rattle.etx_matter.specs.Layers.{NodeLayer}
use Rattle.etx_matter.specs.Fonts.{FontState}
use Rattle.etx_patterns.specs.Tables.{places_of}
use Rattle.etx_tfm.specs.declared.piece.Neighbour.{Neighbour}
use Rattle.etx_tfm.specs.declared.piece.Neighbour.TheVariants as side
use Rattle.etx_tfm.specs.Machine.{boundary_if}
use Rattle.etx_sealed.specs.declared.params.ParParams.{ParParams}
use Rattle.etx_sealed.specs.declared.params.SealedFont.{SealedFont}
use Rattle.etx_hyphen.specs.declared.cuts.WordEnds.{WordEnds}
use Rattle.etx_hyphen.specs.declared.letters.Opening.{Opening}
use Rattle.etx_hyphen.specs.declared.letters.Gathered.{Gathered}
use Rattle.etx_hyphen.specs.declared.walk.Before.{Before}
use Rattle.etx_hyphen.specs.declared.walk.Before.TheVariants as before
use Rattle.etx_hyphen.specs.declared.walk.Walk.{Walk}

-- the letter in lower case for which a character stands in words; 0 where it is none
unfoldable pub lower_of : ParParams → ℕ → ℕ
lower_of p code = unwrap_or (slice_get p.lccode code) 0

abbrev pub is_letter : ParParams → ℕ → Bool
is_letter p code = nat_lt 0 (lower_of p code)

-- a word begins with a letter in lower case, and in upper case as well where `\uchyph` is positive
unfoldable pub begins_word : ParParams → ℕ → Bool
begins_word p code = is_letter p code && (lower_of p code == code || int_lt (pos 0) p.uchyph)

abbrev pub opening_by : ℕ → Bool → List ℕ → Option Opening
opening_by font left [] = None
opening_by font left (letter ∷ letters) = Some (record { font = font; letter = letter; left = left })

abbrev layer_opening : NodeLayer → Option Opening
layer_opening (Node-F.Char font code size) = Some (record { font = font; letter = code; left = false })
layer_opening (Node-F.Lig font code size parts) = opening_by font parts.left parts.letters
layer_opening _ = None

-- the first letter for which an item stands
unfoldable pub opening_of : Node → Option Opening
opening_of node = layer_opening (out-Node node)

-- items that are passed over where a word is looked for: they are no letters
abbrev pub passes_by : ParParams → Option Opening → Bool
passes_by p None = true
passes_by p (Some opening) = not (is_letter p opening.letter)

abbrev pub looks_behind : Walk → Bool → Walk
looks_behind walk passes = record walk { looking = walk.looking && passes }

abbrev pub behind_kern : Walk → KernKind → Walk
behind_kern walk Normal = walk
behind_kern walk Explicit = record walk { looking = false }
behind_kern walk Accent = record walk { looking = false }

abbrev pub behind_what : Walk → What → Walk
behind_what walk (Language language left right) = record walk { language = language; left = left; right = right }
behind_what walk _ = walk

abbrev pub behind_glue : Walk → Walk
behind_glue walk = record walk { looking = not walk.formula }

abbrev layer_searched : ParParams → Walk → NodeLayer → Walk
layer_searched p walk (Node-F.Char font code size) = looks_behind walk (not (is_letter p code))
layer_searched p walk (Node-F.Lig font code size parts) = looks_behind walk (passes_by p (opening_by font parts.left parts.letters))
layer_searched p walk (Node-F.Kern width kind) = behind_kern walk kind
layer_searched p walk (Node-F.Glue glue) = behind_glue walk
layer_searched p walk (Node-F.Leaders glue leader) = behind_glue walk
layer_searched p walk (Node-F.What what) = behind_what walk what
layer_searched p walk (Node-F.Math on width) = record walk { looking = false; formula = on }
layer_searched p walk _ = record walk { looking = false }

-- A word is looked for behind each glue that stands in no formula, up to the first letter. Characters that are no letters,
-- kerns of a font and whatsits may stand before it; anything else ends the search. A language stands from its whatsit on.
unfoldable pub searched_behind : ParParams → Walk → Node → Walk
searched_behind p walk node = layer_searched p walk (out-Node node)

abbrev layer_before : NodeLayer → Before
layer_before (Node-F.Char font code size) = before.Character font code
layer_before (Node-F.Lig font code size parts) = before.Character font code
layer_before _ = before.Nothing

-- what an item is to a word that begins behind it
unfoldable pub before_of : Node → Before
before_of node = layer_before (out-Node node)

abbrev pub walk_behind : ParParams → Walk → Node → Walk
walk_behind p walk node = record (searched_behind p walk node) { before = before_of node }

-- the font of a number
unfoldable pub font_numbered : List SealedFont → ℕ → Option SealedFont
font_numbered [] number = None
font_numbered (it ∷ fonts) number = if it.font.number == number then Some it else font_numbered fonts number

-- the character that `\hyphenchar` names
unfoldable pub hyphen_of : ℤ → Option ℕ
hyphen_of (pos code) = if nat_lt code 256 then Some code else None
hyphen_of (negsuc n) = None

abbrev pub nothing_gathered : Gathered
nothing_gathered = record { letters = []; count = 0; right = side.Nothing }

-- an item with these letters, which may be none; the boundary behind the word may have been part of it
abbrev pub with_letters : Gathered → List ℕ → Bool → Gathered
with_letters g letters right = record {
  letters = g.letters ++ letters;
  count = g.count + 1;
  right = boundary_if right;
}

-- a word has 63 letters at most, all of one font
abbrev pub fits_word : ParParams → ℕ → Gathered → ℕ → List ℕ → Bool
fits_word p wanted g font letters =
    font == wanted && list_all (is_letter p) letters && nat_le (length g.letters + length letters) 63

-- a character, or a ligature with its letters; one without letters is part of the word as well
abbrev pub taken_letters : ParParams → ℕ → Gathered → ℕ → List ℕ → Bool → Option Gathered
taken_letters p wanted g font letters right =
    if fits_word p wanted g font letters then Some (with_letters g letters right) else None

-- behind a kern of a font stands the boundary, unless an item follows that says otherwise
abbrev pub taken_kern : Gathered → KernKind → Option Gathered
taken_kern g Normal = Some (with_letters g [] true)
taken_kern g Explicit = None
taken_kern g Accent = None

abbrev layer_taken : ParParams → ℕ → Gathered → NodeLayer → Option Gathered
layer_taken p wanted g (Node-F.Char font code size) = taken_letters p wanted g font (code ∷ []) false
layer_taken p wanted g (Node-F.Lig font code size parts) = taken_letters p wanted g font parts.letters parts.right
layer_taken p wanted g (Node-F.Kern width kind) = taken_kern g kind
layer_taken p wanted g _ = None

-- what is gathered with an item more; `None` where the word ends before it
unfoldable pub taken : ParParams → ℕ → Gathered → Node → Option Gathered
taken p wanted g node = layer_taken p wanted g (out-Node node)

-- whether an item was taken, and what is gathered then
abbrev pub IsTaken : Option Gathered → Gathered → Gathered → Bool → Type 0
IsTaken more old new true = (more ≡ Some new) × (new.count ≡ old.count + 1)
IsTaken more old new false = (more ≡ None) × (new ≡ old)

-- what stays so while a word grows: it has 63 letters at most, and an item if it has letters
abbrev pub Grows : Gathered → Gathered → Type 0
Grows old new = record {
  few : length old.letters ≤ 63 → length new.letters ≤ 63;
  some : (0 < length old.letters → 0 < old.count) → 0 < length new.letters → 0 < new.count;
}

-- the first of these letters, where they are of the word's font
abbrev pub beside_by : ℕ → Neighbour → ℕ → List ℕ → Neighbour
beside_by wanted right font [] = right
beside_by wanted right font (letter ∷ letters) = if font == wanted then side.Character letter else right

abbrev layer_beside : ℕ → Neighbour → NodeLayer → Neighbour
layer_beside wanted right (Node-F.Char font code size) = beside_by wanted right font (code ∷ [])
layer_beside wanted right (Node-F.Lig font code size parts) = beside_by wanted right font parts.letters
layer_beside wanted right _ = right

-- what a word ends at: a character of its font that isn't part of it, or else what its last item says
unfoldable pub beside : ℕ → Neighbour → Node → Neighbour
beside wanted right node = layer_beside wanted right (out-Node node)

abbrev pub ended_by : ℕ → Gathered → Node → Gathered
ended_by wanted g node = record g { right = beside wanted g.right node }

-- the letters of a word in a font, from an item on
unfoldable pub gathered : ParParams → ℕ → Gathered → List Node → Gathered
gathered p wanted g [] = g
gathered p wanted g (node ∷ nodes) =
    option_map_or (λ more. gathered p wanted more nodes) (taken p wanted g node) (ended_by wanted g node)

abbrev pub kern_ends : KernKind → Option Bool
kern_ends Normal = None
kern_ends Explicit = Some true
kern_ends Accent = Some true

abbrev layer_ends : NodeLayer → Option Bool
layer_ends (Node-F.Char font code size) = None
layer_ends (Node-F.Lig font code size parts) = None
layer_ends (Node-F.Kern width kind) = kern_ends kind
layer_ends (Node-F.Glue glue) = Some true
layer_ends (Node-F.Leaders glue leader) = Some true
layer_ends (Node-F.Penalty penalty) = Some true
layer_ends (Node-F.What what) = Some true
layer_ends (Node-F.Ins it) = Some true
layer_ends (Node-F.Adjust list) = Some true
layer_ends (Node-F.Mark it) = Some true
layer_ends _ = Some false

-- whether an item may end the characters behind a word; `None` where it is one of them
unfoldable pub ends_word : Node → Option Bool
ends_word node = layer_ends (out-Node node)

-- whether a word may be hyphenated before these items
unfoldable pub may_follow : List Node → Bool
may_follow [] = true
may_follow (node ∷ nodes) = unwrap_or (ends_word node) (may_follow nodes)

-- the least letters on one side of a hyphen, from 1 to 63
abbrev pub least : ℕ → ℕ
least count = max 1 (min count 63)

-- whether enough letters stand before and behind a hyphen
abbrev pub is_inside : Walk → ℕ → ℕ → Bool
is_inside walk letters place = nat_le (least walk.left) place && nat_le (place + least walk.right) letters

-- where hyphens are allowed: by the exception for the word, if there is one, or else by the patterns of the language
unfoldable pub places_in : ParParams → Walk → List ℕ → List ℕ
places_in p walk letters = filter (is_inside walk (length letters)) (places_of p.tables walk.language (map (lower_of p) letters))

-- a word with places for hyphens, and how many items it has
pub record FoundWord : Type 0 where
  pub font : FontState
  pub hyphen : ℕ
  pub ends : WordEnds
  pub letters : List ℕ
  pub places : List ℕ
  pub count : ℕ

abbrev pub word_with : FontState → ℕ → Neighbour → Gathered → List ℕ → Option FoundWord
word_with font hyphen left g [] = None
word_with font hyphen left g (place ∷ places) = Some (record {
  font = font;
  hyphen = hyphen;
  ends = record { left = left; right = g.right };
  letters = g.letters;
  places = place ∷ places;
  count = g.count;
})

abbrev pub word_if : ParParams → Walk → List Node → Neighbour → FontState → ℕ → Gathered → Option FoundWord
word_if p walk nodes left font hyphen g =
    if may_follow (drop g.count nodes) then word_with font hyphen left g (places_in p walk g.letters) else None

-- the word in a font, unless what follows forbids it
unfoldable pub word_of : ParParams → Walk → List Node → Neighbour → FontState → ℕ → Option FoundWord
word_of p walk nodes left font hyphen = word_if p walk nodes left font hyphen (gathered p font.number nothing_gathered nodes)

unfoldable pub word_in_font : ParParams → Walk → List Node → Neighbour → SealedFont → Option FoundWord
word_in_font p walk nodes left it = option_and_then (word_of p walk nodes left it.font) (hyphen_of it.hyphen_char)

-- the word of these items that begins with such a letter, behind a neighbour
unfoldable pub word_opened : ParParams → Walk → List Node → Opening → Neighbour → Option FoundWord
word_opened p walk nodes opening left =
    if walk.looking && begins_word p opening.letter
    then option_and_then (word_in_font p walk nodes left) (font_numbered p.fonts opening.font) else None

-- What stands before a word: the character before it, if that is of the same font. A word behind a character of another
-- font begins with the boundary; one behind anything else does where its first ligature tells of it.
abbrev pub left_of : Before → Opening → Neighbour
left_of before.Nothing opening = boundary_if opening.left
left_of (before.Character font code) opening = if font == opening.font then side.Character code else side.Boundary

abbrev pub edge_by : ℕ → Bool → List ℕ → Option ℕ
edge_by font left [] = if left then Some font else None
edge_by font left (letter ∷ letters) = None

abbrev layer_edge : NodeLayer → Option ℕ
layer_edge (Node-F.Lig font code size parts) = edge_by font parts.left parts.letters
layer_edge _ = None

-- the font of a ligature that the boundary before a word made without a letter
unfoldable pub edge_font : Node → Option ℕ
edge_font node = layer_edge (out-Node node)

abbrev pub first_opening : List Node → Option Opening
first_opening [] = None
first_opening (node ∷ nodes) = opening_of node

abbrev pub edge_opened : ParParams → Walk → List Node → ℕ → Opening → Option FoundWord
edge_opened p walk nodes font opening = if opening.font == font then word_opened p walk nodes opening side.Boundary else None

-- a word begins with its first letter, or with the ligature of its font that the boundary made before that
abbrev pub word_by : ParParams → Walk → Node → List Node → Option ℕ → Option FoundWord
word_by p walk node nodes None =
    option_and_then (λ opening. word_opened p walk (node ∷ nodes) opening (left_of walk.before opening)) (opening_of node)
word_by p walk node nodes (Some font) = option_and_then (edge_opened p walk (node ∷ nodes) font) (first_opening nodes)

-- the word that begins with the first of these items, if there is one with a place for a hyphen
unfoldable pub word_at : ParParams → Walk → List Node → Option FoundWord
word_at p walk [] = None
word_at p walk (node ∷ nodes) = word_by p walk node nodes (edge_font node)
