-- The cursor, one item further, where the items behind it are given as a list; and with clean places.
use Rattle.std.proofs.Common.{◌≡◌, ℕ, zero, suc, ◌-◌, ◌<◌, Bool, true, false, ◌&&◌, ltb, List, [], ◌∷◌, ◌++◌, length, Option, None, Some, refl, sym, subst, ap, ◌∙◌, arith}
use Rattle.std.proofs.lemmas.Bool.{le-ltb}
use Rattle.etx_matter.specs.declared.node.Node.{Node}
use Rattle.etx_matter.specs.declared.font.PairAction.{PairAction}
use Rattle.etx_matter.specs.declared.font.LigItem.{LigItem}
use Rattle.etx_matter.specs.Fonts.{FontState}
use Rattle.etx_matter.specs.Soundness.{IsSound}
use Rattle.etx_matter.specs.Ligatures.{action_between}
use Rattle.etx_tfm.specs.declared.piece.Edges.{Edges}
use Rattle.etx_tfm.specs.declared.piece.Piece.{Piece}
use Rattle.etx_tfm.specs.declared.reading.CleanPlace.{CleanPlace}
use Rattle.etx_tfm.specs.Cleans.{touched_behind, holds_end, letters_in, is_clean, clean_place, place_if, Reads, ReadsOn}
use Rattle.etx_tfm.specs.Cleans as reads
use Rattle.etx_tfm.specs.Machine.{Place, place, nodes_of, item_of, next_item, by_next, stepped, Rewrites, over, last, next, ComesTo}
use Rattle.etx_tfm.proofs.Passing.{comes-next, stepped-by}
use Rattle.etx_tfm.proofs.Ending.{left_to_do, step_falls}

-- the next item of a list
step_by : (font : FontState) (written : List Node) (edges : Edges) (x : Piece) (rest : List Piece) (item : LigItem) (p : Place) (action : Option PairAction)
    → next_item rest ≡ Some item → p ≡ by_next font written edges x rest action → action ≡ action_between font.info (item_of x) item
    → (y : Piece) × (behind : List Piece) × (rest ≡ y ∷ behind) × (p ≡ stepped font written edges x y behind) × (item ≡ item_of y)
step_by font written edges x [] item p action some e k = absurd (cc)
step_by font written edges x (y ∷ behind) item p action some e k =
    let is : item_of y ≡ item = cc in
    (y, behind, refl, stepped-by font written edges x y behind p action e (k ∙ ap (λ it. action_between font.info (item_of x) it) (sym is)), sym is)

pub comes-step : (font : FontState) (first : List Node) (none : Edges) (items : List Piece) (written written' : List Node) (edges edges' : Edges) (x : Piece) (all rest rest' : List Piece) (item : LigItem) (action : Option PairAction)
    → ComesTo font first none items written edges all → all ≡ x ∷ rest → next_item rest ≡ Some item
    → place written' edges' rest' ≡ by_next font written edges x rest action → action ≡ action_between font.info (item_of x) item
    → ComesTo font first none items written' edges' rest'
comes-step font first none items written written' edges edges' x all rest rest' item action h e some k a =
    let found = step_by font written edges x rest item (place written' edges' rest') action some k a in
    comes-next font first none items written written' edges edges' x found.0 all found.1 rest' h (e ∙ ap (λ it. x ∷ it) found.2) found.3

pub falls-step : (font : FontState) (written written' : List Node) (edges edges' : Edges) (x : Piece) (all rest rest' : List Piece) (item : LigItem) (action : Option PairAction) → IsSound font.info
    → all ≡ x ∷ rest → next_item rest ≡ Some item
    → place written' edges' rest' ≡ by_next font written edges x rest action → action ≡ action_between font.info (item_of x) item
    → left_to_do font rest' < left_to_do font all
falls-step font written written' edges edges' x all rest rest' item action sound e some k a =
    let found = step_by font written edges x rest item (place written' edges' rest') action some k a in
    step_falls font written written' edges edges' x found.0 all rest' found.1 sound (e ∙ ap (λ it. x ∷ it) found.2) found.3

pub no_next : (rest : List Piece) → next_item rest ≡ None → rest ≡ []
no_next [] e = refl
no_next (x ∷ rest) e = absurd (cc)

-- the same with clean places
pub reads-first : (font : FontState) (total touched : ℕ) (written : List Node) (edges none : Edges) (items rest : List Piece) → edges ≡ none → rest ≡ items → touched ≡ 0 → written ≡ []
    → ReadsOn font total 0 [] none items [] touched written edges rest []
reads-first font total touched written edges none items rest e k t w nodes passed r = rw (e, k, t, w) at r

pub reads-over : (font : FontState) (total first touched : ℕ) (none : Edges) (items : List Piece) (written : List Node) (edges : Edges) (all : List Piece) (places : List CleanPlace)
    → ReadsOn font total first [] none items [] touched written edges all places → all ≡ [] → Reads font total first [] none items [] written places
reads-over font total first touched none items written edges all places h e = h written places (rw e reads.over)

pub reads-last : (font : FontState) (total first touched : ℕ) (none : Edges) (items : List Piece) (written written' : List Node) (edges : Edges) (x : Piece) (all rest : List Piece) (places : List CleanPlace)
    → ReadsOn font total first [] none items [] touched written edges all places → all ≡ x ∷ rest → rest ≡ [] → written' ≡ written ++ nodes_of font edges true x
    → Reads font total first [] none items [] written' places
reads-last font total first touched none items written written' edges x all rest places h e none_behind k = h written' places (rw (e, none_behind, k) reads.last)

reads-next : (font : FontState) (total first touched touched' : ℕ) (none : Edges) (items : List Piece) (written written' : List Node) (edges edges' : Edges) (x y : Piece) (all behind rest' : List Piece) (places places' : List CleanPlace)
    → ReadsOn font total first [] none items [] touched written edges all places → all ≡ x ∷ y ∷ behind
    → place written' edges' rest' ≡ stepped font written edges x y behind
    → touched' ≡ touched_behind (touched - 1) (action_between font.info (item_of x) (item_of y))
    → places' ≡ places ++ place_if (is_clean (touched - 1) x (action_between font.info (item_of x) (item_of y))) (clean_place total (stepped font written edges x y behind).written (y ∷ behind))
    → ReadsOn font total first [] none items [] touched' written' edges' rest' places'
reads-next font total first touched touched' none items written written' edges edges' x y all behind rest' places places' h e k t p nodes passed r =
    let P : Place → Type 0 = λ it. Reads font total touched' it.written it.edges it.rest places' nodes passed in
    let there : Reads font total touched' (stepped font written edges x y behind).written (stepped font written edges x y behind).edges (stepped font written edges x y behind).rest places' nodes passed = subst P k r in
    h nodes passed (rw e (reads.next (rw (t, p) at there)))

pub reads-step : (font : FontState) (total first touched touched' : ℕ) (none : Edges) (items : List Piece) (written written' : List Node) (edges edges' : Edges) (x : Piece) (all rest rest' : List Piece)
    (item : LigItem) (action : Option PairAction) (places places' : List CleanPlace)
    → ReadsOn font total first [] none items [] touched written edges all places → all ≡ x ∷ rest → next_item rest ≡ Some item
    → place written' edges' rest' ≡ by_next font written edges x rest action → action ≡ action_between font.info (item_of x) item
    → touched' ≡ touched_behind (touched - 1) action
    → places' ≡ places ++ place_if (is_clean (touched - 1) x action) (clean_place total written' rest)
    → ReadsOn font total first [] none items [] touched' written' edges' rest' places'
reads-step font total first touched touched' none items written written' edges edges' x all rest rest' item action places places' h e some k a t p =
    let found = step_by font written edges x rest item (place written' edges' rest') action some k a in
    let same : action ≡ action_between font.info (item_of x) (item_of found.0) = a ∙ ap (λ it. action_between font.info (item_of x) it) found.4 in
    let wrote : written' ≡ (stepped font written edges x found.0 found.1).written = ap (λ it. it.written) found.3 in
    reads-next font total first touched touched' none items written written' edges edges' x found.0 all found.1 rest' places places' h (e ∙ ap (λ it. x ∷ it) found.2) found.3
    (t ∙ ap (touched_behind (touched - 1)) same)
    (p
    ∙ ap (λ it. places ++ place_if (is_clean (touched - 1) x it) (clean_place total written' rest)) same
    ∙ ap (λ it. places ++ place_if (is_clean (touched - 1) x (action_between font.info (item_of x) (item_of found.0))) (clean_place total it rest)) wrote
    ∙ ap (λ it. places ++ place_if (is_clean (touched - 1) x (action_between font.info (item_of x) (item_of found.0))) (clean_place total (stepped font written edges x found.0 found.1).written it)) found.2)

-- where a place is clean, nothing is touched, and the items behind the first stay
clean-none : (touched : ℕ) (x : Piece) (action : Option PairAction) → is_clean touched x action ≡ true → (touched ≡ 0) × (action ≡ None)
clean-none zero x None h = (refl, refl)
clean-none (suc touched) x None h = absurd (over_one touched (holds_end x) h)
  where
    over_one : (n : ℕ) (b : Bool) → (ltb (suc n) 1 && b) ≡ true → ⊥
    over_one n b h =
        let k : ltb (suc n) 1 ≡ false = le-ltb (suc n) 1 (omega arith) in
        let none : (false && b) ≡ true = rw k at h in
        absurd (cc)
clean-none touched x (Some action) h = absurd (cc)

pub clean-untouched : (before after : ℕ) (clean : Bool) (x : Piece) (action : Option PairAction) → clean ≡ is_clean before x action → after ≡ touched_behind before action → clean ≡ true → after ≡ 0
clean-untouched before after clean x action e t c =
    let parts = clean-none before x action (sym e ∙ c) in
    t ∙ ap (touched_behind before) parts.1 ∙ parts.0

-- the place is that before the items that stay
stays_by : (font : FontState) (written : List Node) (edges : Edges) (x : Piece) (rest : List Piece) (item : LigItem) → next_item rest ≡ Some item → (by_next font written edges x rest None).rest ≡ rest
stays_by font written edges x [] item some = refl
stays_by font written edges x (y ∷ behind) item some = refl

place_same : (font : FontState) (total before count : ℕ) (written written' : List Node) (edges edges' : Edges) (x : Piece) (rest rest' : List Piece) (item : LigItem) (action : Option PairAction) (b : Bool)
    → is_clean before x action ≡ b → next_item rest ≡ Some item → place written' edges' rest' ≡ by_next font written edges x rest action → count ≡ length written'
    → place_if b (record { letters = total - letters_in rest'; nodes = count }) ≡ place_if b (clean_place total written' rest)
place_same font total before count written written' edges edges' x rest rest' item action false e some k c = refl
place_same font total before count written written' edges edges' x rest rest' item action true e some k c =
    let none : action ≡ None = (clean-none before x action e).1 in
    let stays : rest' ≡ rest = ap (λ it. it.rest) k ∙ ap (λ it. (by_next font written edges x rest it).rest) none ∙ stays_by font written edges x rest item some in
    rw (stays, c) refl

pub noted-place : (font : FontState) (total before count : ℕ) (written written' : List Node) (edges edges' : Edges) (x : Piece) (rest rest' : List Piece) (item : LigItem) (action : Option PairAction) (clean : Bool) (places places' : List CleanPlace)
    → clean ≡ is_clean before x action → next_item rest ≡ Some item → place written' edges' rest' ≡ by_next font written edges x rest action → count ≡ length written'
    → places' ≡ places ++ place_if clean (record { letters = total - letters_in rest'; nodes = count })
    → places' ≡ places ++ place_if (is_clean before x action) (clean_place total written' rest)
noted-place font total before count written written' edges edges' x rest rest' item action clean places places' e some k c p =
    p
    ∙ ap (λ it. places ++ it) (place_same font total before count written written' edges edges' x rest rest' item action clean (sym e) some k c)
    ∙ ap (λ it. places ++ place_if it (clean_place total written' rest)) e

-- a reading is what the machine makes
pub reads_rewrites : (font : FontState) (total touched : ℕ) (written nodes : List Node) (edges : Edges) (items : List Piece) (places passed : List CleanPlace)
    → Reads font total touched written edges items places nodes passed → Rewrites font written edges items nodes
reads_rewrites font total touched written nodes edges items places passed reads.over = over
reads_rewrites font total touched written nodes edges items places passed reads.last = last
reads_rewrites font total touched written nodes edges items places passed (reads.next r) = next (reads_rewrites font total _ _ nodes _ _ _ passed r)
