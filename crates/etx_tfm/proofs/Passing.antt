-- The cursor, one item further.
use Rattle.std.proofs.Common.{◌≡◌, ℕ, suc, ◌+◌, ◌-◌, ◌<◌, ◌≤◌, Bool, true, List, [], ◌∷◌, ◌++◌, Option, refl, sym, subst, ap, ◌∙◌, arith}
use Rattle.etx_matter.specs.declared.node.Node.{Node}
use Rattle.etx_matter.specs.declared.font.PairAction.{PairAction}
use Rattle.etx_matter.specs.Fonts.{FontState}
use Rattle.etx_matter.specs.Ligatures.{action_between}
use Rattle.etx_tfm.specs.declared.piece.Edges.{Edges}
use Rattle.etx_tfm.specs.declared.piece.Piece.{Piece}
use Rattle.etx_tfm.specs.Machine.{Place, place, passed, is_end, nodes_of, edges_behind, item_of, by_action, stepped, Rewrites, over, last, next, ComesTo}

pub passed-more : (font : FontState) (n i : ℕ) (written : List Node) (edges : Edges) (x : Piece) (rest : List Piece) → i < n
    → passed font (n - i) written edges (x ∷ rest)
    ≡ passed font (n - (i + 1)) (written ++ nodes_of font edges (is_end rest) x) (edges_behind edges (is_end rest) x) rest
unfolding passed
passed-more font n i written edges x rest h =
    let k : n - i ≡ suc (n - (i + 1)) = omega arith in
    rw k refl

pub passed-none : (font : FontState) (n i : ℕ) (written : List Node) (edges : Edges) → i < n
    → passed font (n - i) written edges [] ≡ place written edges []
unfolding passed
passed-none font n i written edges h =
    let k : n - i ≡ suc (n - (i + 1)) = omega arith in
    rw k refl

pub passed-end : (font : FontState) (n i : ℕ) (written : List Node) (edges : Edges) (rest : List Piece) → n ≤ i
    → passed font (n - i) written edges rest ≡ place written edges rest
unfolding passed
passed-end font n i written edges rest h =
    let k : n - i ≡ 0 = omega arith in
    rw k refl

pub passed-by : (font : FontState) (n i : ℕ) (written written' : List Node) (edges edges' : Edges) {ends : Bool} (x : Piece) (rest rest' : List Piece)
    → i < n → rest ≡ x ∷ rest' → ends ≡ is_end rest' → written' ≡ written ++ nodes_of font edges ends x → edges' ≡ edges_behind edges ends x
    → passed font (n - (i + 1)) written' edges' rest' ≡ passed font (n - i) written edges rest
passed-by font n i written written' edges edges' x rest rest' h e t k l =
    rw (e, k, l, t) (sym (passed-more font n i written edges x rest' h))

pub comes-over : (font : FontState) (first : List Node) (none : Edges) (items : List Piece) (written : List Node) (edges : Edges) (rest : List Piece)
    → ComesTo font first none items written edges rest → rest ≡ [] → Rewrites font first none items written
comes-over font first none items written edges rest h e = h written (rw e over)

pub comes-last : (font : FontState) (first : List Node) (none : Edges) (items : List Piece) (written written' : List Node) (edges : Edges) (x : Piece) (rest : List Piece)
    → ComesTo font first none items written edges rest → rest ≡ x ∷ [] → written' ≡ written ++ nodes_of font edges true x
    → Rewrites font first none items written'
comes-last font first none items written written' edges x rest h e k = h written' (rw (e, k) last)

pub stepped-by : (font : FontState) (written : List Node) (edges : Edges) (x y : Piece) (rest : List Piece) (p : Place) (action : Option PairAction)
    → p ≡ by_action font written edges x y rest action → action ≡ action_between font.info (item_of x) (item_of y)
    → p ≡ stepped font written edges x y rest
unfolding stepped
stepped-by font written edges x y rest p action e k = e ∙ ap (λ a. by_action font written edges x y rest a) k

pub comes-next : (font : FontState) (first : List Node) (none : Edges) (items : List Piece) (written written' : List Node) (edges edges' : Edges) (x y : Piece) (rest behind rest' : List Piece)
    → ComesTo font first none items written edges rest → rest ≡ x ∷ y ∷ behind
    → place written' edges' rest' ≡ stepped font written edges x y behind → ComesTo font first none items written' edges' rest'
comes-next font first none items written written' edges edges' x y rest behind rest' h e k nodes r =
    let P : Place → Type 0 = λ p. Rewrites font p.written p.edges p.rest nodes in
    h nodes (rw e (next (subst P k r)))
