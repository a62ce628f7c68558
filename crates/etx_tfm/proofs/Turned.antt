-- Items that are kept with the first one last.
use Rattle.std.proofs.Common.{◌≡◌, ℕ, suc, ◌+◌, ◌-◌, ◌<◌, List, [], ◌∷◌, ◌++◌, map, take, length, get_or, refl, sym, ap, ◌∙◌, arith}
use Rattle.std.specs.Prelude.{Some}
use Rattle.etx_tfm.specs.declared.piece.Piece.{Piece}
use Rattle.etx_tfm.specs.declared.piece.Neighbour.{Neighbour}
use Rattle.etx_tfm.specs.declared.piece.Neighbour.TheVariants as side
use Rattle.etx_tfm.specs.declared.piece.Piece.TheVariants.{LeftEdge, RightEdge, Letter}
use Rattle.etx_tfm.specs.Machine.{item_of, letters_of, side_of, between, next_item, is_end, is_right_edge}
use Rattle.etx_tfm.specs.Cleans.{turned_behind, letters_in}

pub turned-push : (xs rest : List Piece) (x : Piece) → turned_behind (xs ++ x ∷ []) rest ≡ x ∷ turned_behind xs rest
turned-push [] rest x = refl
turned-push (y ∷ xs) rest x = turned-push xs (y ∷ rest) x

pub turned-last : (xs rest : List Piece) (d : Piece) → 0 < length xs → turned_behind xs rest ≡ get_or xs (length xs - 1) d ∷ turned_behind (take (length xs - 1) xs) rest
turned-last [] rest d h = absurd (omega (arith, h))
turned-last (x ∷ []) rest d h = refl
turned-last (x ∷ y ∷ ys) rest d h =
    let e : length (x ∷ y ∷ ys) - 1 ≡ suc (length (y ∷ ys) - 1) = omega arith in
    turned-last (y ∷ ys) (x ∷ rest) d (omega arith)
    ∙ ap (λ n. get_or (x ∷ y ∷ ys) n d ∷ turned_behind (take n (x ∷ y ∷ ys)) rest) (sym e)

pub next-turned : (xs rest : List Piece) (x : Piece) (n : ℕ) → n ≡ length xs → 0 < n → x ≡ get_or xs (n - 1) x → next_item (turned_behind xs rest) ≡ Some (item_of x)
next-turned xs rest x n e h k =
    let last : get_or xs (length xs - 1) x ≡ x = ap (λ m. get_or xs (m - 1) x) (sym e) ∙ sym k in
    ap next_item (turned-last xs rest x (omega (arith, e, h))) ∙ ap (λ p. Some (item_of p)) last

pub end-turned : (xs rest : List Piece) (x : Piece) (n : ℕ) → n ≡ length xs → 0 < n → x ≡ get_or xs (n - 1) x → is_end (turned_behind xs rest) ≡ is_right_edge x
end-turned xs rest x n e h k =
    let last : get_or xs (length xs - 1) x ≡ x = ap (λ m. get_or xs (m - 1) x) (sym e) ∙ sym k in
    ap is_end (turned-last xs rest x (omega (arith, e, h))) ∙ ap is_right_edge last

-- a list without items
pub none_left : (xs : List Piece) → length xs ≡ 0 → xs ≡ []
none_left [] e = refl
none_left (x ∷ xs) e = absurd (omega (arith, e))

-- letters and neighbours
letters_in-append : (xs ys : List Piece) → letters_in (xs ++ ys) ≡ letters_in xs + letters_in ys
letters_in-append [] ys = omega arith
letters_in-append (x ∷ xs) ys = omega (arith, letters_in-append xs ys)

letters_in-letters : (letters : List ℕ) → letters_in (map Letter letters) ≡ length letters
letters_in-letters [] = refl
letters_in-letters (code ∷ letters) = omega (arith, letters_in-letters letters)

letters_in-side : (edge : Piece) (side : Neighbour) → letters_of edge ≡ [] → letters_in (side_of edge side) ≡ 0
letters_in-side edge side.Nothing e = refl
letters_in-side edge side.Boundary e = omega (arith, ap length e)
letters_in-side edge (side.Character code) e = refl

pub letters_in-between : (letters : List ℕ) (left right : Neighbour) → letters_in (between letters left right) ≡ length letters
letters_in-between letters left right =
    let a = letters_in-append (side_of LeftEdge left ++ map Letter letters) (side_of RightEdge right) in
    let b = letters_in-append (side_of LeftEdge left) (map Letter letters) in
    omega (arith, a, b, letters_in-side LeftEdge left refl, letters_in-side RightEdge right refl, letters_in-letters letters)

-- none is touched
pub letters_in-untouched : (xs coming : List Piece) → length xs ≡ 0 → letters_in (turned_behind xs coming) ≡ letters_in coming
letters_in-untouched xs coming e = ap (λ it. letters_in (turned_behind it coming)) (none_left xs e)

pub end-untouched : (xs coming : List Piece) → length xs ≡ 0 → is_end (turned_behind xs coming) ≡ is_end coming
end-untouched xs coming e = ap (λ it. is_end (turned_behind it coming)) (none_left xs e)

pub next-untouched : (xs coming : List Piece) → length xs ≡ 0 → next_item (turned_behind xs coming) ≡ next_item coming
next-untouched xs coming e = ap (λ it. next_item (turned_behind it coming)) (none_left xs e)
