-- Things that are drawn one behind the other.
use Rattle.std.proofs.Common.{◌≡◌, refl, sym, ◌∙◌, ℕ, zero, suc, ◌+◌, ◌-◌, ◌<◌, ℤ, ◌+ℤ◌, List, [], ◌∷◌, ◌++◌, replicate, Bool, ◌==◌, append_assoc, length, get_or, drop, drop-cons, map, arith, ap}
use Rattle.etx_ship.specs.Hands.{Hand, drawn, drawn_one, Draws}
use Rattle.etx_ship.specs.Items.{Item}
use Rattle.etx_matter.specs.declared.node.Node.{Node}
use Rattle.etx_ship.specs.Copies.{behind_first}
use Rattle.etx_ship.specs.Places.{Moves, along, repeated, node_moves, is_empty}
use Rattle.etx_ship.specs.declared.copies.Repeats.{Repeats}
use Rattle.etx_ship.specs.declared.place.Frame.{Frame}
use Rattle.etx_ship.specs.declared.place.Spot.{Spot}

pub drawn_append : (is js : List Item) (x : Hand) → drawn (is ++ js) x ≡ drawn js (drawn is x)
drawn_append [] js x = refl
drawn_append (i ∷ is) js x = drawn_append is js (drawn_one i x)

-- one push more
pub one_push : (out : List ℕ) (n : ℕ) → 0 < n → (out ++ 141 ∷ []) ++ replicate (n - 1) 141 ≡ out ++ replicate n 141
one_push out zero h = absurd (omega arith)
one_push out (suc n) h =
    let e : suc n - 1 ≡ n = omega arith in
    rw e (append_assoc out (141 ∷ []) (replicate n 141))

-- an item of a list is drawn, and then the rest of the list
pub drawn_step : (m : Moves) (ms : List Moves) (f : Frame) (s next : Spot) (x new : Hand) → Draws (m f s) x new next → drawn (along ms f next) new ≡ drawn (along (m ∷ ms) f s) x
drawn_step m ms f s next x new d =
    rw (d.0, d.1) (sym (drawn_append (m f s).items (along ms f (m f s).next) x))

repeated_once : (show : ℤ → List Item) (step : ℤ) (n : ℕ) (from : ℤ) → 0 < n → repeated show step n from ≡ show from ++ repeated show step (n - 1) (from +ℤ step)
unfolding repeated
repeated_once show step zero from h = absurd (omega arith)
repeated_once show step (suc n) from h = let e : suc n - 1 ≡ n = omega arith in rw e refl

-- one of many is drawn, and then the others
pub drawn_once : (show : ℤ → List Item) (step : ℤ) (n : ℕ) (from next : ℤ) (x new : Hand) → 0 < n → new ≡ drawn (show from) x → next ≡ from +ℤ step → drawn (repeated show step (n - 1) next) new ≡ drawn (repeated show step n from) x
drawn_once show step n from next x new h d e =
    rw (d, e) (sym (ap (λ is. drawn is x) (repeated_once show step n from h) ∙ drawn_append (show from) (repeated show step (n - 1) (from +ℤ step)) x))

pub list_step : (ns : List Node) (i : ℕ) (n : Node) (f : Frame) (s next : Spot) (x new : Hand) → i < length ns → n ≡ get_or ns i n → Draws (node_moves n f s) x new next → drawn (along (map node_moves (drop (i + 1) ns)) f next) new ≡ drawn (along (map node_moves (drop i ns)) f s) x
list_step ns i n f s next x new h e d =
    let k : i + 1 ≡ suc i = omega arith in
    let all : drop i ns ≡ n ∷ drop (suc i) ns = drop-cons ns i n h ∙ ap (λ m. m ∷ drop (suc i) ns) (sym e) in
    rw (k, all) (drawn_step (node_moves n) (map node_moves (drop (suc i) ns)) f s next x new d)

pub row_step : (show : ℤ → List Item) (row next : Repeats) (x new : Hand) → 0 < row.count → new ≡ drawn (show row.first) x → next ≡ behind_first row → drawn (repeated show next.step next.count next.first) new ≡ drawn (repeated show row.step row.count row.first) x
row_step show row next x new h d e =
    rw e (drawn_once show row.step row.count row.first (row.first +ℤ row.step) x new h d refl)

pub no_more : (show : ℤ → List Item) (step : ℤ) (n : ℕ) (from : ℤ) (x : Hand) → n ≡ 0 → drawn (repeated show step n from) x ≡ x
unfolding repeated
no_more show step n from x e = rw e refl

empty_as : {A B : Type 0} (f : A → B) (ns : List A) → (length ns == 0) ≡ is_empty (map f ns)
empty_as f [] = refl
empty_as f (n ∷ ns) = grind arith

pub is_empty_as : (ns : List Node) (b : Bool) → b ≡ (length ns == 0) → b ≡ is_empty (map node_moves ns)
is_empty_as ns b e = e ∙ empty_as (λ n. node_moves n) ns
