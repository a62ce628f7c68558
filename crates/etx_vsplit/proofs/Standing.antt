-- A node more in a column, and in the list of places.
use Rattle.std.proofs.Common.{◌≡◌, ℕ, ◌+◌, ℤ, pos, ◌+ℤ◌, Bool, false, List, [], ◌∷◌, ◌++◌, length, map, ap, ◌∙◌, refl, arith, append_assoc, sym}
use Rattle.std.specs.List.{fold}
use Rattle.std.proofs.Math.Nat.{add-zero}
use Rattle.std.proofs.lemmas.List.{map-append, append-nil}
use Rattle.std.proofs.lemmas.List.Sums.{fold_push}
use Rattle.etx_matter.specs.declared.node.Node.{Node}
use Rattle.etx_pack.specs.Reaches.{length_of}
use Rattle.etx_pack.specs.Sums.{nothing, together, stretch_of, sum_over, total_over}
use Rattle.etx_pack.specs.declared.orders.OrderTotals.{OrderTotals}
use Rattle.etx_vsplit.specs.declared.column.Column.{Column}
use Rattle.etx_vsplit.specs.Columns.{finite_shrink_of, hang_within, stays, ends_staying, column_of, column_with}
use Rattle.etx_vsplit.specs.Splits.{has_infinite_shrink, place_if, infinite_places}

sum_push : {X Y : Type 0} (f : Y → X → Y) (a : Y) (g : Node → X) (nodes : List Node) (node : Node) → fold f a (map g (nodes ++ node ∷ [])) ≡ f (fold f a (map g nodes)) (g node)
sum_push f a g nodes node = ap (fold f a) (map-append g nodes (node ∷ [])) ∙ fold_push f a (map g nodes) (g node)

pub column_push : (max_depth : ℤ) (nodes : List Node) (node : Node) → column_of max_depth (nodes ++ node ∷ []) ≡ column_with max_depth (column_of max_depth nodes) node
unfolding column_of
column_push max_depth nodes node =
    let sizes : sum_over length_of (nodes ++ node ∷ []) ≡ sum_over length_of nodes +ℤ length_of node = sum_push ◌+ℤ◌ (pos 0) length_of nodes node in
    let depth : fold (hang_within max_depth) (pos 0) (nodes ++ node ∷ []) ≡ hang_within max_depth (fold (hang_within max_depth) (pos 0) nodes) node = fold_push (hang_within max_depth) (pos 0) nodes node in
    let stretch : total_over stretch_of (nodes ++ node ∷ []) ≡ together (total_over stretch_of nodes) (stretch_of node) = sum_push together nothing stretch_of nodes node in
    let shrink : sum_over finite_shrink_of (nodes ++ node ∷ []) ≡ sum_over finite_shrink_of nodes +ℤ finite_shrink_of node = sum_push ◌+ℤ◌ (pos 0) finite_shrink_of nodes node in
    let staying : ends_staying (nodes ++ node ∷ []) ≡ stays node = fold_push (λ (before : Bool) (it : Node). stays it) false nodes node in
    cc

-- a column of which each part is told
pub column_is : (max_depth : ℤ) (column : Column) (node : Node) (sizes depth : ℤ) (stretch : OrderTotals) (shrink : ℤ) (staying : Bool) → sizes ≡ column.length +ℤ length_of node → depth ≡ hang_within max_depth column.depth node → stretch ≡ together column.stretch (stretch_of node) → shrink ≡ column.shrink +ℤ finite_shrink_of node → staying ≡ stays node → record { length = sizes; depth = depth; stretch = stretch; shrink = shrink; ends_staying = staying } ≡ column_with max_depth column node
column_is max_depth column node sizes depth stretch shrink staying a b c d e = cc

pub nothing_stands : (max_depth : ℤ) → column_of max_depth [] ≡ record { length = pos 0; depth = pos 0; stretch = nothing; shrink = pos 0; ends_staying = false }
unfolding column_of
nothing_stands max_depth = refl

pub places_push : (place : ℕ) (nodes : List Node) (node : Node) → infinite_places place (nodes ++ node ∷ []) ≡ infinite_places place nodes ++ place_if (has_infinite_shrink node) (place + length nodes)
unfolding infinite_places
places_push place [] node =
    append-nil (place_if (has_infinite_shrink node) place) ∙ ap (place_if (has_infinite_shrink node)) (sym (add-zero place))
places_push place (first ∷ nodes) node =
    ap (λ (ps : List ℕ). place_if (has_infinite_shrink first) place ++ ps) (places_push (place + 1) nodes node)
    ∙ sym (append_assoc (place_if (has_infinite_shrink first) place) (infinite_places (place + 1) nodes) (place_if (has_infinite_shrink node) (place + 1 + length nodes)))
    ∙ ap (λ (k : ℕ). place_if (has_infinite_shrink first) place ++ infinite_places (place + 1) nodes ++ place_if (has_infinite_shrink node) k) (omega arith)
