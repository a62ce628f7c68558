-- The nodes of a reading hold no lists, and a rebuilt word carries the right nestings.
use Rattle.std.proofs.Common.{◌≡◌, ℕ, ◌-◌, Bool, true, false, if◌then◌else◌, List, [], ◌∷◌, ◌++◌, length, take, drop, refl, sym, subst, ap, arith}
use Rattle.std.proofs.lemmas.List.{take-append-drop}
use Rattle.etx_matter.specs.declared.node.Node.{Node, Node-F, fold-roll-Node}
use Rattle.etx_matter.specs.declared.node.Discretionary.{Discretionary, fold_out-Discretionary}
use Rattle.etx_matter.specs.declared.node.InnerList.{fold_out-InnerList}
use Rattle.etx_matter.specs.declared.node.LigParts.{LigParts}
use Rattle.etx_matter.specs.declared.node.KernKind.TheVariants as kern
use Rattle.etx_matter.specs.Fonts.{FontState}
use Rattle.etx_matter.specs.Nests.{Depth, AreNested, IsNested, list_depth, list_nesting, node_depth, field_step, leader_step, noad_step, node_step, box_step, discretionary_step, inner_step, insertion_step, unset_step}
use Rattle.etx_matter.proofs.Nestings.{nested-append, nested-front, nested-back}
use Rattle.etx_tfm.specs.declared.piece.Neighbour.{Neighbour}
use Rattle.etx_tfm.specs.declared.piece.Neighbour.TheVariants.{Boundary}
use Rattle.etx_tfm.specs.declared.reading.Reading.{Reading}
use Rattle.etx_tfm.specs.Machine.{char_of, lig_of, size_of, number_at, kern_of}
use Rattle.etx_hyphen.specs.declared.cuts.Cut.{Cut}
use Rattle.etx_hyphen.specs.declared.cuts.Unbroken.{Unbroken}
use Rattle.etx_hyphen.specs.declared.cuts.WordEnds.{WordEnds}
use Rattle.etx_hyphen.specs.Bounds.{start_from, end_from}
use Rattle.etx_hyphen.specs.Cuts.{IsReading, hyphen_in, first_bound, last_bound, cut_between, cut_of, IsCut}
use Rattle.etx_pack.specs.Packs.{inner}
use Rattle.etx_hyphen.specs.Rebuilds.{AreCuts, replaced_by, disc_of, is_kept, kept_from, with_discs, unbroken_of, IsRebuilt}
use Rattle.etx_hyphen.specs.Rebuilds as rebuilds
use Rattle.etx_hyphen.proofs.Made.{Holds, reading_holds}

pub nested_none : AreNested []
unfolding AreNested list_depth
nested_none = refl

pub nested_alone : (node : Node) → IsNested node → AreNested (node ∷ [])
unfolding IsNested AreNested list_depth
nested_alone node h = omega (arith, h)

pub nested_drop : (n : ℕ) (nodes : List Node) → AreNested nodes → AreNested (drop n nodes)
nested_drop n nodes h = nested-back (take n nodes) (drop n nodes) (subst AreNested (sym (take-append-drop n nodes)) h)

pub nested_take : (n : ℕ) (nodes : List Node) → AreNested nodes → AreNested (take n nodes)
nested_take n nodes h = nested-front (take n nodes) (drop n nodes) (subst AreNested (sym (take-append-drop n nodes)) h)

flat_char : (font : FontState) (code : ℕ) → IsNested (char_of font code)
unfolding IsNested node_depth
flat_char font code =
    ap (λ (it : Depth). it.wrong)
    (fold-roll-Node Depth Depth Depth Depth Depth Depth Depth Depth Depth field_step leader_step noad_step node_step box_step discretionary_step inner_step insertion_step unset_step (Node-F.Char font.number code (size_of font.info code)))

flat_lig : (font : FontState) (code : ℕ) (parts : LigParts) → IsNested (lig_of font code parts)
unfolding IsNested node_depth
flat_lig font code parts =
    ap (λ (it : Depth). it.wrong)
    (fold-roll-Node Depth Depth Depth Depth Depth Depth Depth Depth Depth field_step leader_step noad_step node_step box_step discretionary_step inner_step insertion_step unset_step (Node-F.Lig font.number code (size_of font.info code) parts))

flat_of_kern : (font : FontState) (place : ℕ) → IsNested (kern_of font place)
unfolding IsNested node_depth
flat_of_kern font place =
    ap (λ (it : Depth). it.wrong)
    (fold-roll-Node Depth Depth Depth Depth Depth Depth Depth Depth Depth field_step leader_step noad_step node_step box_step discretionary_step inner_step insertion_step unset_step (Node-F.Kern (number_at font.info.kerns place) kern.Normal))

nested_holds : Holds AreNested
nested_holds = record {
  none = nested_none;
  both = λ xs ys h g. nested-append xs ys h g;
  char = λ font code. nested_alone (char_of font code) (flat_char font code);
  lig = λ font code parts. nested_alone (lig_of font code parts) (flat_lig font code parts);
  kern = λ font place. nested_alone (kern_of font place) (flat_of_kern font place);
}

pub reading_nested : (font : FontState) (chars : List ℕ) (left right : Neighbour) (reading : Reading) → IsReading font chars left right reading → AreNested reading.nodes
reading_nested font chars left right reading r = reading_holds AreNested nested_holds font chars left right reading r

cut_of_nested : (word : Unbroken) (place : ℕ) (left right : Reading) → AreNested left.nodes → AreNested right.nodes → AreNested (cut_of word place left right).pre × AreNested (cut_of word place left right).post
unfolding cut_of cut_between
cut_of_nested word place left right l r = (
  nested_drop (start_from left.places place first_bound word.places).part left.nodes l,
  nested_take (end_from right.places place (last_bound word (length right.nodes)) word.places).part right.nodes r,
)

pub cut_nested : (font : FontState) (hyphen : ℕ) (ends : WordEnds) (letters : List ℕ) (word : Unbroken) (place : ℕ) (cut : Cut) → IsCut font hyphen ends letters word place cut → AreNested cut.pre × AreNested cut.post
cut_nested font hyphen ends letters word place cut c =
    let both = cut_of_nested word place c.left c.right
    (reading_nested font (take place letters ++ hyphen_in font hyphen) ends.left Boundary c.left c.reads_left)
    (reading_nested font (drop place letters) Boundary ends.right c.right c.reads_right) in
    (subst (λ (it : Cut). AreNested it.pre) (sym c.is) both.0, subst (λ (it : Cut). AreNested it.post) (sym c.is) both.1)

disc_nested : (cut : Cut) → AreNested cut.pre → AreNested cut.post → IsNested (disc_of cut)
unfolding disc_of IsNested AreNested node_depth list_depth list_nesting
disc_nested cut a b =
    let disc : Discretionary = record { pre = inner cut.pre; post = inner cut.post; replaces = replaced_by cut } in
    let of_node = ap (λ (it : Depth). it.wrong) (fold-roll-Node Depth Depth Depth Depth Depth Depth Depth Depth Depth field_step leader_step noad_step node_step box_step discretionary_step inner_step insertion_step unset_step (Node-F.Disc disc)) in
    let of_disc = ap (λ (it : Depth). it.wrong) (fold_out-Discretionary Depth Depth Depth Depth Depth Depth Depth Depth Depth field_step leader_step noad_step node_step box_step discretionary_step inner_step insertion_step unset_step disc) in
    let of_pre = ap (λ (it : Depth). it.wrong) (fold_out-InnerList Depth Depth Depth Depth Depth Depth Depth Depth Depth field_step leader_step noad_step node_step box_step discretionary_step inner_step insertion_step unset_step (inner cut.pre)) in
    let of_post = ap (λ (it : Depth). it.wrong) (fold_out-InnerList Depth Depth Depth Depth Depth Depth Depth Depth Depth field_step leader_step noad_step node_step box_step discretionary_step inner_step insertion_step unset_step (inner cut.post)) in
    omega (arith, of_node, of_disc, of_pre, of_post, a, b)

nested_cons : (node : Node) (nodes : List Node) → IsNested node → AreNested nodes → AreNested (node ∷ nodes)
unfolding IsNested AreNested list_depth
nested_cons node nodes h g = omega (arith, h, g)

-- a run that is kept, or one that is dropped
by_kept : (b : Bool) (at : ℕ) (cut : Cut) (on off : List Cut) (nodes : List Node) → AreNested nodes → IsNested (disc_of cut)
    → AreNested (with_discs cut.start.unbroken on (drop (cut.start.unbroken - at) nodes)) → AreNested (with_discs at off nodes)
    → AreNested (with_discs at (if b then cut ∷ on else off) nodes)
unfolding with_discs
by_kept true at cut on off nodes h disc kept dropped =
    let n = cut.start.unbroken - at in
    let behind = with_discs cut.start.unbroken on (drop n nodes) in
    nested-append (take n nodes) (disc_of cut ∷ behind) (nested_take n nodes h) (nested_cons (disc_of cut) behind disc kept)
by_kept false at cut on off nodes h disc kept dropped = dropped

uncut_nested : (at : ℕ) (nodes : List Node) → AreNested nodes → AreNested (with_discs at [] nodes)
unfolding with_discs
uncut_nested at nodes h = h

cuts_nested : (font : FontState) (hyphen : ℕ) (ends : WordEnds) (letters : List ℕ) (word : Unbroken) (places : List ℕ) (cuts : List Cut)
    → AreCuts font hyphen ends letters word places cuts → (at end : ℕ) (nodes : List Node) → AreNested nodes → AreNested (with_discs at (kept_from end cuts) nodes)
unfolding kept_from
cuts_nested font hyphen ends letters word places cuts rebuilds.none at end nodes h = uncut_nested at nodes h
cuts_nested font hyphen ends letters word places cuts (rebuilds.more {place = place} {places = more} {cut = cut} {cuts = rest} c r) at end nodes h =
    let parts = cut_nested font hyphen ends letters word place cut c in
    by_kept (is_kept end cut) at cut (kept_from cut.end.letters rest) (kept_from end rest) nodes h (disc_nested cut parts.0 parts.1)
    (cuts_nested font hyphen ends letters word more rest r cut.start.unbroken cut.end.letters (drop (cut.start.unbroken - at) nodes) (nested_drop (cut.start.unbroken - at) nodes h))
    (cuts_nested font hyphen ends letters word more rest r at end nodes h)

pub rebuilt_nested : (font : FontState) (hyphen : ℕ) (ends : WordEnds) (letters places : List ℕ) (nodes : List Node) → IsRebuilt font hyphen ends letters places nodes → AreNested nodes
rebuilt_nested font hyphen ends letters places nodes h =
    subst AreNested (sym h.is)
    (cuts_nested font hyphen ends letters (unbroken_of letters h.unbroken) places h.cuts h.cut 0 0 h.unbroken.nodes
    (reading_nested font letters ends.left ends.right h.unbroken h.reads))

pub nested_both : (nodes tail more : List Node) → AreNested nodes → AreNested tail → more ≡ nodes ++ tail → AreNested more
nested_both nodes tail more h g e = subst AreNested (sym e) (nested-append nodes tail h g)

pub nested_more : (nodes : List Node) (node : Node) (more : List Node) → AreNested nodes → IsNested node → more ≡ nodes ++ node ∷ [] → AreNested more
nested_more nodes node more h g e = nested_both nodes (node ∷ []) more h (nested_alone node g) e

first_nested : (node : Node) (tail : List Node) → AreNested (node ∷ tail) → IsNested node
unfolding IsNested AreNested list_depth
first_nested node tail h = omega (arith, h)

tail_nested : (node : Node) (tail : List Node) → AreNested (node ∷ tail) → AreNested tail
unfolding IsNested AreNested list_depth
tail_nested node tail h = omega (arith, h)

pub nested_front_of : (nodes : List Node) (node : Node) (tail : List Node) (copy : Node) → AreNested nodes → nodes ≡ node ∷ tail → copy ≡ node → IsNested copy
nested_front_of nodes node tail copy h e c = subst IsNested (sym c) (first_nested node tail (subst AreNested e h))

pub nested_tail_of : (nodes : List Node) (node : Node) (tail : List Node) → AreNested nodes → nodes ≡ node ∷ tail → AreNested tail
nested_tail_of nodes node tail h e = tail_nested node tail (subst AreNested e h)
