-- What a write of the store or the stack does to the cells and the items.
use Rattle.std.proofs.Common.{◌≡◌, ℕ, zero, suc, ◌+◌, ◌-◌, ◌<◌, ◌≤◌, List, [], ◌∷◌, ◌++◌, length, take, reverse, Option, Some, None, Bool, true, false, add-one, slice_get, refl, sym, ◌∙◌, ap, subst, arith, if◌then◌else◌}
use Rattle.std.proofs.lemmas.List.{reverse-append, reverse-reverse, take-append-le, take_all, length-append}
use Rattle.etx_keys.specs.declared.key.Key.{Key}
use Rattle.etx_state.specs.declared.cell.Cell.{Cell}
use Rattle.etx_state.specs.declared.key.GroupKind.{GroupKind}
use Rattle.etx_state.specs.declared.cell.Item.{Item}
use Rattle.etx_state.specs.declared.cell.Item.TheVariants.{Undo, After, Begin}
use Rattle.etx_state.specs.declared.parts.Parts.{Parts}
use Rattle.etx_undo.specs.declared.state_mark.RestMark.{RestMark}
use Rattle.etx_undo.specs.declared.slot.Slot.{Slot}
use Rattle.etx_undo.specs.Slots as slots
use Rattle.etx_undo.specs.History.{Kept, present, IsSet}
use Rattle.etx_undo.specs.History as history
use Rattle.etx_undo.proofs.Histories.{IsSince-set, IsSince-back, present-back, at-place}
use Rattle.etx_stack.specs.Undoing.{Stacked}
use Rattle.etx_stack.specs.Undoing as undoing
use Rattle.etx_state.specs.Saves.{cell_or, cells_of, cells_at, items_of, items_at, back, left_of, depth_of, depth_after, put, Cells, CellsFit, ItemFits, ItemsFit, IsTied, IsWhole, IsSound, IsKeptIn, KeepsIn, top_of, tail_of, kind_in}
use Rattle.etx_state.proofs.Refine.{tied_back}
use Rattle.etx_state.proofs.Keys.{same_is, same_self}
use Rattle.etx_state.specs.Fits.{Fits}
use Rattle.etx_state.specs.Slots.{slot_of, same}
use Rattle.etx_matter.specs.declared.token.Token.{Token}

abbrev pub IsNoBegin : Item → Type 0
IsNoBegin i = (g : GroupKind) → i ≡ Begin g → ⊥

key_test : (k q : Key) → slots.same (slot_of k) (slot_of q) ≡ same k q
key_test k q = refl

pub cells_set : (old new : Parts) (k : Key) (w : Cell) → IsSet old.store new.store (slot_of k) w → cells_of new ≡ put (cells_of old) k w
unfolding cells_of
cells_set old new k w is = λ i q. at q i where
  by : (q : Key) (b : Bool) → cell_or q (if b then Some w else present old.store (slot_of q)) ≡ (if b then w else cell_or q (present old.store (slot_of q)))
  by q true = refl
  by q false = refl

  at : (q : Key) → cell_or q (present new.store (slot_of q)) ≡ put (cells_of old) k w q
  at q = ap (cell_or q) (is.now (slot_of q)) ∙ ap (λ (b : Bool). cell_or q (if b then Some w else present old.store (slot_of q))) (key_test k q) ∙ by q (same k q)

pub cells_same : (old new : Parts) → new.store ≡ old.store → cells_of new ≡ cells_of old
unfolding cells_of
cells_same old new e = ap (λ (s : Kept Cell). λ q. cell_or q (present s (slot_of q))) e

pub items_same : (old new : Parts) → new.stack.items ≡ old.stack.items → items_of new ≡ items_of old
unfolding items_of
items_same old new e = ap reverse e

-- the last item of a list is the first of the list turned round

pub cases : {A : Type 0} (P : List A → Type 0) → P [] → ((ys : List A) (x : A) → P (ys ++ x ∷ [])) → (xs : List A) → P xs
cases {A} P n s xs = subst P (reverse-reverse xs) (by (reverse xs)) where
  by : (zs : List A) → P (reverse zs)
  by [] = n
  by (z ∷ zs) = subst P (sym (reverse-append (z ∷ []) zs)) (s (reverse zs) z)

pub get_last : {A : Type 0} (ys : List A) (x : A) → slice_get (ys ++ x ∷ []) (length ys) ≡ Some x
get_last [] x = refl
get_last (y ∷ ys) x = get_last ys x

pub items_pushed : (old new : Parts) (i : Item) → new.stack.items ≡ old.stack.items ++ i ∷ [] → items_of new ≡ i ∷ items_of old
unfolding items_of
items_pushed old new i e = ap reverse e ∙ reverse-append old.stack.items (i ∷ [])

top_turned : (xs : List Item) → slice_get xs (length xs - 1) ≡ top_of (reverse xs)
top_turned = cases (λ xs. slice_get xs (length xs - 1) ≡ top_of (reverse xs)) refl (λ ys x.
    ap (slice_get (ys ++ x ∷ [])) (let e = length-append ys (x ∷ []) in omega arith) ∙ get_last ys x ∙ sym (ap top_of (reverse-append ys (x ∷ []))))

pub items_top_is : (s : Parts) → slice_get s.stack.items (length s.stack.items - 1) ≡ top_of (items_of s)
unfolding items_of
items_top_is s = top_turned s.stack.items

tail_turned : (xs : List Item) → reverse (take (length xs - 1) xs) ≡ tail_of (reverse xs)
tail_turned = cases (λ xs. reverse (take (length xs - 1) xs) ≡ tail_of (reverse xs)) refl (λ ys x.
    ap (λ (n : ℕ). reverse (take n (ys ++ x ∷ []))) (let e = length-append ys (x ∷ []) in omega arith)
    ∙ ap reverse (take-append-le (length ys) ys (x ∷ []) (omega arith) ∙ take_all (length ys) ys (omega arith))
    ∙ sym (ap tail_of (reverse-append ys (x ∷ []))))

pub items_dropped : (old new : Parts) → new.stack.items ≡ take (length old.stack.items - 1) old.stack.items → items_of new ≡ tail_of (items_of old)
unfolding items_of
items_dropped old new e = ap reverse e ∙ tail_turned old.stack.items

take_one : {A : Type 0} (xs : List A) (m : ℕ) (x : A) → slice_get xs m ≡ Some x → take (suc m) xs ≡ take m xs ++ x ∷ []
take_one [] m x e = absurd (cc)
take_one (y ∷ xs) zero x e = let h : y ≡ x = cc in ap (λ (z : _). z ∷ []) h
take_one (y ∷ xs) (suc m) x e = ap (λ (zs : List _). y ∷ zs) (take_one xs m x e)

depth_cons : (i : Item) (is : List Item) → depth_of (i ∷ is) ≡ depth_after i (depth_of is)
depth_cons (Undo k x) is = refl
depth_cons (After t) is = refl
depth_cons (Begin g) is = omega arith

after_least : (i : Item) (n : ℕ) → depth_after i 0 ≤ depth_after i n
after_least (Undo k x) n = omega arith
after_least (After t) n = omega arith
after_least (Begin g) n = omega arith

after_one : (i : Item) (n m : ℕ) → depth_after i n ≡ depth_after i m → n ≡ m
after_one (Undo k x) n m e = e
after_one (After t) n m e = e
after_one (Begin g) n m e = omega arith

pub left_undo : (i : List Token) (old now : List Item) (c c' : Cells) (k : Key) (x : Cell) → old ≡ Undo k x ∷ now → c' ≡ back (depth_of now) c k x
    → left_of i now c' ≡ left_of i old c
left_undo i old now c c' k x eo ec = ap (left_of i now) ec ∙ sym (ap (λ (is : List Item). left_of i is c) eo)

pub left_after : (i : List Token) (old now : List Item) (c : Cells) (t : Token) → old ≡ After t ∷ now → left_of (t ∷ i) now c ≡ left_of i old c
left_after i old now c t eo = sym (ap (λ (is : List Item). left_of i is c) eo)

pub items_top : (is : List Item) (i : Item) → top_of is ≡ Some i → is ≡ i ∷ tail_of is
items_top [] i e = absurd (cc)
items_top (j ∷ is) i e = cc

-- the depth with one item more, or one less

pub sound_by : (new : Parts) (is : List Item) (c : Cells) → items_of new ≡ is → cells_of new ≡ c → IsWhole new.depth is c → IsSound new
sound_by new is c ei ec h = record {
  counted = h.counted ∙ sym (ap depth_of ei);
  tied = subst (λ (is' : List Item). IsTied is' (cells_of new)) (sym ei) (subst (IsTied is) (sym ec) h.tied);
  cells = subst CellsFit (sym ec) h.cells;
  items = subst ItemsFit (sym ei) h.items;
}

fits_put : (c : Cells) (k : Key) (w : Cell) → CellsFit c → Fits k w.value → CellsFit (put c k w)
fits_put c k w h fit q = by (same k q) refl where
  by : (b : Bool) → same k q ≡ b → Fits q (if b then w else c q).value
  by true e = subst (λ (q' : Key). Fits q' w.value) (same_is k q e) fit
  by false e = h q

pub top_fits : (is : List Item) (k : Key) (x : Cell) → ItemsFit is → top_of is ≡ Some (Undo k x) → Fits k x.value
top_fits is k x h e = (subst ItemsFit (items_top is (Undo k x) e) h).0

tail_fits : (is : List Item) → ItemsFit is → ItemsFit (tail_of is)
tail_fits [] h = h
tail_fits (i ∷ is) h = h.1

-- a cell is put
pub whole_put : (d : ℕ) (is : List Item) (c : Cells) (k : Key) (w : Cell) → IsWhole d is c → IsTied is (put c k w) → Fits k w.value → IsWhole d is (put c k w)
whole_put d is c k w h t fit = record { counted = h.counted; tied = t; cells = fits_put c k w h.cells fit; items = h.items }

-- an item more
pub whole_push : (d n : ℕ) (is : List Item) (c : Cells) (i : Item) → n ≡ depth_after i d → IsWhole d is c → IsTied (i ∷ is) c → ItemFits i → IsWhole n (i ∷ is) c
whole_push d n is c i e h t fit = record {
  counted = e ∙ ap (depth_after i) h.counted ∙ sym (depth_cons i is);
  tied = t;
  cells = h.cells;
  items = (fit, h.items);
}

-- an item less
pub whole_drop : (d n : ℕ) (is : List Item) (c : Cells) (i : Item) → d ≡ depth_after i n → top_of is ≡ Some i → IsWhole d is c → IsTied (tail_of is) c → IsWhole n (tail_of is) c
whole_drop d n is c i e top h t = record {
  counted = after_one i n (depth_of (tail_of is)) (sym e ∙ h.counted ∙ ap depth_of (items_top is i top) ∙ depth_cons i _);
  tied = t;
  cells = h.cells;
  items = tail_fits is h.items;
}

pub top_deep : (s : Parts) (i : Item) → top_of (items_of s) ≡ Some i → IsSound s → depth_after i 0 ≤ s.depth
top_deep s i e sound = subst (λ (m : ℕ). depth_after i 0 ≤ m) (sym (sound.counted ∙ ap depth_of (items_top (items_of s) i e) ∙ depth_cons i _)) (after_least i _)

-- marks

pub keeps_set : (old new : Parts) (k : Slot) (w : Cell) → IsSet old.store new.store k w → new.stack ≡ old.stack → KeepsIn old new
unfolding IsKeptIn
keeps_set old new k w is e = λ m first kept. record {
  store = IsSince-set m.values.place first.store old.store new.store k w kept.store is;
  stack = subst (undoing.IsSince m.saves first.stack) (sym e) kept.stack;
  whole = kept.whole;
}

pub keeps_self : (old new : Parts) → new.store ≡ old.store → new.stack ≡ old.stack → KeepsIn old new
unfolding IsKeptIn
keeps_self old new es et = λ m first kept. record {
  store = subst (history.IsSince m.values.place first.store) (sym es) kept.store;
  stack = subst (undoing.IsSince m.saves first.stack) (sym et) kept.stack;
  whole = kept.whole;
}

pub keeps_stack : (old new : Parts) → new.store ≡ old.store → undoing.Keeps old.stack new.stack → KeepsIn old new
unfolding IsKeptIn
keeps_stack old new es keeps = λ m first kept. let now = keeps m.saves kept.stack.live in record {
  store = subst (history.IsSince m.values.place first.store) (sym es) kept.store;
  stack = record { live = now.live; same = now.same ∙ kept.stack.same };
  whole = kept.whole;
}

pub tied_end : (is : List Item) (c : Cells) (g : GroupKind) → IsTied is c → top_of is ≡ Some (Begin g) → IsTied (tail_of is) c
tied_end is c g t e = (subst (λ (is' : List Item). IsTied is' c) (items_top is _ e) t).1

pub tied_token : (is : List Item) (c : Cells) (u : Token) → IsTied is c → top_of is ≡ Some (After u) → IsTied (tail_of is) c
tied_token is c u t e = (subst (λ (is' : List Item). IsTied is' c) (items_top is _ e) t).1

pub tied_undone : (is : List Item) (c : Cells) (k : Key) (x : Cell) → IsTied is c → top_of is ≡ Some (Undo k x) → IsTied (tail_of is) (back (depth_of is) c k x)
tied_undone is c k x t e =
    let it = items_top is (Undo k x) e in
    let d : depth_of is ≡ depth_of (tail_of is) = ap depth_of it in
    subst (λ (n : ℕ). IsTied (tail_of is) (back n c k x)) (sym d) (subst (λ (is' : List Item). IsTied is' c) it t).1

pub tied_backed : (is : List Item) (c : Cells) (k : Key) (x : Cell) → IsTied is c → top_of is ≡ Some (Undo k x) → IsTied is (back (depth_of is) c k x)
tied_backed is c k x t e =
    let it = items_top is (Undo k x) e in
    subst (λ (is' : List Item). IsTied is' (back (depth_of is') c k x)) (sym it) (tied_back (tail_of is) c k x (subst (λ (is' : List Item). IsTied is' c) it t))

-- from the count down

pub kind_all : (s : Parts) (n : ℕ) → n ≡ length s.stack.items → kind_in (reverse (take n s.stack.items)) ≡ kind_in (items_of s)
unfolding items_of
kind_all s n e = ap (λ (xs : List Item). kind_in (reverse xs)) (take_all n s.stack.items (omega arith))

kind_step_by : (i : Item) (is : List Item) → IsNoBegin i → kind_in (i ∷ is) ≡ kind_in is
kind_step_by (Undo k x) is h = refl
kind_step_by (After t) is h = refl
kind_step_by (Begin g) is h = absurd (h g refl)

taken_one : (xs : List Item) (n m : ℕ) (i : Item) → n ≡ m + 1 → slice_get xs m ≡ Some i → reverse (take n xs) ≡ i ∷ reverse (take m xs)
taken_one xs n m i e at = ap (λ (k : ℕ). reverse (take k xs)) (e ∙ add-one m) ∙ ap reverse (take_one xs m i at) ∙ reverse-append (take m xs) (i ∷ [])

pub kind_here : (xs : List Item) (n m : ℕ) (g : GroupKind) → n ≡ m + 1 → slice_get xs m ≡ Some (Begin g) → Some g ≡ kind_in (reverse (take n xs))
kind_here xs n m g e i = sym (ap kind_in (taken_one xs n m (Begin g) e i))

pub kind_step : (xs : List Item) (n m : ℕ) (i : Item) → n ≡ m + 1 → slice_get xs m ≡ Some i → IsNoBegin i → kind_in (reverse (take m xs)) ≡ kind_in (reverse (take n xs))
kind_step xs n m i e at h = sym (ap kind_in (taken_one xs n m i e at) ∙ kind_step_by i _ h)
