-- What the calls on the store and the stack mean in the words on values.
use Rattle.std.proofs.Common.{◌≡◌, ◌≢◌, ℕ, ◌<◌, ◌≤◌, List, [], ◌∷◌, ◌++◌, reverse, Option, Some, None, length, refl, sym, ◌∙◌, ap, subst, arith}
use Rattle.etx_keys.specs.declared.key.Key.{Key}
use Rattle.etx_state.specs.declared.key.Val.{Val}
use Rattle.etx_state.specs.declared.cell.Cell.{Cell}
use Rattle.etx_state.specs.declared.key.GroupKind.{GroupKind}
use Rattle.etx_state.specs.declared.cell.Item.{Item}
use Rattle.etx_state.specs.declared.cell.Item.TheVariants.{Undo, After, Begin}
use Rattle.etx_state.specs.declared.parts.Parts.{Parts}
use Rattle.etx_undo.specs.declared.state_mark.RestMark.{RestMark}
use Rattle.etx_undo.specs.declared.slot.Slot.{Slot}
use Rattle.etx_undo.specs.History.{place, present, SameUpTo}
use Rattle.etx_undo.specs.History as history
use Rattle.etx_undo.proofs.Histories.{at-place, IsSince-self, IsSince-back, present-back}
use Rattle.etx_stack.specs.Undoing as undoing
use Rattle.etx_state.specs.Values.{Values, get, assign, assign_global, change, begin, ended, kind, after, noted, level, outermost}
use Rattle.etx_state.specs.Saves.{Cells, cell_or, cells_of, cells_at, items_of, items_at, put, depth_of, values, values_in, values_in_at, left_of, kind_in, IsTied, IsWhole, IsSound, IsKeptIn, IsBeforeIn}
use Rattle.etx_state.specs.Slots.{slot_of}
use Rattle.etx_state.specs.Fits.{Fits}
use Rattle.etx_state.specs.Initial.{first_of}
use Rattle.etx_state.proofs.Fitting.{first_fits}
use Rattle.etx_matter.specs.declared.token.Token.{Token}
use Rattle.etx_state.proofs.Refine.{values_global, values_begin, values_noted, values_here, values_saved, values_change, values_get, values_kind, values_ended, values_after, values_level, kind_values, level_le, tied_void, tied_change, tied_saved}
use Rattle.etx_state.proofs.Stored.{cells_same, items_same, sound_by}

of_here : (s : Parts) → values_in s ≡ values (items_of s) (cells_of s)
unfolding values_in
of_here s = refl

of_parts : (s : Parts) (is : List Item) (c : Cells) → items_of s ≡ is → cells_of s ≡ c → values_in s ≡ values is c
of_parts s is c ei ec = of_here s ∙ ap (λ (is' : List Item). values is' (cells_of s)) ei ∙ ap (values is) ec

-- of a call that leaves this stack and these cells
module _ (old new : Parts) (sound : IsSound old) where
  pub is_global : (k : Key) (w : Cell) → w.level ≡ 0 → items_of new ≡ items_of old → cells_of new ≡ put (cells_of old) k w → values_in new ≡ assign_global (values_in old) k w.value
  is_global k w e ei ec = of_parts new _ _ ei ec ∙ values_global _ _ k w sound.tied e ∙ ap (λ (m : Values). assign_global m k w.value) (sym (of_here old))

  pub is_change : (k : Key) (w : Cell) → w.level ≡ (cells_of old k).level → items_of new ≡ items_of old → cells_of new ≡ put (cells_of old) k w → values_in new ≡ change (values_in old) k w.value
  is_change k w e ei ec = of_parts new _ _ ei ec ∙ values_change _ _ k w sound.tied e ∙ ap (λ (m : Values). change m k w.value) (sym (of_here old))

  pub is_here : (k : Key) (w : Cell) → (cells_of old k).level ≡ old.depth → w.level ≡ old.depth → items_of new ≡ items_of old → cells_of new ≡ put (cells_of old) k w
      → values_in new ≡ assign (values_in old) k w.value
  is_here k w l e ei ec =
      let whole = sound in
      of_parts new _ _ ei ec ∙ values_here _ _ k w whole.tied (l ∙ whole.counted) (e ∙ whole.counted) ∙ ap (λ (m : Values). assign m k w.value) (sym (of_here old))

  pub is_saved : (k : Key) (w : Cell) → 0 < old.depth → w.level ≡ old.depth → items_of new ≡ Undo k (cells_of old k) ∷ items_of old → cells_of new ≡ put (cells_of old) k w
      → values_in new ≡ assign (values_in old) k w.value
  is_saved k w h e ei ec =
      let whole = sound in
      of_parts new _ _ ei ec ∙ values_saved _ _ k w (subst (λ (n : ℕ). 0 < n) whole.counted h) (e ∙ whole.counted) ∙ ap (λ (m : Values). assign m k w.value) (sym (of_here old))

  pub is_begun : (g : GroupKind) → items_of new ≡ Begin g ∷ items_of old → cells_of new ≡ cells_of old → values_in new ≡ begin (values_in old) g
  is_begun g ei ec = of_parts new _ _ ei ec ∙ values_begin _ _ g sound.tied ∙ ap (λ (m : Values). begin m g) (sym (of_here old))

  pub is_noted : (t : Token) → 0 < old.depth → items_of new ≡ After t ∷ items_of old → cells_of new ≡ cells_of old → values_in new ≡ noted (values_in old) t
  is_noted t h ei ec =
      of_parts new _ _ ei ec ∙ values_noted _ _ t (subst (λ (n : ℕ). 0 < n) sound.counted h) ∙ ap (λ (m : Values). noted m t) (sym (of_here old))

  pub is_ended : (i : List Token) → items_of new ≡ (left_of i (items_of old) (cells_of old)).items → cells_of new ≡ (left_of i (items_of old) (cells_of old)).cells → values_in new ≡ ended (values_in old)
  is_ended i ei ec = of_parts new _ _ ei ec ∙ values_ended _ _ i ∙ ap ended (sym (of_here old))

pub is_kind : (s : Parts) (i : List Token) → (left_of i (items_of s) (cells_of s)).kind ≡ kind (values_in s)
is_kind s i = values_kind _ _ i ∙ ap kind (sym (of_here s))

pub is_after : (s : Parts) (i : List Token) → IsSound s → (left_of i (items_of s) (cells_of s)).input ≡ after (values_in s) ++ i
is_after s i sound = values_after _ _ i sound.tied ∙ ap (λ (m : Values). after m ++ i) (sym (of_here s))

pub is_got : (s : Parts) (q : Key) → IsSound s → (cells_of s q).value ≡ get (values_in s) q
is_got s q sound = sym (ap (λ (m : Values). get m q) (of_here s) ∙ values_get _ _ q sound.tied)

pub is_level : (s : Parts) → IsSound s → s.depth ≡ level (values_in s)
is_level s sound = sound.counted ∙ values_level _ _ ∙ ap level (sym (of_here s))

pub is_unnoted : (s : Parts) (t : Token) → IsSound s → s.depth ≡ 0 → values_in s ≡ noted (values_in s) t
unfolding noted level
is_unnoted s t sound h = bottom (values_in s) (sym (is_level s sound) ∙ h) where
  bottom : (m : Values) → length m.groups ≡ 0 → m ≡ noted m t
  bottom m e = by m.groups e refl where
    by : (gs : List _) → length gs ≡ 0 → m.groups ≡ gs → m ≡ noted m t
    by [] e' h' = ap (λ gs. record { outer = m.outer; groups = gs }) h' ∙ sym (ap (λ gs. noted (record { outer = m.outer; groups = gs }) t) h')
    by (g ∷ gs) e' h' = absurd (omega arith)

-- marks

pub at_kept : (m : RestMark) (first s : Parts) → IsKeptIn m first s → values_in_at s m ≡ values_in_at first m
unfolding IsKeptIn values_in_at cells_at items_at
at_kept m first s h =
    ap (λ (is : List Item). values (reverse is) (cells_at s m)) h.stack.same
    ∙ ap (values (items_at first m)) (λ i q. cell_or q (h.store.same m.values.place (slot_of q) (omega arith) i))

module _ (old new : Parts) (m : RestMark) (ei : new.stack.items ≡ undoing.at old.stack m.saves) (ec : (q : Slot) → present new.store q ≡ history.at old.store m.values.place q) where
  back_items : items_of new ≡ items_at old m
  unfolding items_of items_at
  back_items = ap reverse ei

  back_cells : cells_of new ≡ cells_at old m
  unfolding cells_of cells_at
  back_cells = λ i q. cell_or q (ec (slot_of q) i)

  pub back_values : values_in new ≡ values_in_at old m
  unfolding values_in values_in_at
  back_values = ap (λ (is : List Item). values is (cells_of new)) back_items ∙ ap (values (items_at old m)) back_cells

  pub back_sound : IsKeptIn m old old → new.depth ≡ m.depth → IsSound new
  unfolding IsKeptIn
  back_sound h e = sound_by new _ _ back_items back_cells (subst (λ (d : ℕ). IsWhole d (items_at old m) (cells_at old m)) (sym e) h.whole)

pub back_kept : (old new : Parts) (n m : RestMark) (first : Parts) → place new.store ≡ m.values.place → SameUpTo m.values.place old.store new.store
    → ((k : _) → undoing.IsBefore k m.saves → undoing.IsLive k old.stack → undoing.IsSince k old.stack new.stack) → IsBeforeIn n m → IsKeptIn n first old → IsKeptIn n first new
unfolding IsKeptIn IsBeforeIn
back_kept old new n m first e same keeps before h = let now = keeps n.saves before.1 h.stack.live in record {
  store = IsSince-back n.values.place m.values.place first.store old.store new.store h.store before.0 e same;
  stack = record { live = now.live; same = now.same ∙ h.stack.same };
  whole = h.whole;
}

pub live_place : (m : RestMark) (first s : Parts) → IsKeptIn m first s → m.values.place ≤ place s.store
unfolding IsKeptIn
live_place m first s h = h.store.live

pub live_stack : (m : RestMark) (first s : Parts) → IsKeptIn m first s → undoing.IsLive m.saves s.stack
unfolding IsKeptIn
live_stack m first s h = h.stack.live

pub kept_live : (m : RestMark) (first s : Parts) → IsKeptIn m first s → IsKeptIn m s s
unfolding IsKeptIn items_at cells_at
kept_live m first s h =
    record {
      store = IsSince-self m.values.place s.store h.store.live;
      stack = record { live = h.stack.live; same = refl };
      whole = subst (λ (is : List Item). IsWhole m.depth is (cells_at s m)) (sym it) (subst (IsWhole m.depth (items_at first m)) (sym ct) h.whole);
    }
  where
    it : items_at s m ≡ items_at first m
    it = ap reverse h.stack.same

    ct : cells_at s m ≡ cells_at first m
    ct = λ i q. cell_or q (h.store.same m.values.place (slot_of q) (omega arith) i)

-- the value of a key at a mark
pub is_got_at : (s : Parts) (m : RestMark) (q : Key) → IsKeptIn m s s → (cells_at s m q).value ≡ get (values_in_at s m) q
unfolding IsKeptIn values_in_at
is_got_at s m q h = sym (values_get _ _ q h.whole.tied)

pub fits_at : (s : Parts) (m : RestMark) (q : Key) → IsKeptIn m s s → Fits q (cells_at s m q).value
unfolding IsKeptIn
fits_at s m q h = h.whole.cells q

-- a mark is taken
module _ (old new : Parts) (m : RestMark) (sound : IsSound old) (es : new.store ≡ old.store) (ei : new.stack.items ≡ old.stack.items) (ep : m.values.place ≡ place old.store) (ed : m.depth ≡ old.depth)
    (live : undoing.IsLive m.saves new.stack) (now : undoing.at new.stack m.saves ≡ new.stack.items) where
  marked_items : items_at new m ≡ items_of old
  unfolding items_at items_of
  marked_items = ap reverse (now ∙ ei)

  marked_cells : cells_at new m ≡ cells_of old
  unfolding cells_at cells_of
  marked_cells = λ i q. cell_or q ((ap (λ (s : history.Kept Cell). history.at s m.values.place (slot_of q)) es ∙ ap (λ (p : ℕ). history.at old.store p (slot_of q)) ep ∙ at-place old.store (slot_of q)) i)

  pub marked_same : values_in new ≡ values_in old
  unfolding values_in
  marked_same = ap (λ (is : List Item). values is (cells_of new)) (items_same old new ei) ∙ ap (values (items_of old)) (cells_same old new es)

  pub marked_values : values_in_at new m ≡ values_in new
  unfolding values_in_at values_in
  marked_values = both ∙ sym marked_same where
    both : values_in_at new m ≡ values_in old
    both = ap (λ (is : List Item). values is (cells_at new m)) marked_items ∙ ap (values (items_of old)) marked_cells

  pub marked_kept : IsKeptIn m new new
  unfolding IsKeptIn
  marked_kept = record {
    store = IsSince-self m.values.place new.store (subst (λ (s : history.Kept Cell). m.values.place ≤ place s) (sym es) (omega arith));
    stack = record { live = live; same = refl };
    whole = subst (λ (is : List Item). IsWhole m.depth is (cells_at new m)) (sym marked_items)
        (subst (IsWhole m.depth (items_of old)) (sym marked_cells) (subst (λ (d : ℕ). IsWhole d (items_of old) (cells_of old)) (sym ed) sound));
  }

-- what was is forgotten
module _ (old new : Parts) (ei : new.stack.items ≡ old.stack.items) (ec : (q : Slot) → present new.store q ≡ present old.store q) where
  forgot_cells : cells_of new ≡ cells_of old
  unfolding cells_of
  forgot_cells = λ i q. cell_or q (ec (slot_of q) i)

  pub forgot_values : values_in new ≡ values_in old
  unfolding values_in
  forgot_values = ap (λ (is : List Item). values is (cells_of new)) (items_same old new ei) ∙ ap (values (items_of old)) forgot_cells

  pub forgot_sound : new.depth ≡ old.depth → IsSound old → IsSound new
  forgot_sound e sound = sound_by new _ _ (items_same old new ei) forgot_cells (subst (λ (d : ℕ). IsWhole d (items_of old) (cells_of old)) (sym e) sound)

-- nothing yet
module _ (s : Parts) (ei : s.stack.items ≡ []) (ec : (q : Slot) → present s.store q ≡ None) where
  new_items : items_of s ≡ []
  unfolding items_of
  new_items = ap reverse ei

  new_cells : cells_of s ≡ (λ q. record { value = first_of q; level = 0 })
  unfolding cells_of
  new_cells = λ i q. cell_or q (ec (slot_of q) i)

  pub sound_new : s.depth ≡ 0 → IsSound s
  sound_new e = sound_by s _ _ new_items new_cells (record { counted = e; tied = λ q. refl; cells = first_fits; items = tt })

  pub values_new : values_in s ≡ outermost first_of
  unfolding values_in values
  values_new = ap (λ (is : List Item). values is (cells_of s)) new_items ∙ ap (values []) new_cells

-- the stack, before and after

pub ties_saved : (s : Parts) (k : Key) → IsSound s → (cells_of s k).level ≢ s.depth → IsTied (Undo k (cells_of s k) ∷ items_of s) (cells_of s)
ties_saved s k sound n =
    let whole = sound in
    let le = level_le _ _ whole.tied k in
    let n' : (cells_of s k).level ≢ depth_of (items_of s) = λ e. n (e ∙ sym whole.counted) in
    tied_void _ _ k _ whole.tied (omega arith) n'

pub deep : (s : Parts) (k : Key) → IsSound s → (cells_of s k).level ≢ s.depth → 0 < s.depth
deep s k sound n =
    let whole = sound in
    let le = level_le _ _ whole.tied k in
    let c = whole.counted in
    omega arith

pub ties_here : (s : Parts) (k : Key) (w : Cell) → IsSound s → (cells_of s k).level ≡ s.depth → w.level ≡ s.depth → IsTied (items_of s) (put (cells_of s) k w)
ties_here s k w sound l e = tied_change _ _ k w (e ∙ sym l) sound.tied

pub ties_over : (old now : Parts) (k : Key) (w : Cell) → IsSound old → (cells_of old k).level ≢ old.depth → w.level ≡ old.depth
    → items_of now ≡ Undo k (cells_of old k) ∷ items_of old → cells_of now ≡ cells_of old → IsTied (items_of now) (put (cells_of now) k w)
ties_over old now k w sound n e ei ec =
    let whole = sound in
    subst (λ (is : List Item). IsTied is (put (cells_of now) k w)) (sym ei)
    (subst (λ (c : Cells). IsTied (Undo k (cells_of old k) ∷ items_of old) (put c k w)) (sym ec)
    (tied_saved (items_of old) (cells_of old) k w whole.tied (λ e'. n (e' ∙ sym whole.counted)) (e ∙ whole.counted)))

pub is_kind_in : (s : Parts) → kind_in (items_of s) ≡ kind (values_in s)
is_kind_in s = kind_values _ _ ∙ ap kind (sym (of_here s))

pub fits_held : (s : Parts) (q : Key) → IsSound s → Fits q (cells_of s q).value
fits_held s q sound = sound.cells q

-- a mark that was taken earlier stands before this one
pub before_marked : (s : Parts) (m n : RestMark) (first : Parts) → n.values.place ≡ place s.store → ((k : _) → undoing.IsLive k s.stack → undoing.IsBefore k n.saves) → IsKeptIn m first s → IsBeforeIn m n
unfolding IsBeforeIn
before_marked s m n first e last h = (subst (λ (p : ℕ). m.values.place ≤ p) (sym e) (live_place m first s h), last m.saves (live_stack m first s h))
