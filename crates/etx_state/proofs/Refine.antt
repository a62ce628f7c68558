-- The cells with levels and the stack of saved items stand for a list of maps.
use Rattle.std.proofs.Common.{◌≡◌, ◌≢◌, ℕ, zero, suc, ◌-◌, ◌<◌, ◌≤◌, ◌==◌, List, [], ◌∷◌, ◌++◌, Option, Some, None, Bool, true, false, refl, sym, ◌∙◌, ap, subst, arith, if◌then◌else◌, unwrap_or, length, ⊎_elim}
use Rattle.std.proofs.lemmas.Bool.Decides.{nat_tests}
use Rattle.std.proofs.Math.Nat.{eq-or-lt_of_le}
use Rattle.etx_keys.specs.declared.key.Key.{Key}
use Rattle.etx_state.specs.declared.key.Val.{Val}
use Rattle.etx_state.specs.declared.key.GroupKind.{GroupKind}
use Rattle.etx_state.specs.declared.cell.Cell.{Cell}
use Rattle.etx_state.specs.declared.cell.Item.{Item}
use Rattle.etx_state.specs.declared.cell.Item.TheVariants.{Undo, After, Begin}
use Rattle.etx_state.specs.Slots.{same}
use Rattle.etx_state.specs.Values.{inside, outermost, with_outer, with_key, without_key, put_in, by_has, change_at, get, assign, assign_global, change, begin, ended, kind, after, noted, level}
use Rattle.etx_state.specs.Saves.{Cells, put, back, depth_of, map_at, maps, values, IsTied, left_of, kind_in}
use Rattle.etx_state.proofs.Keys.{same_is, same_self}
use Rattle.etx_matter.specs.declared.token.Token.{Token}

eq_test : (a b : ℕ) → a ≡ b → (a == b) ≡ true
eq_test a b h = grind (arith, nat_tests)

ne_test : (a b : ℕ) → a ≢ b → (a == b) ≡ false
ne_test a b h = grind (arith, nat_tests)

-- a test, with what it says
tested : {C : Type 0} (b : Bool) → (b ≡ true → C) → (b ≡ false → C) → C
tested true f g = f refl
tested false f g = g refl

no : {C : Type 0} (b : Bool) → b ≡ true → b ≡ false → C
no b e f = absurd (cc)

same_false : (k j : Key) → same k j ≡ false → same j k ≡ false
same_false k j h = tested (same j k) (λ e. no (same k j) (subst (λ (k' : Key). same k' j ≡ true) (same_is j k e) (same_self j)) h) (λ e. e)

-- puts

put_at : (c : Cells) (k q : Key) (x : Cell) → same k q ≡ true → put c k x q ≡ x
put_at c k q x h = ap (λ (b : Bool). if b then x else c q) h

put_off : (c : Cells) (k q : Key) (x : Cell) → same k q ≡ false → put c k x q ≡ c q
put_off c k q x h = ap (λ (b : Bool). if b then x else c q) h

twice : {A : Type 0} (b : Bool) (x y z : A) → (if b then y else (if b then x else z)) ≡ (if b then y else z)
twice true x y z = refl
twice false x y z = refl

put_twice : (c : Cells) (k : Key) (x y : Cell) → put (put c k x) k y ≡ put c k y
put_twice c k x y = λ i q. twice (same k q) x y (c q) i

put_twice_at : (c : Cells) (k j : Key) (x y : Cell) → same k j ≡ true → put (put c k x) j y ≡ put c j y
put_twice_at c k j x y h = ap (λ (k' : Key). put (put c k' x) j y) (same_is k j h) ∙ put_twice c j x y

put_back : (c : Cells) (k : Key) (x : Cell) → put (put c k x) k (c k) ≡ c
put_back c k x = λ i q. at q i where
  at : (q : Key) → put (put c k x) k (c k) q ≡ c q
  at q = tested (same k q)
      (λ h. put_at (put c k x) k q (c k) h ∙ ap c (same_is k q h))
      (λ h. put_off (put c k x) k q (c k) h ∙ put_off c k q x h)

put_apart : (c : Cells) (k j : Key) (x y : Cell) → same k j ≡ false → put (put c k x) j y ≡ put (put c j y) k x
put_apart c k j x y h = λ i q. at q i where
  at : (q : Key) → put (put c k x) j y q ≡ put (put c j y) k x q
  at q = tested (same j q)
      (λ hj.
      let hk : same k q ≡ false = subst (λ (q' : Key). same k q' ≡ false) (same_is j q hj) h in
      put_at (put c k x) j q y hj ∙ sym (put_off (put c j y) k q x hk ∙ put_at c j q y hj))
      (λ hj. put_off (put c k x) j q y hj ∙ ap (λ (z : Cell). if same k q then x else z) (sym (put_off c j q y hj)))

-- goings back

pub back_here : (d : ℕ) (c : Cells) (k : Key) (x : Cell) → (c k).level ≡ d → back d c k x ≡ put c k x
back_here d c k x h = ap (λ (b : Bool). if b then put c k x else c) (eq_test _ d h)

pub back_other : (d : ℕ) (c : Cells) (k : Key) (x : Cell) → (c k).level ≢ d → back d c k x ≡ c
back_other d c k x h = ap (λ (b : Bool). if b then put c k x else c) (ne_test (c k).level d h)

back_off : (d : ℕ) (c : Cells) (j q : Key) (x : Cell) → same j q ≡ false → back d c j x q ≡ c q
back_off d c j q x h = by ((c j).level == d) where
  by : (b : Bool) → (if b then put c j x else c) q ≡ c q
  by true = put_off c j q x h
  by false = refl

back_apart : (d : ℕ) (c : Cells) (k j : Key) (w x : Cell) → same k j ≡ false → back d (put c k w) j x ≡ put (back d c j x) k w
back_apart d c k j w x h = ap (λ (z : Cell). if z.level == d then put (put c k w) j x else put c k w) (put_off c k j w h) ∙ by ((c j).level == d) where
  by : (b : Bool) → (if b then put (put c k w) j x else put c k w) ≡ put (if b then put c j x else c) k w
  by true = put_apart c k j w x h
  by false = refl

-- over a value of the group's level
back_over : (d : ℕ) (c : Cells) (k j : Key) (w x : Cell) → same k j ≡ true → (c k).level ≡ d → w.level ≡ d → back d (put c k w) j x ≡ back d c j x
back_over d c k j w x h l e =
    back_here d (put c k w) j x (ap (λ (z : Cell). z.level) (put_at c k j w h) ∙ e)
    ∙ put_twice_at c k j w x h
    ∙ sym (back_here d c j x (ap (λ (q : Key). (c q).level) (sym (same_is k j h)) ∙ l))

-- over a value of another level
back_beside : (d : ℕ) (c : Cells) (k j : Key) (w x : Cell) → w.level ≢ d → back d (put c k w) j x ≡ put (back d c j x) k w
back_beside d c k j w x n = tested (same k j)
    (λ h.
    back_other d (put c k w) j x (subst (λ (z : Cell). z.level ≢ d) (sym (put_at c k j w h)) n)
    ∙ sym (ap (λ (j' : Key). put (back d c j' x) k w) (sym (same_is k j h)) ∙ by ((c k).level == d)))
    (back_apart d c k j w x)
  where
    by : (b : Bool) → put (if b then put c k x else c) k w ≡ put c k w
    by true = put_twice c k x w
    by false = refl

-- a key below the group's level is not put back
back_below : (d : ℕ) (c : Cells) (j q : Key) (x : Cell) → (c q).level ≢ d → back d c j x q ≡ c q
back_below d c j q x n = tested (same j q)
    (λ s. ap (λ (c' : Cells). c' q) (back_other d c j x (subst (λ (k : Key). (c k).level ≢ d) (sym (same_is j q s)) n)))
    (back_off d c j q x)

-- levels

pub level_le : (is : List Item) (c : Cells) → IsTied is c → (q : Key) → (c q).level ≤ depth_of is
level_le [] c t q = omega (arith, t q)
level_le (Undo k x ∷ is) c t q = tested ((c q).level == depth_of is)
    (λ h. let e : (c q).level ≡ depth_of is = grind (arith, nat_tests) in omega arith)
    (λ h.
    let n : (c q).level ≢ depth_of is = (λ e. no _ (eq_test _ _ e) h) in
    subst (λ (z : Cell). z.level ≤ depth_of is) (back_below (depth_of is) c k q x n) (level_le is (back (depth_of is) c k x) t.1 q))
level_le (After u ∷ is) c t q = level_le is c t.1 q
level_le (Begin g ∷ is) c t q = omega (arith, t.0 q)

back_levels : (d : ℕ) (c c' : Cells) (k : Key) (x : Cell) → ((q : Key) → (c q).level ≡ (c' q).level) → (q : Key) → (back d c k x q).level ≡ (back d c' k x q).level
back_levels d c c' k x e q = ap (λ (n : ℕ). ((if n == d then put c k x else c) q).level) (e k) ∙ by ((c' k).level == d) where
  in_put : (b : Bool) → (if b then x else c q).level ≡ (if b then x else c' q).level
  in_put true = refl
  in_put false = e q

  by : (b : Bool) → ((if b then put c k x else c) q).level ≡ ((if b then put c' k x else c') q).level
  by true = in_put (same k q)
  by false = e q

-- only the levels matter
tied_levels : (is : List Item) (c c' : Cells) → ((q : Key) → (c q).level ≡ (c' q).level) → IsTied is c → IsTied is c'
tied_levels [] c c' e t = λ q. sym (e q) ∙ t q
tied_levels (Undo k x ∷ is) c c' e t = (t.0, tied_levels is _ _ (back_levels (depth_of is) c c' k x e) t.1)
tied_levels (After u ∷ is) c c' e t = (t.0, tied_levels is c c' e t.1)
tied_levels (Begin g ∷ is) c c' e t = (λ q. subst (λ (n : ℕ). n ≤ depth_of is) (e q) (t.0 q), tied_levels is c c' e t.1)

put_levels : (c : Cells) (k : Key) (w : Cell) → w.level ≡ (c k).level → (q : Key) → (c q).level ≡ (put c k w q).level
put_levels c k w e q = tested (same k q)
    (λ h. ap (λ (k' : Key). (c k').level) (sym (same_is k q h)) ∙ sym e ∙ sym (ap (λ (z : Cell). z.level) (put_at c k q w h)))
    (λ h. sym (ap (λ (z : Cell). z.level) (put_off c k q w h)))

pub tied_change : (is : List Item) (c : Cells) (k : Key) (w : Cell) → w.level ≡ (c k).level → IsTied is c → IsTied is (put c k w)
tied_change is c k w e t = tied_levels is c (put c k w) (put_levels c k w e) t

pub tied_global : (is : List Item) (c : Cells) (k : Key) (w : Cell) → w.level ≡ 0 → IsTied is c → IsTied is (put c k w)
tied_global [] c k w e t = λ q. in_put q (same k q) where
  in_put : (q : Key) (b : Bool) → (if b then w else c q).level ≡ 0
  in_put q true = e
  in_put q false = t q
tied_global (Undo j x ∷ is) c k w e t =
    (t.0, subst (IsTied is) (sym (back_beside (depth_of is) c k j w x (λ e'. let lt = t.0 in omega arith))) (tied_global is (back (depth_of is) c j x) k w e t.1))
tied_global (After u ∷ is) c k w e t = (t.0, tied_global is c k w e t.1)
tied_global (Begin g ∷ is) c k w e t = (λ q. in_put q (same k q), tied_global is c k w e t.1) where
  in_put : (q : Key) (b : Bool) → (if b then w else c q).level ≤ depth_of is
  in_put q true = omega (arith, e)
  in_put q false = t.0 q

-- an item for a key that is not at the group's level does nothing
pub tied_void : (is : List Item) (c : Cells) (k : Key) (x : Cell) → IsTied is c → x.level < depth_of is → (c k).level ≢ depth_of is → IsTied (Undo k x ∷ is) c
tied_void is c k x t h n = (h, subst (IsTied is) (sym (back_other (depth_of is) c k x n)) t)

pub values_void : (is : List Item) (c : Cells) (k : Key) (x : Cell) → (c k).level ≢ depth_of is → values (Undo k x ∷ is) c ≡ values is c
unfolding values
values_void is c k x n = ap (maps (map_at (depth_of is) c) [] is) (back_other (depth_of is) c k x n)

-- an item whose key was put back does nothing
pub tied_back : (is : List Item) (c : Cells) (k : Key) (x : Cell) → IsTied (Undo k x ∷ is) c → IsTied (Undo k x ∷ is) (back (depth_of is) c k x)
tied_back is c k x t = tied_void is (back (depth_of is) c k x) k x t.1 t.0 (tested ((c k).level == depth_of is)
    (λ h. let e : (c k).level ≡ depth_of is = grind (arith, nat_tests) in
    subst (λ (z : Cell). z.level ≢ depth_of is) (sym (ap (λ (c' : Cells). c' k) (back_here (depth_of is) c k x e) ∙ put_at c k k x (same_self k))) (λ e'. let lt = t.0 in omega arith))
    (λ h. let n : (c k).level ≢ depth_of is = (λ e. no _ (eq_test _ _ e) h) in
    subst (λ (z : Cell). z.level ≢ depth_of is) (sym (back_below (depth_of is) c k k x n)) n))

-- the map of a group, when a cell changes

if_value : (b : Bool) (x y : Cell) → (if b then x else y).value ≡ (if b then x.value else y.value)
if_value true x y = refl
if_value false x y = refl

outer_put : (c : Cells) (k : Key) (w : Cell) → outermost (λ q. (put c k w q).value) ≡ outermost (with_outer (λ q. (c q).value) k w.value)
outer_put c k w = λ i. outermost (λ q. if_value (same k q) w (c q) i)

abbrev seen : ℕ → Cell → Option Val
seen d z = if z.level == suc d then Some z.value else None

seen_at : (d : ℕ) (z : Cell) → z.level ≡ suc d → seen d z ≡ Some z.value
seen_at d z e = ap (λ (b : Bool). if b then Some z.value else None) (eq_test _ _ e)

seen_off : (d : ℕ) (z : Cell) → z.level ≢ suc d → seen d z ≡ None
seen_off d z e = ap (λ (b : Bool). if b then Some z.value else None) (ne_test _ _ e)

map_put : (d : ℕ) (c : Cells) (k : Key) (w : Cell) → w.level ≡ suc d → map_at (suc d) (put c k w) ≡ with_key (map_at (suc d) c) k w.value
map_put d c k w e = λ i q. by q (same k q) i where
  by : (q : Key) (b : Bool) → seen d (if b then w else c q) ≡ (if b then Some w.value else seen d (c q))
  by q true = seen_at d w e
  by q false = refl

map_global : (d : ℕ) (c : Cells) (k : Key) (w : Cell) → w.level ≡ 0 → map_at d (put c k w) ≡ without_key (map_at d c) k
map_global zero c k w e = λ i q. by (same k q) i where
  by : (b : Bool) → (let n : Option Val = None in n) ≡ (if b then None else None)
  by true = refl
  by false = refl
map_global (suc d) c k w e = λ i q. by q (same k q) i where
  by : (q : Key) (b : Bool) → seen d (if b then w else c q) ≡ (if b then None else seen d (c q))
  by q true = seen_off d w (λ e'. omega arith)
  by q false = refl

-- a change below the group's level
map_below : (d : ℕ) (c : Cells) (k : Key) (w : Cell) → w.level ≡ (c k).level → (c k).level < d → map_at d (put c k w) ≡ map_at d c
map_below zero c k w e h = absurd (omega arith)
map_below (suc d) c k w e h = λ i q. by q i where
  by : (q : Key) → seen d (put c k w q) ≡ seen d (c q)
  by q = tested (same k q)
      (λ s. ap (seen d) (put_at c k q w s) ∙ seen_off d w (λ e'. omega arith) ∙ sym (ap (λ (q' : Key). seen d (c q')) (sym (same_is k q s)) ∙ seen_off d (c k) (λ e'. omega arith)))
      (λ s. ap (seen d) (put_off c k q w s))

map_none : (d : ℕ) (c : Cells) (k : Key) → (c k).level < d → map_at d c k ≡ None
map_none zero c k h = absurd (omega arith)
map_none (suc d) c k h = seen_off d (c k) (λ e. omega arith)

-- the innermost group

top_put : (e : ℕ) (is : List Item) (c : Cells) (m : Key → Option Val) (a : List Token) (k : Key) (v : Val) → depth_of is ≡ suc e
    → maps (with_key m k v) a is c ≡ assign (maps m a is c) k v
unfolding assign
top_put e [] c m a k v h = absurd (omega arith)
top_put e (Undo j x ∷ is) c m a k v h = top_put e is (back (depth_of is) c j x) m a k v h
top_put e (After u ∷ is) c m a k v h = top_put e is c m (u ∷ a) k v h
top_put e (Begin g ∷ is) c m a k v h = refl

top_change : (e : ℕ) (is : List Item) (c : Cells) (m : Key → Option Val) (a : List Token) (k : Key) (u v : Val) → depth_of is ≡ suc e → m k ≡ Some u
    → maps (with_key m k v) a is c ≡ change (maps m a is c) k v
unfolding change
top_change e [] c m a k u v h s = absurd (omega arith)
top_change e (Undo j x ∷ is) c m a k u v h s = top_change e is (back (depth_of is) c j x) m a k u v h s
top_change e (After t ∷ is) c m a k u v h s = top_change e is c m (t ∷ a) k u v h s
top_change e (Begin g ∷ is) c m a k u v h s =
    let r = maps (map_at (depth_of is) c) [] is c in
    sym (ap (λ (o : Option Val). by_has o (record { outer = r.outer; groups = put_in (record { kind = g; after = a; map = m }) k v ∷ r.groups }) (inside (record { kind = g; after = a; map = m }) (change_at r.outer r.groups k v))) s)

top_noted : (e : ℕ) (is : List Item) (c : Cells) (m : Key → Option Val) (a : List Token) (t : Token) → depth_of is ≡ suc e
    → maps m (a ++ t ∷ []) is c ≡ noted (maps m a is c) t
unfolding noted
top_noted e [] c m a t h = absurd (omega arith)
top_noted e (Undo j x ∷ is) c m a t h = top_noted e is (back (depth_of is) c j x) m a t h
top_noted e (After u ∷ is) c m a t h = top_noted e is c m (u ∷ a) t h
top_noted e (Begin g ∷ is) c m a t h = refl

-- a local value at the group's level changes nothing below
maps_over : (is : List Item) (c : Cells) (m : Key → Option Val) (a : List Token) (k : Key) (w : Cell) → IsTied is c → 0 < depth_of is → (c k).level ≡ depth_of is → w.level ≡ depth_of is
    → maps m a is (put c k w) ≡ maps m a is c
maps_over [] c m a k w t h l e = absurd (omega arith)
maps_over (Undo j x ∷ is) c m a k w t h l e = tested (same k j)
    (λ s. ap (maps m a is) (back_over (depth_of is) c k j w x s l e))
    (λ s.
    let lev = ap (λ (z : Cell). z.level) (back_off (depth_of is) c j k x (same_false k j s)) in
    ap (maps m a is) (back_apart (depth_of is) c k j w x s) ∙ maps_over is (back (depth_of is) c j x) m a k w t.1 h (lev ∙ l) e)
maps_over (After u ∷ is) c m a k w t h l e = maps_over is c m (u ∷ a) k w t.1 h l e
maps_over (Begin g ∷ is) c m a k w t h l e = absurd (omega (arith, t.0 k))

-- THE REFINEMENT, word for word

maps_global : (is : List Item) (c : Cells) (m : Key → Option Val) (a : List Token) (k : Key) (w : Cell) → IsTied is c → w.level ≡ 0
    → maps (without_key m k) a is (put c k w) ≡ assign_global (maps m a is c) k w.value
unfolding assign_global
maps_global [] c m a k w t e = outer_put c k w
maps_global (Undo j x ∷ is) c m a k w t e = ap (maps (without_key m k) a is) (back_beside (depth_of is) c k j w x (λ e'. let lt = t.0 in omega arith)) ∙ maps_global is (back (depth_of is) c j x) m a k w t.1 e
maps_global (After u ∷ is) c m a k w t e = maps_global is c m (u ∷ a) k w t.1 e
maps_global (Begin g ∷ is) c m a k w t e =
    ap (inside (record { kind = g; after = a; map = without_key m k })) (ap (λ (m' : Key → Option Val). maps m' [] is (put c k w)) (map_global (depth_of is) c k w e) ∙ maps_global is c (map_at (depth_of is) c) [] k w t.1 e)

pub values_global : (is : List Item) (c : Cells) (k : Key) (w : Cell) → IsTied is c → w.level ≡ 0 → values is (put c k w) ≡ assign_global (values is c) k w.value
unfolding values
values_global is c k w t e = ap (λ (m : Key → Option Val). maps m [] is (put c k w)) (map_global (depth_of is) c k w e) ∙ maps_global is c (map_at (depth_of is) c) [] k w t e

pub values_begin : (is : List Item) (c : Cells) (g : GroupKind) → IsTied is c → values (Begin g ∷ is) c ≡ begin (values is c) g
unfolding values begin
values_begin is c g t = ap (λ (m : Key → Option Val). inside (record { kind = g; after = []; map = m }) (maps (map_at (depth_of is) c) [] is c)) none where
  none : map_at (suc (depth_of is)) c ≡ (λ q. None)
  none = λ i q. map_none (suc (depth_of is)) c q (omega (arith, level_le is c t q)) i

pub tied_begin : (is : List Item) (c : Cells) (g : GroupKind) → IsTied is c → IsTied (Begin g ∷ is) c
tied_begin is c g t = (λ q. level_le is c t q, t)

pub values_noted : (is : List Item) (c : Cells) (u : Token) → 0 < depth_of is → values (After u ∷ is) c ≡ noted (values is c) u
unfolding values
values_noted is c u h = top_noted (depth_of is - 1) is c (map_at (depth_of is) c) [] u (omega arith)

-- nothing stands below level 0
tied_bottom : (P : List Item → Type 0) (is : List Item) (c : Cells) → depth_of is ≡ 0 → IsTied is c → P [] → P is
tied_bottom P [] c e t p = p
tied_bottom P (Undo k x ∷ is) c e t p = let lt = t.0 in absurd (omega arith)
tied_bottom P (After u ∷ is) c e t p = let lt = t.0 in absurd (omega arith)
tied_bottom P (Begin g ∷ is) c e t p = absurd (omega arith)

-- an assignment at the cell's own level
pub values_here : (is : List Item) (c : Cells) (k : Key) (w : Cell) → IsTied is c → (c k).level ≡ depth_of is → w.level ≡ depth_of is
    → values is (put c k w) ≡ assign (values is c) k w.value
unfolding values assign
values_here is c k w t l e = by (depth_of is) refl where
  bottom : values [] (put c k w) ≡ assign (values [] c) k w.value
  bottom = outer_put c k w

  by : (d : ℕ) → depth_of is ≡ d → values is (put c k w) ≡ assign (values is c) k w.value
  by zero h = tied_bottom (λ is'. values is' (put c k w) ≡ assign (values is' c) k w.value) is c h t bottom
  by (suc d) h =
      ap (λ (n : ℕ). maps (map_at n (put c k w)) [] is (put c k w)) h
      ∙ ap (λ (m : Key → Option Val). maps m [] is (put c k w)) (map_put d c k w (e ∙ h))
      ∙ maps_over is c (with_key (map_at (suc d) c) k w.value) [] k w t (omega arith) l e
      ∙ top_put d is c (map_at (suc d) c) [] k w.value h
      ∙ ap (λ (n : ℕ). assign (maps (map_at n c) [] is c) k w.value) (sym h)

-- an assignment that saves what the cell was
pub values_saved : (is : List Item) (c : Cells) (k : Key) (w : Cell) → 0 < depth_of is → w.level ≡ depth_of is
    → values (Undo k (c k) ∷ is) (put c k w) ≡ assign (values is c) k w.value
unfolding values
values_saved is c k w h e = by (depth_of is) refl where
  undone : back (depth_of is) (put c k w) k (c k) ≡ c
  undone = back_here (depth_of is) (put c k w) k (c k) (ap (λ (z : Cell). z.level) (put_at c k k w (same_self k)) ∙ e) ∙ put_back c k w

  by : (d : ℕ) → depth_of is ≡ d → values (Undo k (c k) ∷ is) (put c k w) ≡ assign (values is c) k w.value
  by zero h' = absurd (omega arith)
  by (suc d) h' =
      ap (maps (map_at (depth_of is) (put c k w)) [] is) undone
      ∙ ap (λ (n : ℕ). maps (map_at n (put c k w)) [] is c) h'
      ∙ ap (λ (m : Key → Option Val). maps m [] is c) (map_put d c k w (e ∙ h'))
      ∙ top_put d is c (map_at (suc d) c) [] k w.value h'
      ∙ ap (λ (n : ℕ). assign (maps (map_at n c) [] is c) k w.value) (sym h')

pub tied_saved : (is : List Item) (c : Cells) (k : Key) (w : Cell) → IsTied is c → (c k).level ≢ depth_of is → w.level ≡ depth_of is
    → IsTied (Undo k (c k) ∷ is) (put c k w)
tied_saved is c k w t ne e =
    let le = level_le is c t k in
    (omega arith, subst (IsTied is) (sym (back_here (depth_of is) (put c k w) k (c k) (ap (λ (z : Cell). z.level) (put_at c k k w (same_self k)) ∙ e) ∙ put_back c k w)) t)

pub tied_here : (is : List Item) (c : Cells) (k : Key) (w : Cell) → IsTied is c → (c k).level ≡ depth_of is → w.level ≡ depth_of is → IsTied is (put c k w)
tied_here is c k w t l e = tied_change is c k w (e ∙ sym l) t

-- a change in place

changed_at : (is : List Item) (c : Cells) (k : Key) (w : Cell) → IsTied is c → w.level ≡ (c k).level
    → ((m : Key → Option Val) → (c k).level < depth_of is → m k ≡ None → maps m [] is (put c k w) ≡ change (maps m [] is c) k w.value)
    → values is (put c k w) ≡ change (values is c) k w.value
unfolding values change
changed_at is c k w t e below = by (depth_of is) refl where
  bottom : values [] (put c k w) ≡ change (values [] c) k w.value
  bottom = outer_put c k w

  by : (d : ℕ) → depth_of is ≡ d → values is (put c k w) ≡ change (values is c) k w.value
  by zero h = tied_bottom (λ is'. values is' (put c k w) ≡ change (values is' c) k w.value) is c h t bottom
  by (suc d) h = ⊎_elim
      (λ l.
      ap (λ (n : ℕ). maps (map_at n (put c k w)) [] is (put c k w)) h
      ∙ ap (λ (m : Key → Option Val). maps m [] is (put c k w)) (map_put d c k w (e ∙ l ∙ h))
      ∙ maps_over is c (with_key (map_at (suc d) c) k w.value) [] k w t (omega arith) l (e ∙ l)
      ∙ top_change d is c (map_at (suc d) c) [] k (c k).value w.value h (seen_at d (c k) (l ∙ h))
      ∙ ap (λ (n : ℕ). change (maps (map_at n c) [] is c) k w.value) (sym h))
      (λ l. ap (λ (m : Key → Option Val). maps m [] is (put c k w)) (map_below (depth_of is) c k w e l) ∙ below (map_at (depth_of is) c) l (map_none (depth_of is) c k l))
      (eq-or-lt_of_le (level_le is c t k))

maps_change : (is : List Item) (c : Cells) (m : Key → Option Val) (a : List Token) (k : Key) (w : Cell) → IsTied is c → w.level ≡ (c k).level → (c k).level < depth_of is → m k ≡ None
    → maps m a is (put c k w) ≡ change (maps m a is c) k w.value
unfolding change values
maps_change [] c m a k w t e l n = absurd (omega arith)
maps_change (Undo j x ∷ is) c m a k w t e l n =
    let lev : (back (depth_of is) c j x k).level ≡ (c k).level = ap (λ (z : Cell). z.level) (back_below (depth_of is) c j k x (λ e'. omega arith)) in
    ap (maps m a is) (back_beside (depth_of is) c k j w x (λ e'. omega arith)) ∙ maps_change is (back (depth_of is) c j x) m a k w t.1 (e ∙ sym lev) (omega arith) n
maps_change (After u ∷ is) c m a k w t e l n = maps_change is c m (u ∷ a) k w t.1 e l n
maps_change (Begin g ∷ is) c m a k w t e l n =
    let rest = changed_at is c k w t.1 e (λ m' l' n'. maps_change is c m' [] k w t.1 e l' n') in
    ap (inside (record { kind = g; after = a; map = m })) rest
    ∙ sym (ap (λ (o : Option Val). by_has o (record { outer = (values is c).outer; groups = put_in (record { kind = g; after = a; map = m }) k w.value ∷ (values is c).groups }) (inside (record { kind = g; after = a; map = m }) (change (values is c) k w.value))) n)

pub values_change : (is : List Item) (c : Cells) (k : Key) (w : Cell) → IsTied is c → w.level ≡ (c k).level → values is (put c k w) ≡ change (values is c) k w.value
values_change is c k w t e = changed_at is c k w t e (λ m l n. maps_change is c m [] k w t e l n)

-- what is got

got_top : (e : ℕ) (is : List Item) (c : Cells) (m : Key → Option Val) (a : List Token) (q : Key) (u : Val) → depth_of is ≡ suc e → m q ≡ Some u → get (maps m a is c) q ≡ u
unfolding get
got_top e [] c m a q u h s = absurd (omega arith)
got_top e (Undo j x ∷ is) c m a q u h s = got_top e is (back (depth_of is) c j x) m a q u h s
got_top e (After t ∷ is) c m a q u h s = got_top e is c m (t ∷ a) q u h s
got_top e (Begin g ∷ is) c m a q u h s = ap (λ (o : Option Val). unwrap_or o (get (maps (map_at (depth_of is) c) [] is c) q)) s

got_at : (is : List Item) (c : Cells) (q : Key) → IsTied is c
    → ((m : Key → Option Val) → (c q).level < depth_of is → m q ≡ None → get (maps m [] is c) q ≡ (c q).value)
    → get (values is c) q ≡ (c q).value
unfolding values get
got_at is c q t below = by (depth_of is) refl where
  bottom : get (values [] c) q ≡ (c q).value
  bottom = refl

  by : (d : ℕ) → depth_of is ≡ d → get (values is c) q ≡ (c q).value
  by zero h = tied_bottom (λ is'. get (values is' c) q ≡ (c q).value) is c h t bottom
  by (suc d) h = ⊎_elim
      (λ l. got_top d is c (map_at (depth_of is) c) [] q (c q).value h (ap (λ (n : ℕ). map_at n c q) h ∙ seen_at d (c q) (l ∙ h)))
      (λ l. below (map_at (depth_of is) c) l (map_none (depth_of is) c q l))
      (eq-or-lt_of_le (level_le is c t q))

got_below : (is : List Item) (c : Cells) (m : Key → Option Val) (a : List Token) (q : Key) → IsTied is c → (c q).level < depth_of is → m q ≡ None → get (maps m a is c) q ≡ (c q).value
unfolding get values
got_below [] c m a q t l n = absurd (omega arith)
got_below (Undo j x ∷ is) c m a q t l n =
    let off : back (depth_of is) c j x q ≡ c q = back_below (depth_of is) c j q x (λ e'. omega arith) in
    let lev : (back (depth_of is) c j x q).level ≡ (c q).level = ap (λ (z : Cell). z.level) off in
    got_below is (back (depth_of is) c j x) m a q t.1 (omega arith) n ∙ ap (λ (z : Cell). z.value) off
got_below (After u ∷ is) c m a q t l n = got_below is c m (u ∷ a) q t.1 l n
got_below (Begin g ∷ is) c m a q t l n =
    ap (λ (o : Option Val). unwrap_or o (get (values is c) q)) n
    ∙ got_at is c q t.1 (λ m' l' n'. got_below is c m' [] q t.1 l' n')

pub values_get : (is : List Item) (c : Cells) (q : Key) → IsTied is c → get (values is c) q ≡ (c q).value
values_get is c q t = got_at is c q t (λ m l n. got_below is c m [] q t l n)

-- what an end leaves

left_kind : (is : List Item) (c : Cells) (m : Key → Option Val) (a i : List Token) → (left_of i is c).kind ≡ kind (maps m a is c)
unfolding kind
left_kind [] c m a i = refl
left_kind (Undo j x ∷ is) c m a i = left_kind is (back (depth_of is) c j x) m a i
left_kind (After u ∷ is) c m a i = left_kind is c m (u ∷ a) (u ∷ i)
left_kind (Begin g ∷ is) c m a i = refl

left_values : (is : List Item) (c : Cells) (m : Key → Option Val) (a i : List Token) → values (left_of i is c).items (left_of i is c).cells ≡ ended (maps m a is c)
unfolding ended values
left_values [] c m a i = refl
left_values (Undo j x ∷ is) c m a i = left_values is (back (depth_of is) c j x) m a i
left_values (After u ∷ is) c m a i = left_values is c m (u ∷ a) (u ∷ i)
left_values (Begin g ∷ is) c m a i = refl

left_after : (e : ℕ) (is : List Item) (c : Cells) (m : Key → Option Val) (a i : List Token) → depth_of is ≡ suc e → (left_of (a ++ i) is c).input ≡ after (maps m a is c) ++ i
unfolding after
left_after e [] c m a i h = absurd (omega arith)
left_after e (Undo j x ∷ is) c m a i h = left_after e is (back (depth_of is) c j x) m a i h
left_after e (After u ∷ is) c m a i h = left_after e is c m (u ∷ a) i h
left_after e (Begin g ∷ is) c m a i h = refl

pub left_tied : (is : List Item) (c : Cells) (i : List Token) → IsTied is c → IsTied (left_of i is c).items (left_of i is c).cells
left_tied [] c i t = t
left_tied (Undo j x ∷ is) c i t = left_tied is (back (depth_of is) c j x) i t.1
left_tied (After u ∷ is) c i t = left_tied is c (u ∷ i) t.1
left_tied (Begin g ∷ is) c i t = t.1

pub values_kind : (is : List Item) (c : Cells) (i : List Token) → (left_of i is c).kind ≡ kind (values is c)
unfolding values
values_kind is c i = left_kind is c (map_at (depth_of is) c) [] i

pub values_ended : (is : List Item) (c : Cells) (i : List Token) → values (left_of i is c).items (left_of i is c).cells ≡ ended (values is c)
unfolding values
values_ended is c i = left_values is c (map_at (depth_of is) c) [] i

pub values_after : (is : List Item) (c : Cells) (i : List Token) → IsTied is c → (left_of i is c).input ≡ after (values is c) ++ i
unfolding values after
values_after is c i t = by (depth_of is) refl where
  bottom : (left_of i [] c).input ≡ after (values [] c) ++ i
  bottom = refl

  by : (d : ℕ) → depth_of is ≡ d → (left_of i is c).input ≡ after (values is c) ++ i
  by zero h = tied_bottom (λ is'. (left_of i is' c).input ≡ after (values is' c) ++ i) is c h t bottom
  by (suc d) h = left_after d is c (map_at (depth_of is) c) [] i h

left_level : (is : List Item) (c : Cells) (m : Key → Option Val) (a : List Token) → depth_of is ≡ length (maps m a is c).groups
left_level [] c m a = refl
left_level (Undo j x ∷ is) c m a = left_level is (back (depth_of is) c j x) m a
left_level (After u ∷ is) c m a = left_level is c m (u ∷ a)
left_level (Begin g ∷ is) c m a = omega (arith, left_level is c (map_at (depth_of is) c) [])

pub values_level : (is : List Item) (c : Cells) → depth_of is ≡ level (values is c)
unfolding values level
values_level is c = left_level is c (map_at (depth_of is) c) []

kind_maps : (is : List Item) (c : Cells) (m : Key → Option Val) (a : List Token) → kind_in is ≡ kind (maps m a is c)
unfolding kind
kind_maps [] c m a = refl
kind_maps (Undo j x ∷ is) c m a = kind_maps is (back (depth_of is) c j x) m a
kind_maps (After u ∷ is) c m a = kind_maps is c m (u ∷ a)
kind_maps (Begin g ∷ is) c m a = refl

pub kind_values : (is : List Item) (c : Cells) → kind_in is ≡ kind (values is c)
unfolding values
kind_values is c = kind_maps is c (map_at (depth_of is) c) []
