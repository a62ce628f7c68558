-- What a write to one part of a table does to all slots.
use Rattle.std.proofs.Common.{◌≡◌, ◌≢◌, ℕ, ◌+◌, ◌*◌, ◌<◌, ◌≤◌, ◌==◌, nat_lt, Bool, true, false, List, [], Option, None, IsSome, length, if◌then◌else◌, sym, ◌∙◌, ap, subst, arith}
use Rattle.std.proofs.lemmas.Bool.Decides.{nat_tests}
use Rattle.etx_undo.specs.declared.slot.Slot.{Slot}
use Rattle.etx_undo.specs.Rows.{value_at}
use Rattle.etx_undo.proofs.Rows.{past}
use Rattle.etx_undo.specs.Slots.{same, row_len}
use Rattle.etx_undo.specs.Tables.{Entries, look, look_by, held, IsPut}
use Rattle.etx_undo.proofs.Slots.{tested, as_same, differs}

eq_test : (a b : ℕ) → a ≡ b → (a == b) ≡ true
eq_test a b h = grind (arith, nat_tests)

ne_test : (a b : ℕ) → a ≢ b → (a == b) ≡ false
ne_test a b h = grind (arith, nat_tests)

is_eq_test : (a b : ℕ) → (a == b) ≡ true → a ≡ b
is_eq_test a b h = grind (arith, nat_tests)

is_ne_test : (a b : ℕ) → (a == b) ≡ false → a ≢ b
is_ne_test a b h = grind (arith, nat_tests)

lt_test : (a b : ℕ) → a < b → nat_lt a b ≡ true
lt_test a b h = grind (arith, nat_tests)

ge_test : (a b : ℕ) → b ≤ a → nat_lt a b ≡ false
ge_test a b h = grind (arith, nat_tests)

is_lt_test : (a b : ℕ) → nat_lt a b ≡ true → a < b
is_lt_test a b h = grind (arith, nat_tests)

is_ge_test : (a b : ℕ) → nat_lt a b ≡ false → b ≤ a
is_ge_test a b h = grind (arith, nat_tests)

slot_by : (k q : Slot) → k.kind ≡ q.kind → k.at ≡ q.at → k ≡ q
slot_by k q e h = λ i. record { kind = e i; at = h i }

-- slots of kind 0 that are places in a row, the same of other kinds, and those that are in none
pub name_len : (k : ℕ) → k ≡ 0 → row_len k ≡ 1048576
unfolding row_len
name_len k h = ap (λ (b : Bool). if b then 1048576 else 256) (eq_test k 0 h)

pub small_len : (k : ℕ) → k ≢ 0 → row_len k ≡ 256
unfolding row_len
small_len k h = ap (λ (b : Bool). if b then 1048576 else 256) (ne_test k 0 h)

cases : {C : Type 0} (q : Slot) → (q.kind ≡ 0 → q.at < row_len q.kind → C) → (q.kind ≢ 0 → q.at < row_len q.kind → C) → (row_len q.kind ≤ q.at → C) → C
cases q f g h = tested (nat_lt q.at (row_len q.kind))
    (λ l. tested (q.kind == 0) (λ e. f (is_eq_test q.kind 0 e) (is_lt_test q.at (row_len q.kind) l)) (λ e. g (is_ne_test q.kind 0 e) (is_lt_test q.at (row_len q.kind) l)))
    (λ l. h (is_ge_test q.at (row_len q.kind) l))

-- a slot that is a place in a row is no slot that is in none
apart : (k q : Slot) → row_len k.kind ≤ k.at → q.at < row_len q.kind → k ≡ q → ⊥
apart k q h l s = let h' : row_len q.kind ≤ q.at = subst (λ (z : Slot). row_len z.kind ≤ z.at) s h in omega arith

module _ {V : Type 0} where
  pub look_name : (e : Entries V) (q : Slot) → q.kind ≡ 0 → q.at < row_len q.kind → look e q ≡ value_at e.names q.at
  unfolding look
  look_name e q h l = ap (λ (b : Bool). look_by e q b (q.kind == 0)) (lt_test q.at (row_len q.kind) l) ∙ ap (look_by e q true) (eq_test q.kind 0 h)

  pub look_small : (e : Entries V) (q : Slot) → q.kind ≢ 0 → q.at < row_len q.kind → look e q ≡ value_at e.small (q.kind * 256 + q.at)
  unfolding look
  look_small e q n l = ap (λ (b : Bool). look_by e q b (q.kind == 0)) (lt_test q.at (row_len q.kind) l) ∙ ap (look_by e q true) (ne_test q.kind 0 n)

  pub look_large : (e : Entries V) (q : Slot) → row_len q.kind ≤ q.at → look e q ≡ held e.large q
  unfolding look
  look_large e q l = ap (λ (b : Bool). look_by e q b (q.kind == 0)) (ge_test q.at (row_len q.kind) l)

  off : (old new : Entries V) (k q : Slot) (o : Option V) → (k ≡ q → ⊥) → look new q ≡ look old q → look new q ≡ (if same k q then o else look old q)
  off old new k q o n e = e ∙ sym (ap (λ (b : Bool). if b then o else look old q) (differs k q n))

  names_same : (old new : Entries V) (q : Slot) → new.names ≡ old.names → q.kind ≡ 0 → q.at < row_len q.kind → look new q ≡ look old q
  names_same old new q e h l = look_name new q h l ∙ ap (λ (xs : List (Option V)). value_at xs q.at) e ∙ sym (look_name old q h l)

  small_same : (old new : Entries V) (q : Slot) → new.small ≡ old.small → q.kind ≢ 0 → q.at < row_len q.kind → look new q ≡ look old q
  small_same old new q e n l = look_small new q n l ∙ ap (λ (xs : List (Option V)). value_at xs (q.kind * 256 + q.at)) e ∙ sym (look_small old q n l)

  large_same : (old new : Entries V) (q : Slot) → new.large ≡ old.large → row_len q.kind ≤ q.at → look new q ≡ look old q
  large_same old new q e l = look_large new q l ∙ ap (λ (xs : List (Slot × V)). held xs q) e ∙ sym (look_large old q l)

  pub put_name : (old new : Entries V) (k : Slot) (o : Option V) → k.kind ≡ 0 → k.at < row_len k.kind → new.small ≡ old.small → new.large ≡ old.large
      → ((i : ℕ) → value_at new.names i ≡ (if k.at == i then o else value_at old.names i)) → IsPut old new k o
  put_name old new k o hk lk es el e q = cases q
      (λ h l. look_name new q h l ∙ e q.at
      ∙ ap (λ (b : Bool). if b then o else value_at old.names q.at) (as_same k q (k.at == q.at) (λ t. slot_by k q (hk ∙ sym h) (is_eq_test k.at q.at t)) (λ s. eq_test k.at q.at (ap (λ (z : Slot). z.at) s)))
      ∙ ap (λ (v : Option V). if same k q then o else v) (sym (look_name old q h l)))
      (λ n l. off old new k q o (λ s. n (ap (λ (z : Slot). z.kind) (sym s) ∙ hk)) (small_same old new q es n l))
      (λ l. off old new k q o (λ s. apart q k l lk (sym s)) (large_same old new q el l))

  pub put_small : (old new : Entries V) (k : Slot) (o : Option V) → k.kind ≢ 0 → k.at < row_len k.kind → new.names ≡ old.names → new.large ≡ old.large
      → ((i : ℕ) → value_at new.small i ≡ (if (k.kind * 256 + k.at) == i then o else value_at old.small i)) → IsPut old new k o
  put_small old new k o nk lk en el e q = cases q
      (λ h l. off old new k q o (λ s. nk (ap (λ (z : Slot). z.kind) s ∙ h)) (names_same old new q en h l))
      (λ n l. look_small new q n l ∙ e (q.kind * 256 + q.at)
      ∙ ap (λ (b : Bool). if b then o else value_at old.small (q.kind * 256 + q.at))
      (as_same k q ((k.kind * 256 + k.at) == (q.kind * 256 + q.at))
      (λ t. let both : k.kind * 256 + k.at ≡ q.kind * 256 + q.at = is_eq_test _ _ t in
      let lk' = small_len k.kind nk in
      let l' = small_len q.kind n in
      slot_by k q (omega arith) (omega arith))
      (λ s. eq_test _ _ (ap (λ (z : Slot). z.kind * 256 + z.at) s)))
      ∙ ap (λ (v : Option V). if same k q then o else v) (sym (look_small old q n l)))
      (λ l. off old new k q o (λ s. apart q k l lk (sym s)) (large_same old new q el l))

  pub put_large : (old new : Entries V) (k : Slot) (o : Option V) → row_len k.kind ≤ k.at → new.names ≡ old.names → new.small ≡ old.small
      → ((q : Slot) → held new.large q ≡ (if same k q then o else held old.large q)) → IsPut old new k o
  put_large old new k o lk en es e q = cases q
      (λ h l. off old new k q o (λ s. apart k q lk l s) (names_same old new q en h l))
      (λ n l. off old new k q o (λ s. apart k q lk l s) (small_same old new q es n l))
      (λ l. look_large new q l ∙ e q ∙ ap (λ (v : Option V). if same k q then o else v) (sym (look_large old q l)))

  is_none : {o : Option V} → o ≡ None → IsSome o → ⊥
  is_none e h = cc

  within : (xs : List (Option V)) (i : ℕ) → IsSome (value_at xs i) → i < length xs
  within xs i h = tested (nat_lt i (length xs)) (λ t. is_lt_test i (length xs) t)
      (λ t. let none : value_at xs i ≡ None = past xs i (is_ge_test i (length xs) t) in absurd (is_none none h))

  pub name_within : (e : Entries V) (q : Slot) → q.kind ≡ 0 → q.at < row_len q.kind → IsSome (look e q) → q.at < length e.names
  name_within e q h l some = within e.names q.at (subst (λ (o : Option V). IsSome o) (look_name e q h l) some)

  pub small_within : (e : Entries V) (q : Slot) → q.kind ≢ 0 → q.at < row_len q.kind → IsSome (look e q) → q.kind * 256 + q.at < length e.small
  small_within e q n l some = within e.small (q.kind * 256 + q.at) (subst (λ (o : Option V). IsSome o) (look_small e q n l) some)

  pub large_some : (e : Entries V) (q : Slot) → row_len q.kind ≤ q.at → IsSome (look e q) → IsSome (held e.large q)
  large_some e q l some = subst (λ (o : Option V). IsSome o) (look_large e q l) some

  pub look_none : (e : Entries V) → ((i : ℕ) → value_at e.names i ≡ None) → ((i : ℕ) → value_at e.small i ≡ None) → e.large ≡ [] → (q : Slot) → look e q ≡ None
  look_none e hn hs hl q = cases q
      (λ h l. look_name e q h l ∙ hn q.at)
      (λ n l. look_small e q n l ∙ hs (q.kind * 256 + q.at))
      (λ l. look_large e q l ∙ ap (λ (xs : List (Slot × V)). held xs q) hl)
