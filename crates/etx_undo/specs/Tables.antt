-- What stands under a slot.
use Rattle.std.specs.Prelude.{◌≡◌, ◌+◌, ◌*◌, ◌==◌, nat_lt, Bool, true, false, List, Option, if◌then◌else◌, refl}
use Rattle.std.specs.Coded.{Coded, code_by, coded_list, coded×, coded_option}
use Rattle.std.specs.Ordering.{is_eq}
use Rattle.std.specs.Map.{lookup}
use Rattle.etx_undo.specs.declared.slot.Slot.{Slot}
use Rattle.etx_undo.specs.Rows.{value_at}
use Rattle.etx_undo.specs.Slots.{slot_cmp, slot_code, same, row_len}

-- two rows, and the entries of a map
pub record Entries (V : Type 0) : Type 0 where
  pub names : List (Option V)
  pub small : List (Option V)
  pub large : List (Slot × V)

abbrev pub entries_code : {V : Type 0} → Coded V → Coded (Entries V)
entries_code {V} c = code_by (List (Option V) × (List (Option V) × List (Slot × V)))
    (coded× (coded_list (coded_option c)) (coded× (coded_list (coded_option c)) (coded_list (coded× slot_code c))))
    (λ e. (e.names, (e.small, e.large))) (λ p. record { names = p.0; small = p.1.0; large = p.1.1 }) (λ _. refl)

module _ {V : Type 0} where
  -- the entries of the map, as a function
  abbrev pub held : List (Slot × V) → Slot → Option V
  held entries q = lookup (λ k. is_eq (slot_cmp q k)) entries

  -- by whether the slot is a place in a row, and whether its kind is 0
  abbrev pub look_by : Entries V → Slot → Bool → Bool → Option V
  look_by e q true true = value_at e.names q.at
  look_by e q true false = value_at e.small (q.kind * 256 + q.at)
  look_by e q false b = held e.large q

  -- the value under the slot
  unfoldable pub look : Entries V → Slot → Option V
  look e q = look_by e q (nat_lt q.at (row_len q.kind)) (q.kind == 0)

  -- new has o under k, and all else as old
  abbrev pub IsPut : Entries V → Entries V → Slot → Option V → Type 0
  IsPut old new k o = (q : Slot) → look new q ≡ (if same k q then o else look old q)
