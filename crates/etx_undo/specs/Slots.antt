-- Slots, and which of them are places in a row.
use Rattle.std.specs.Prelude.{ℕ, ◌==◌, Bool, if◌then◌else◌, refl}
use Rattle.std.specs.Coded.{Coded, code_by, coded×, coded_ℕ}
use Rattle.std.specs.declared.cmp.Ordering.{Ordering}
use Rattle.std.specs.Ordering.{is_eq}
use Rattle.etx_undo.specs.declared.slot.Slot.{Slot}
use Rattle.etx_undo.specs.contracts.slot.SlotOrd.TheImpl as SlotOrd

abbrev pub slot_cmp : Slot → Slot → Ordering
slot_cmp = (SlotOrd.ghosts).cmp

-- whether two slots are the same
abbrev pub same : Slot → Slot → Bool
same k q = is_eq (slot_cmp k q)

abbrev pub slot_code : Coded Slot
slot_code = code_by (ℕ × ℕ) (coded× coded_ℕ coded_ℕ) (λ s. (s.kind, s.at)) (λ p. record { kind = p.0; at = p.1 }) (λ _. refl)

-- how many slots of a kind are places in a row
unfoldable pub row_len : ℕ → ℕ
row_len kind = if kind == 0 then 1048576 else 256
