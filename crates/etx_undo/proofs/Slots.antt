-- The order tells slots apart.
use Rattle.std.proofs.Common.{◌≡◌, Bool, true, false, refl, sym, ◌∙◌, ap, subst}
use Rattle.std.specs.Ordering.{nat_cmp, is_eq}
use Rattle.std.specs.Cmp.{tied_itself}
use Rattle.std.proofs.lemmas.Map.Lookups.{exact_unsigned, exact_pairs, CmpEqualImpliesEq}
use Rattle.std.proofs.lemmas.Map.Views.{tells_apart}
use Rattle.etx_undo.specs.declared.slot.Slot.{Slot}
use Rattle.etx_undo.specs.contracts.slot.SlotOrd.TheImpl.Laws as SlotLaws
use Rattle.etx_undo.specs.Slots.{slot_cmp, same}

exact_slot : CmpEqualImpliesEq slot_cmp
exact_slot x y e =
    let p = exact_pairs nat_cmp nat_cmp exact_unsigned exact_unsigned (x.kind, x.at) (y.kind, y.at) e in
    λ i. record { kind = (p i).0; at = (p i).1 }

pub same_is : (k q : Slot) → same k q ≡ true → k ≡ q
same_is k q e = tells_apart exact_slot k q e

pub same_self : (k : Slot) → same k k ≡ true
same_self k = ap is_eq (tied_itself SlotLaws.total-law k)

-- a test, with what it says
pub tested : {C : Type 0} (b : Bool) → (b ≡ true → C) → (b ≡ false → C) → C
tested true f g = f refl
tested false f g = g refl

pub differs : (k q : Slot) → (k ≡ q → ⊥) → same k q ≡ false
differs k q n = tested (same k q) (λ e. absurd (n (same_is k q e))) (λ e. e)

pub as_same : (k q : Slot) (b : Bool) → (b ≡ true → k ≡ q) → (k ≡ q → b ≡ true) → b ≡ same k q
as_same k q b f g = tested (same k q) (λ e. g (same_is k q e) ∙ sym e) (λ e. tested b
    (λ t. absurd (let s : same k q ≡ true = subst (λ (q' : Slot). same k q' ≡ true) (f t) (same_self k) in cc))
    (λ t. t ∙ sym e))
