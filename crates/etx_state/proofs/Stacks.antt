-- A stack from its top is the list of its items in reverse.
use Rattle.std.proofs.Common.{◌≡◌, ℕ, ◌-◌, ◌<◌, ◌≤◌, List, length, reverse, slice_get, get_or, Some, None, refl, sym, ◌∙◌, inl, inr, arith}
use Rattle.std.proofs.lemmas.List.{get_or-reverse, length-reverse}
use Rattle.std.proofs.lemmas.Option.{slice_get_cases, slice_get_read, slice_get_past}
use Rattle.etx_state.specs.declared.scan.Entry.{Entry}

pub at_in_reverse : (items : List Entry) (i : ℕ) → i < length items → slice_get (reverse items) i ≡ slice_get items (length items - 1 - i)
at_in_reverse items i within =
    elim (slice_get_cases items (length items - 1 - i)).1 [
      | inl here ↦
          let read : here.0 ≡ get_or (reverse items) i here.0 = sym (get_or-reverse items i here.0 within ∙ here.3) in
          let is : slice_get (reverse items) i ≡ Some here.0 = slice_get_read (reverse items) (length items) i here.0 (sym (length-reverse items)) within read in
          is ∙ sym here.2
      | inr past ↦ absurd (omega (arith, past.0, within))
    ]

pub past_reverse : (items : List Entry) (i : ℕ) → length items ≤ i → slice_get (reverse items) i ≡ None
past_reverse items i past = slice_get_past (reverse items) i (rw (length-reverse items) past)
