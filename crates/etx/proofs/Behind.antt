-- What an iterator that owns its items still has.
use Rattle.std.proofs.Common.{◌≡◌, List, [], ◌∷◌, ◌++◌, length, drop, Option, Some, None, refl, sym, ◌∙◌, ap, append_assoc, arith}
use Rattle.std.proofs.lemmas.List.{append-nil}
use Rattle.std.specs.Vec.Iter.{into_iter_items, into_iter_len, into_iter_steps}
use Rattle.std.specs.declared.vec.IntoIter.{IntoIter}

none_left : {X : Type 0} (xs : List X) → length xs ≡ 0 → xs ≡ []
none_left [] is = refl
none_left (x ∷ xs) is = absurd (omega (arith, is))

module _ {X Z : Type 0} where
  no_items : (it : IntoIter X Z) → into_iter_len it ≡ 0 → into_iter_items it ≡ []
  no_items it is = none_left (into_iter_items it) (sym it.rest.ok.0 ∙ is)

  -- the first item was taken, if there was one
  pub first_taken : (old new : IntoIter X Z) (first : Option X) → into_iter_steps old first new → into_iter_items new ≡ drop 1 (into_iter_items old)
  first_taken old new None steps = no_items new steps.1 ∙ sym (ap (drop 1) (no_items old steps.0))
  first_taken old new (Some x) steps = sym (ap (drop 1) steps.0)

  -- one more item was taken, and put behind those that were
  pub one_taken : (taken : List X) (old new : IntoIter X Z) (x : X) → into_iter_steps old (Some x) new → (taken ++ x ∷ []) ++ into_iter_items new ≡ taken ++ into_iter_items old
  one_taken taken old new x steps = append_assoc taken (x ∷ []) (into_iter_items new) ∙ ap (λ (l : List X). taken ++ l) (sym steps.0)

  -- no item is left
  pub all_taken : (taken : List X) (old : IntoIter X Z) → into_iter_len old ≡ 0 → taken ++ into_iter_items old ≡ taken
  all_taken taken old is = ap (λ (l : List X). taken ++ l) (no_items old is) ∙ append-nil taken
