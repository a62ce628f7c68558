-- Runs of items that are dropped.
use Rattle.std.proofs.Common.{◌≡◌, ℕ, zero, suc, ◌+◌, ◌-◌, ◌≤◌, Bool, true, false, cond, List, [], ◌∷◌, drop, refl, sym, ap, ◌∙◌, arith}
use Rattle.std.specs.List.{prefix_len}
use Rattle.std.proofs.lemmas.List.{drop-drop}
use Rattle.etx_matter.specs.declared.node.Node.{Node}
use Rattle.etx_sealed.specs.Lines.{is_dropped}

-- behind the first items of a run the rest of it stands
rest_of_run : (p : Node → Bool) (m : ℕ) (xs : List Node) → m ≤ prefix_len p xs → m + prefix_len p (drop m xs) ≡ prefix_len p xs
rest_of_run p zero xs h = omega arith
rest_of_run p (suc m) [] h = omega (arith, h)
rest_of_run p (suc m) (x ∷ xs) h = by (λ k. rest_of_run p m xs k) (p x) refl h
  where
    by : (m ≤ prefix_len p xs → m + prefix_len p (drop m xs) ≡ prefix_len p xs) → (b : Bool) → p x ≡ b
        → suc m ≤ cond b (1 + prefix_len p xs) 0 → suc m + prefix_len p (drop m xs) ≡ cond (p x) (1 + prefix_len p xs) 0
    by more true e k = rw e (let less : m ≤ prefix_len p xs = omega (arith, k) in omega (arith, more less))
    by more false e k = absurd (omega (arith, k))

pub inside_run : (nodes : List Node) (from at to : ℕ) → from ≤ at → at ≤ to → to ≡ from + prefix_len is_dropped (drop from nodes)
    → to ≡ at + prefix_len is_dropped (drop at nodes)
inside_run nodes from at to a b e =
    let m : ℕ = at - from in
    let fits : m ≤ prefix_len is_dropped (drop from nodes) = omega (arith, a, b, e) in
    let same : drop m (drop from nodes) ≡ drop at nodes = drop-drop m from nodes ∙ ap (λ (n : ℕ). drop n nodes) (omega (arith, a)) in
    let rest : m + prefix_len is_dropped (drop at nodes) ≡ prefix_len is_dropped (drop from nodes) =
    ap (λ (xs : List Node). m + prefix_len is_dropped xs) (sym same) ∙ rest_of_run is_dropped m (drop from nodes) fits in
    omega (arith, a, b, e, rest)
