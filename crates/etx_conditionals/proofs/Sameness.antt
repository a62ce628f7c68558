-- Lists that are compared place by place.
use Rattle.std.proofs.Common.{◌≡◌, ◌≢◌, ℕ, suc, ◌+◌, ◌<◌, ◌≤◌, Bool, true, false, ◌&&◌, List, [], ◌∷◌, length, drop, get_or, refl, sym, ◌∙◌, ap, arith}
use Rattle.std.proofs.lemmas.List.{at_drop_all, drop_more}
use Rattle.etx_matter.specs.declared.token.Token.{Token}
use Rattle.etx_conditionals.specs.Conditionals.{same_token, same_tokens, same_parts}

neither : (b c : Bool) → c ≡ false → (b && c) ≡ false
neither true c e = e
neither false c e = refl

-- ---- tokens

pub tokens_differ : (one other : List Token) → length one ≢ length other → same_tokens one other ≡ false
tokens_differ [] [] ne = absurd (ne refl)
tokens_differ [] (u ∷ us) ne = refl
tokens_differ (t ∷ ts) [] ne = refl
tokens_differ (t ∷ ts) (u ∷ us) ne = neither (same_token t u) (same_tokens ts us) (tokens_differ ts us (λ e. ne (ap suc e)))

pub tokens_step : (one other : List Token) (i : ℕ) (d : Token) → i < length one → length one ≡ length other
    → same_tokens (drop i one) (drop i other) ≡ (same_token (get_or one i d) (get_or other i d) && same_tokens (drop (i + 1) one) (drop (i + 1) other))
tokens_step one other i d within long = rw (drop_more one i d within, drop_more other i d (omega (arith, within, long))) refl

pub tokens_end : (one other : List Token) (i : ℕ) → length one ≤ i → length one ≡ length other → same_tokens (drop i one) (drop i other) ≡ true
tokens_end one other i over long =
    at_drop_all (λ (ts : List Token). same_tokens ts (drop i other)) one i over ∙ at_drop_all (λ (ts : List Token). same_tokens [] ts) other i (omega (arith, over, long))

-- ---- parts

pub parts_differ : (one other : List (List Token)) → length one ≢ length other → same_parts one other ≡ false
parts_differ [] [] ne = absurd (ne refl)
parts_differ [] (u ∷ us) ne = refl
parts_differ (t ∷ ts) [] ne = refl
parts_differ (t ∷ ts) (u ∷ us) ne = neither (same_tokens t u) (same_parts ts us) (parts_differ ts us (λ e. ne (ap suc e)))

pub parts_step : (one other : List (List Token)) (i : ℕ) (d : List Token) → i < length one → length one ≡ length other
    → same_parts (drop i one) (drop i other) ≡ (same_tokens (get_or one i d) (get_or other i d) && same_parts (drop (i + 1) one) (drop (i + 1) other))
parts_step one other i d within long = rw (drop_more one i d within, drop_more other i d (omega (arith, within, long))) refl

pub parts_end : (one other : List (List Token)) (i : ℕ) → length one ≤ i → length one ≡ length other → same_parts (drop i one) (drop i other) ≡ true
parts_end one other i over long =
    at_drop_all (λ (ts : List (List Token)). same_parts ts (drop i other)) one i over ∙ at_drop_all (λ (ts : List (List Token)). same_parts [] ts) other i (omega (arith, over, long))
