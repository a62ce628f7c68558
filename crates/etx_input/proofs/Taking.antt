-- Tokens that are taken from a list.
use Rattle.std.proofs.lemmas.Bool.Decides.{nat_tests}
use Rattle.std.proofs.Math.ListN.{length-drop}
use Rattle.std.proofs.lemmas.List.{drop-drop}
use Rattle.std.proofs.Common.{◌≡◌, ◌+◌, ◌-◌, ◌≤◌, ◌<◌, ℕ, zero, suc, nat_le, length, drop, arith, List, [], ◌∷◌, refl, ap, sym, ◌∙◌}
use Rattle.etx_matter.specs.declared.token.Token.{Token}
use Rattle.etx_input.specs.declared.origin.Origin.{Origin}
use Rattle.etx_input.specs.declared.origin.Origin.TheVariants.{Fresh, Back, Unexpanded, Kept}
use Rattle.etx_input.specs.Lists.{is_empty, fresh_of}

-- all tokens were taken just where none is left
pub all_taken : (n : ℕ) (ts : List Token) → nat_le (length ts) n ≡ is_empty (drop n ts)
all_taken zero [] = refl
all_taken (suc n) [] = grind (arith, nat_tests)
all_taken zero (t ∷ ts) = grind (arith, nat_tests)
all_taken (suc n) (t ∷ ts) = same ∙ all_taken n ts
  where
    same : nat_le (suc (length ts)) (suc n) ≡ nat_le (length ts) n
    same = grind (arith, nat_tests)

pub skipped : (count at : ℕ) (ts : List Token) → drop (at + count) ts ≡ drop count (drop at ts)
skipped count at ts = sym (drop-drop count at ts)

pub skip_fits : (count at : ℕ) (ts : List Token) → at < length ts → count ≤ length (drop at ts) → at + count ≤ length ts
skip_fits count at ts within fits = let long = length-drop at ts in omega (arith, long, fits, within)

pub skip_none : (count at : ℕ) (ts : List Token) → (at < length ts → ⊥) → count ≤ length (drop at ts) → drop at ts ≡ drop count (drop at ts)
skip_none count at ts over fits = go count (length-drop at ts) fits
  where
    go : (n : ℕ) → length (drop at ts) ≡ length ts - at → n ≤ length (drop at ts) → drop at ts ≡ drop n (drop at ts)
    go zero long le = refl
    go (suc n) long le = absurd (over (omega (arith, long, le)))

pub fresh_fits : (origin : Origin) (ts : List Token) (count : ℕ) → count ≤ length (fresh_of origin ts) → count ≤ length ts
fresh_fits Fresh ts count le = le
fresh_fits Back ts count le = omega arith
fresh_fits Unexpanded ts count le = omega arith
fresh_fits Kept ts count le = omega arith
