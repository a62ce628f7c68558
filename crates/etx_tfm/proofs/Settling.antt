-- Tests of all items.
use Rattle.std.proofs.Common.{◌≡◌, ℕ, zero, suc, ◌+◌, ◌<◌, Bool, true, false, ◌||◌, Result, Ok, Err, IfOk, refl, sym, ap, ◌∙◌, ◌⊎◌, inl, inr, arith}
use Rattle.std.specs.Option.{is_none}
use Rattle.std.specs.declared.alloc.AllocError.{AllocError}
use Rattle.std.proofs.lemmas.Bool.{cases_lt}
use Rattle.etx_matter.specs.declared.font.LigItem.{LigItem}
use Rattle.etx_matter.specs.declared.font.LigItem.TheVariants.{Boundary, Glyph}
use Rattle.etx_matter.specs.declared.font.FontInfo.{FontInfo}
use Rattle.etx_matter.specs.Ligatures.{any_below, some_item, last, deepest, comes_round}

or_true : (a : Bool) → (a || true) ≡ true
or_true true = refl
or_true false = refl

pub any_below-next : (test : ℕ → Bool) (n : ℕ) → any_below test (n + 1) ≡ (test n || any_below test n)
unfolding any_below
any_below-next test n =
    let e : n + 1 ≡ suc n = omega arith in
    rw e refl

-- below or at the last
either : (c n : ℕ) → c < suc n → (c < n) ⊎ (c ≡ n)
either c n h = elim (cases_lt c n) [ inl low ↦ inl low | inr high ↦ inr (omega arith) ]

pub any_below-here : (test : ℕ → Bool) (n c : ℕ) → c < n → test c ≡ true → any_below test n ≡ true
unfolding any_below
any_below-here test zero c h e = absurd (omega (arith, h))
any_below-here test (suc n) c h e =
    elim (either c n h) [
      | inl low ↦ ap (λ b. test n || b) (any_below-here test n c low e) ∙ or_true (test n)
      | inr same ↦ ap (λ b. b || any_below test n) (ap test (sym same) ∙ e)
    ]

pub any_below-none : (test : ℕ → Bool) → any_below test 0 ≡ false
unfolding any_below
any_below-none test = refl

pub any_below-on : (test : ℕ → Bool) (n : ℕ) → any_below test n ≡ false → test n ≡ false → any_below test (n + 1) ≡ false
any_below-on test n h e = any_below-next test n ∙ rw (e, h) refl

pub some_item-here : (test : LigItem → Bool) (code : ℕ) → code < 256 → test (Glyph code) ≡ true → some_item test ≡ true
some_item-here test code h e =
    ap (λ b. test Boundary || b) (any_below-here (λ n. test (Glyph n)) 256 code h e) ∙ or_true (test Boundary)

pub some_item-edge : (test : LigItem → Bool) → test Boundary ≡ true → some_item test ≡ true
some_item-edge test e = ap (λ b. b || any_below (λ code. test (Glyph code)) 256) e

-- ligatures come round where, at the greatest depth, what some pair comes to isn't found
pub round_from : (font : FontInfo) (depth : ℕ) (r : Result Bool AllocError) → depth ≡ deepest font
    → IfOk r (λ is_so. is_so ≡ some_item (λ x. some_item (λ y. is_none (last font depth x y)))) → IfOk r (λ round. round ≡ comes_round font)
unfolding comes_round
round_from font depth (Ok b) e h = rw (← e) h
round_from font depth (Err x) e h = tt
