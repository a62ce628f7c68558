use Rattle.std.proofs.Common.{◌≡◌, ◌≤◌, ℕ, zero, suc, ◌+◌, ◌-◌, List, ◌++◌, arith, subst, ap, sym, ◌∙◌, append_assoc}
use Rattle.std.proofs.lemmas.Grind.{common_steps}
use Rattle.std.proofs.lemmas.List.{append-nil}
use Rattle.std.specs.List.{flat_map, range_with_len}
use Rattle.etx_gen.specs.Font.{character}
use Rattle.etx_gen.proofs.font.push_characters.Goals as goal

-- One number more.
flat_range-more : (f : ℕ → List ℕ) (a n : ℕ) → flat_map f (range_with_len a (suc n)) ≡ flat_map f (range_with_len a n) ++ f (a + n)
flat_range-more f a zero = append-nil (f a) ∙ ap f (omega arith)
flat_range-more f a (suc n) =
    ap (λ t. f a ++ t) (flat_range-more f (a + 1) n)
    ∙ sym (append_assoc (f a) (flat_map f (range_with_len (a + 1) n)) (f ((a + 1) + n)))
    ∙ ap (λ k. (f a ++ flat_map f (range_with_len (a + 1) n)) ++ f k) (omega arith)

characters-more : (code : ℕ) → 42 ≤ code → flat_map character (range_with_len 42 (code + 1 - 42)) ≡ flat_map character (range_with_len 42 (code - 42)) ++ character code
characters-more code low =
    let one : code + 1 - 42 ≡ suc (code - 42) = omega arith in
    let back : 42 + (code - 42) ≡ code = omega arith in
    ap (λ n. flat_map character (range_with_len 42 n)) one
    ∙ flat_range-more character 42 (code - 42)
    ∙ ap (λ k. flat_map character (range_with_len 42 (code - 42)) ++ character k) back

pub loop-code-preserved : goal.loop-code-preserved
loop-code-preserved c =
    let more = characters-more c.loop-code.code (omega arith) in
    grind (arith, common_steps, more)

pub returns : goal.returns
returns c =
    let e : c.loop-code.code ≡ 123 = omega arith in
    subst (λ (k : ℕ). c.loop-code.out.items ≡ c.args.out.now.items ++ flat_map character (range_with_len 42 (k - 42))) e c.loop-code.invariant
