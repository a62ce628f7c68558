-- What a front is replaced by is shorter.
use Rattle.std.proofs.Common.{◌≡◌, ℕ, ◌+◌, ◌≤◌, ◌&&◌, List, [], ◌∷◌, length, Some, ap, arith}
use Rattle.etx_lexer.specs.Fronts.{is_hex, replaced, front_of}
use Rattle.etx_lexer.proofs.Walks.{by_test, is_front_from, replaced_hex, replaced_short, replaced_last, no_front_none, no_front_one, no_front_two}

replaced_is_short : (e : ℕ) (rest : List ℕ) → length (replaced e rest) ≤ length rest + 1
replaced_is_short e [] = rw (replaced_last e) (omega arith)
replaced_is_short e (f ∷ rest) = by_test (is_hex e && is_hex f)
    (λ h. rw (replaced_hex e f rest h) (omega arith))
    (λ h. rw (replaced_short e f rest h) (omega arith))

-- a text with its front replaced is shorter by two characters, or by three
pub shorter_front : (cats : ℕ → ℕ) (text text' : List ℕ) → front_of cats text ≡ Some text' → length text' + 2 ≤ length text
shorter_front cats [] text' h = let n = no_front_none cats in cc
shorter_front cats (c ∷ []) text' h = let n = no_front_one cats c in cc
shorter_front cats (c ∷ d ∷ []) text' h = let n = no_front_two cats c d in cc
shorter_front cats (c ∷ d ∷ e ∷ rest) text' h =
    let is = is_front_from cats c d e rest text' h in
    omega (arith, replaced_is_short e rest, ap length is.1)
