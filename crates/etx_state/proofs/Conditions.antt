-- The open conditionals, the innermost first, are a stack turned round.
use Rattle.std.proofs.Common.{◌≡◌, ◌≢◌, ℕ, ◌+◌, ◌-◌, ◌<◌, ◌≤◌, ◌==◌, Bool, true, false, if◌then◌else◌, subst, List, [], ◌∷◌, ◌++◌, length, take, reverse, slice_get, refl, sym, ◌∙◌, ap, arith}
use Rattle.std.proofs.lemmas.Bool.Decides.{nat_tests}
use Rattle.std.proofs.lemmas.List.{reverse-append, take-append-le, take_all, length-append, length-reverse}
use Rattle.etx_state.specs.declared.condition.Condition.{Condition}
use Rattle.etx_state.specs.declared.condition.Branch.{Branch}
use Rattle.etx_state.specs.Conditions.{top_condition, without_top, with_branch}
use Rattle.etx_state.proofs.Stored.{cases, get_last}

pub condition_more : (old new : List Condition) (c : Condition) → new ≡ old ++ c ∷ [] → reverse new ≡ c ∷ reverse old
condition_more old new c e = ap reverse e ∙ reverse-append old (c ∷ [])

pub condition_top : (xs : List Condition) → slice_get xs (length xs - 1) ≡ top_condition (reverse xs)
unfolding top_condition
condition_top = cases (λ xs. slice_get xs (length xs - 1) ≡ top_condition (reverse xs)) refl (λ ys x.
    ap (slice_get (ys ++ x ∷ [])) (let e = length-append ys (x ∷ []) in omega arith) ∙ get_last ys x ∙ sym (ap top_condition (reverse-append ys (x ∷ []))))

rest_turned : (xs : List Condition) → reverse (take (length xs - 1) xs) ≡ without_top (reverse xs)
unfolding without_top
rest_turned = cases (λ xs. reverse (take (length xs - 1) xs) ≡ without_top (reverse xs)) refl (λ ys x.
    ap (λ (n : ℕ). reverse (take n (ys ++ x ∷ []))) (let e = length-append ys (x ∷ []) in omega arith)
    ∙ ap reverse (take-append-le (length ys) ys (x ∷ []) (omega arith) ∙ take_all (length ys) ys (omega arith))
    ∙ sym (ap without_top (reverse-append ys (x ∷ []))))

pub condition_fewer : (old new : List Condition) → new ≡ take (length old - 1) old → reverse new ≡ without_top (reverse old)
condition_fewer old new e = ap reverse e ∙ rest_turned old

-- ---- a branch of one of them

is_so : (m n : ℕ) → m ≡ n → (m == n) ≡ true
is_so m n e = grind (arith, nat_tests)

is_other : (m n : ℕ) → m ≢ n → (m == n) ≡ false
is_other m n e = grind (arith, nat_tests)

-- the innermost is the n-th from the outside
pub branch_here : (n : ℕ) (b : Branch) (old others new : List Condition) (c : Condition) → old ≡ others ++ c ∷ [] → length old ≡ n → new ≡ others ++ (record c { branch = b }) ∷ []
    → reverse new ≡ with_branch n b (reverse old)
unfolding with_branch
branch_here n b old others new c is count changed =
    let turned : reverse old ≡ c ∷ reverse others = condition_more others old c is in
    let long = length-append others (c ∷ []) in
    let back = length-reverse others in
    let same : length old ≡ length (others ++ c ∷ []) = ap length is in
    let here : (length (reverse others) + 1 == n) ≡ true = is_so (length (reverse others) + 1) n (omega (arith, long, back, same, count)) in
    rw (turned, here) (condition_more others new (record c { branch = b }) changed)

-- it is one further outside
pub branch_outside : (n : ℕ) (b : Branch) (old others inner new : List Condition) (c : Condition) → old ≡ others ++ c ∷ [] → length old ≢ n → reverse inner ≡ with_branch n b (reverse others) → new ≡ inner ++ c ∷ []
    → reverse new ≡ with_branch n b (reverse old)
unfolding with_branch
branch_outside n b old others inner new c is count changed put =
    let turned : reverse old ≡ c ∷ reverse others = condition_more others old c is in
    let long = length-append others (c ∷ []) in
    let back = length-reverse others in
    let same : length old ≡ length (others ++ c ∷ []) = ap length is in
    let off : (length (reverse others) + 1 == n) ≡ false = is_other (length (reverse others) + 1) n (λ e. count (omega (arith, long, back, same, e))) in
    rw (turned, off) (condition_more inner new c put ∙ ap (λ (cs : List Condition). c ∷ cs) changed)

-- there is none
pub branch_none : (n : ℕ) (b : Branch) (old new : List Condition) → old ≡ new ++ [] → (0 < length old → ⊥) → reverse new ≡ with_branch n b (reverse old)
unfolding with_branch
branch_none n b [] [] is none = refl
branch_none n b [] (c ∷ cs) is none = absurd (let no : [] ≡ c ∷ cs ++ [] = is in cc)
branch_none n b (c ∷ cs) new is none = absurd (none (omega arith))
