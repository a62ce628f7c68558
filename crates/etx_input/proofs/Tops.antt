-- The innermost level is the last one of a stack.
use Rattle.std.proofs.lemmas.Bool.Decides.{nat_tests}
use Rattle.std.proofs.Common.{◌≡◌, ◌-◌, ◌<◌, ◌≤◌, ℕ, suc, Bool, true, false, nat_lt, List, [], ◌∷◌, Some, length, get_or, set, take, reverse, refl, sym, ap, ◌∙◌, arith}
use Rattle.std.specs.List.{slice_get}
use Rattle.std.proofs.Math.ListN.{length-set}
use Rattle.std.proofs.lemmas.Option.{get_or_from_slice_get, slice_get_within}
use Rattle.etx_stack.specs.Undoing.{Stacked, is_free, with_last}
use Rattle.etx_input.specs.declared.level.Level.{Level}
use Rattle.etx_input.specs.declared.level.Level.TheVariants as level
use Rattle.etx_input.specs.Gifts.{number_left, left_next, innermost_left}
use Rattle.etx_input.specs.Levels.{InputState, reading, list_level}
use Rattle.etx_input.specs.Runs.{level_is_over, list_unless_over, unless_over}
use Rattle.etx_input.specs.Lists.{is_empty}
use Rattle.etx_matter.specs.declared.token.Token.{Token}
use Rattle.etx_input.proofs.Ends.{all-but-last, changed}

-- the levels below the innermost one
abbrev pub below : List Level → List Level
below xs = reverse (take (length xs - 1) xs)

counted : (xs : List Level) → 0 < length xs → suc (length xs - 1) ≡ length xs
counted xs some = omega arith

pub some_by : (xs : List Level) (l : Level) → slice_get xs (length xs - 1) ≡ Some l → 0 < length xs
some_by xs l is = let within = slice_get_within xs (length xs - 1) l is in omega arith

-- the innermost one is the last
pub top : (xs : List Level) (l : Level) → slice_get xs (length xs - 1) ≡ Some l → reverse xs ≡ l ∷ below xs
top xs l is =
    all-but-last xs (length xs - 1) l (counted xs (some_by xs l is))
    ∙ ap (λ (k : Level). k ∷ below xs) (get_or_from_slice_get xs (length xs - 1) l l is)

pub top_or : (xs : List Level) (l : Level) → slice_get xs (length xs - 1) ≡ Some l → l ≡ get_or xs (length xs - 1) l
top_or xs l is = sym (get_or_from_slice_get xs (length xs - 1) l l is)

pub all_counted : (xs : List Level) (l : Level) → slice_get xs (length xs - 1) ≡ Some l → suc (length xs - 1) ≡ length xs
all_counted xs l is = counted xs (some_by xs l is)

-- another takes its place
pub other : (xs : List Level) (new : Level) → 0 < length xs → reverse (set xs (length xs - 1) new) ≡ new ∷ below xs
other xs new some = changed xs (length xs - 1) new (counted xs some)

pub none_left : (xs : List Level) → (0 < length xs → ⊥) → reverse xs ≡ []
none_left [] none = refl
none_left (x ∷ xs) none = absurd (none (omega arith))

pub free_some : (s : Stacked Level) → is_free s ≡ true → 0 < length s.items
free_some s free = grind (arith, nat_tests)

pub free_still : (s : Stacked Level) (l : Level) → is_free s ≡ true → is_free (with_last s l) ≡ true
free_still s l free = ap (λ (n : ℕ). nat_lt s.guard n) (length-set s.items (length s.items - 1) l) ∙ free

-- without the innermost one
abbrev behind : List Level → List Level
behind [] = []
behind (l ∷ ls) = ls

without : (xs : List Level) → below xs ≡ behind (reverse xs)
without [] = refl
without (x ∷ xs) = sym (ap behind (all-but-last (x ∷ xs) (length (x ∷ xs) - 1) x (counted (x ∷ xs) (omega arith))))

left_by : (ls : List Level) (left : ℕ) → reading (behind ls) (left_next ls left) ≡ innermost_left ls left
left_by [] left = refl
left_by (l ∷ ls) left = refl

-- the innermost one is left
pub left : (xs ys : List Level) (n m : ℕ) → ys ≡ take (length xs - 1) xs → m ≡ left_next (reverse xs) n → reading (reverse ys) m ≡ innermost_left (reverse xs) n
left xs ys n m taken next =
    ap (λ (ls : List Level). reading (reverse ls) m) taken
    ∙ ap (λ (ls : List Level). reading ls m) (without xs)
    ∙ ap (reading (behind (reverse xs))) next
    ∙ left_by (reverse xs) n

-- another took its place, and is taken off
pub dropped : (xs : List Level) (new : Level) → 0 < length xs → below (set xs (length xs - 1) new) ≡ below xs
dropped xs new some = without (set xs (length xs - 1) new) ∙ ap behind (other xs new some)

-- a list of which nothing is left is left
pub over : (l : Level) (ls : List Level) → level_is_over l ≡ true → ls ≡ unless_over l ls
over (level.File f) ls is = absurd (let no : false ≡ true = is in cc)
over (level.List list) ls is = go list.rest is
  where
    go : (ts : List Token) → is_empty ts ≡ true → ls ≡ list_unless_over ts list.origin ls
    go [] is = refl
    go (t ∷ ts) is = absurd (let no : false ≡ true = is in cc)

pub not_over : (l : Level) (ls : List Level) → level_is_over l ≡ false → l ∷ ls ≡ unless_over l ls
not_over (level.File f) ls is = refl
not_over (level.List list) ls is = go list.rest is
  where
    go : (ts : List Token) → is_empty ts ≡ false → list_level ts list.origin ∷ ls ≡ list_unless_over ts list.origin ls
    go [] is = absurd (let no : true ≡ false = is in cc)
    go (t ∷ ts) is = refl
