-- The argument that a text gives.
use Rattle.std.proofs.Common.{◌≡◌, ℕ, zero, suc, ◌≤◌, ◌-◌, Bool, true, false, ◌&&◌, cond, List, [], ◌∷◌, Option, Some, None, inl, inr, length, get_or, refl, sym, ap, ◌∙◌, arith}
use Rattle.std.proofs.lemmas.Bool.{false≢true}
use Rattle.etx_matter.specs.declared.token.Token.{Token}
use Rattle.etx_matter.specs.declared.token.Token.TheVariants.{Char}
use Rattle.etx_macros.specs.Marks.{has_category, depth_of}
use Rattle.etx_macros.specs.Calls.{IsGroup, inner_of, Gives}
use Rattle.etx_macros.specs.Feeding.{is_zero, is_group, argument_of}
use Rattle.etx_macros.proofs.Depths.{group_opens, group_closes, group_inside, group_from}
use Rattle.etx_macros.proofs.Delimiters.{left_not_right}

zero_there : (o : Option ℕ) → is_zero o ≡ true → o ≡ Some 0
zero_there None e = absurd (false≢true e)
zero_there (Some zero) e = refl
zero_there (Some (suc n)) e = absurd (false≢true e)

zero_back : (o : Option ℕ) → o ≡ Some 0 → is_zero o ≡ true
zero_back o e = ap is_zero e

all_three : (a b c : Bool) → (a && b && c) ≡ true → (a ≡ true) × (b ≡ true) × (c ≡ true)
all_three true true true e = (refl, refl, refl)
all_three true true false e = absurd (false≢true e)
all_three true false c e = absurd (false≢true e)
all_three false b c e = absurd (false≢true e)

three_hold : (a b c : Bool) → a ≡ true → b ≡ true → c ≡ true → (a && b && c) ≡ true
three_hold a b c e f g = cc

-- a text with a left brace first and a right one last has two tokens
two_tokens : (text : List Token) → has_category (get_or text 0 (Char 0 0)) 1 ≡ true → has_category (get_or text (length text - 1) (Char 0 0)) 2 ≡ true → 2 ≤ length text
two_tokens [] o c = absurd (false≢true o)
two_tokens (x ∷ []) o c = absurd (left_not_right x o c)
two_tokens (x ∷ y ∷ ys) o c = omega arith

pub group_there : (text : List Token) → is_group text ≡ true → IsGroup text (inner_of text)
group_there text e =
    let h = all_three (has_category (get_or text 0 (Char 0 0)) 1) (has_category (get_or text (length text - 1) (Char 0 0)) 2) (is_zero (depth_of (inner_of text))) e in
    group_from text (Char 0 0) (two_tokens text h.0 h.1) h.0 h.1 (zero_there (depth_of (inner_of text)) h.2)

pub group_back : (text inner : List Token) → IsGroup text inner → is_group text ≡ true
group_back text inner g =
    three_hold (has_category (get_or text 0 (Char 0 0)) 1) (has_category (get_or text (length text - 1) (Char 0 0)) 2) (is_zero (depth_of (inner_of text)))
    (group_opens text inner (Char 0 0) g) (group_closes text inner (Char 0 0) g) (zero_back (depth_of (inner_of text)) (group_inside text inner g))

pub argument_gives : (text : List Token) → Gives text (argument_of text)
argument_gives text = elim (is_group text) as (λ b. is_group text ≡ b → Gives text (cond b (inner_of text) text)) [
  | true ↦ λ e. inl (group_there text e)
  | false ↦ λ e. inr (λ inner g. false≢true (sym e ∙ group_back text inner g), refl)
] refl

pub argument_inside : (text : List Token) → IsGroup text (inner_of text) → argument_of text ≡ inner_of text
argument_inside text g = ap (λ b. cond b (inner_of text) text) (group_back text (inner_of text) g)

pub argument_whole : (text : List Token) → ((inner : List Token) → IsGroup text inner → ⊥) → argument_of text ≡ text
argument_whole text never = elim (is_group text) as (λ b. is_group text ≡ b → cond b (inner_of text) text ≡ text) [
  | true ↦ λ e. absurd (never (inner_of text) (group_there text e))
  | false ↦ λ e. refl
] refl
