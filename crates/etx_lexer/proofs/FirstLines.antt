-- The first line of what is left of a text.
use Rattle.std.proofs.Common.{◌≡◌, ℕ, ◌+◌, ◌-◌, ◌<◌, ◌≤◌, List, [], ◌∷◌, length, take, drop, Option, Some, None, IfSome, refl, sym, ◌∙◌, ap, arith, length-drop}
use Rattle.std.specs.Prelude.{position, ◌==◌}
use Rattle.std.proofs.lemmas.List.{drop_all, drop-drop, take-take, take_rest}
use Rattle.etx_lexer.specs.Splitting.{Split, without_return, split_at, first_line}

abbrev pub split : List ℕ → List ℕ → Split
split line rest = record { line = line; rest = rest }

pub first_line-nil : first_line [] ≡ None
unfolding first_line
first_line-nil = refl

pub first_line-some : (text : List ℕ) → 0 < length text → first_line text ≡ Some (split_at text (position (λ x. x == 10) text))
unfolding first_line
first_line-some [] h = absurd (omega arith)
first_line-some (b ∷ rest) h = refl

-- nothing is left
pub no_line : (text : List ℕ) (from : ℕ) → length text ≤ from → first_line (drop from text) ≡ None
no_line text from h = ap first_line (drop_all from text h) ∙ first_line-nil

abbrev left : List ℕ → ℕ → List ℕ
left text from = take (length text - from) (drop from text)

-- all that is left is the line
pub last_line : (text : List ℕ) (from : ℕ) → from < length text → position (λ x. x == 10) (left text from) ≡ None → first_line (drop from text) ≡ Some (split (left text from) (drop (length text) text))
last_line text from h none =
    first_line-some (drop from text) (simp length-drop (omega arith))
    ∙ ap (λ rest. Some (split_at (drop from text) (position (λ x. x == 10) rest))) (sym (take_rest text from))
    ∙ ap (λ o. Some (split_at (drop from text) o)) none
    ∙ ap Some (ap (λ line. split line []) (sym (take_rest text from)) ∙ ap (split (left text from)) (sym (drop_all (length text) text (omega arith))))

-- the line ends at a byte 10
pub ended_line : (text : List ℕ) (from k kept : ℕ) → from < length text → position (λ x. x == 10) (left text from) ≡ Some k → take kept (take k (left text from)) ≡ without_return (take k (left text from)) → kept ≤ k → first_line (drop from text) ≡ Some (split (take (from + kept - from) (drop from text)) (drop (from + k + 1) text))
ended_line text from k kept h some line small =
    let shift : from + kept - from ≡ kept = omega arith in
    let further : k + 1 + from ≡ from + k + 1 = omega arith in
    first_line-some (drop from text) (simp length-drop (omega arith))
    ∙ ap (λ rest. Some (split_at (drop from text) (position (λ x. x == 10) rest))) (sym (take_rest text from))
    ∙ ap (λ o. Some (split_at (drop from text) o)) some
    ∙ ap (λ rest. Some (split (without_return (take k rest)) (drop (k + 1) (drop from text)))) (sym (take_rest text from))
    ∙ ap (λ line. Some (split line (drop (k + 1) (drop from text)))) (sym line ∙ take-take kept k (left text from) small ∙ ap (take kept) (take_rest text from) ∙ ap (λ n. take n (drop from text)) (sym shift))
    ∙ ap (λ rest. Some (split (take (from + kept - from) (drop from text)) rest)) (drop-drop (k + 1) from text ∙ ap (λ n. drop n text) (omega arith))

split_is_shorter : (text : List ℕ) (end : Option ℕ) → 0 < length text → length (split_at text end).rest < length text
split_is_shorter text None h = omega arith
split_is_shorter text (Some k) h = simp length-drop (omega arith)

-- behind the first line less is left than the text
pub rest_is_shorter : (text : List ℕ) → IfSome (first_line text) (λ split. length split.rest < length text)
unfolding first_line
rest_is_shorter [] = tt
rest_is_shorter (b ∷ rest) = split_is_shorter (b ∷ rest) (position (λ x. x == 10) (b ∷ rest)) (omega arith)
