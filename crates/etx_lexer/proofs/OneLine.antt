-- Each text that isn't empty is a first line, its end and the rest in one way.
use Rattle.std.proofs.Common.{◌≡◌, ◌⊎◌, inl, inr, ℕ, ◌+◌, ◌<◌, Bool, true, false, cond, List, [], ◌∷◌, ◌++◌, length, drop, Option, Some, None, refl, sym, ◌∙◌, ap, subst, arith, length-append}
use Rattle.std.specs.Prelude.{◌==◌, ◌||◌, not, position, MatchOption}
use Rattle.std.specs.List.{position_or_len}
use Rattle.std.proofs.lemmas.Bool.Decides.{nat_tests}
use Rattle.std.proofs.lemmas.Bool.{eqb-true}
use Rattle.std.proofs.lemmas.List.{take_at, drop_at, drop-drop, append_assoc}
use Rattle.etx_lexer.specs.Splitting.{Split, without_return, split_at, first_line, ends_in_return, has_new_line, IsFirstLine, new_line, return_and_new_line, text_over}
use Rattle.etx_lexer.proofs.FirstLines.{split, first_line-some, first_line-nil}
use Rattle.etx_lexer.proofs.Ends.{without-return}

either_left : (a b : Bool) → (a || b) ≡ false → a ≡ false
either_left true b h = h
either_left false b h = refl

either_right : (a b : Bool) → (a || b) ≡ false → b ≡ false
either_right true b h = absurd (let no : true ≡ false = h in cc)
either_right false b h = h

neither : (a b : Bool) → a ≡ false → b ≡ false → (a || b) ≡ false
neither true b h g = h
neither false b h g = g

-- the first byte 10 stands right behind a line
place : (line rest : List ℕ) → has_new_line line ≡ false → position_or_len (λ b. b == 10) (line ++ 10 ∷ rest) ≡ length line
place [] rest h = refl
place (b ∷ line) rest h =
    ap (λ t. cond (not t) (1 + position_or_len (λ b. b == 10) (line ++ 10 ∷ rest)) 0) (either_left (b == 10) (has_new_line line) h)
    ∙ ap (λ n. 1 + n) (place line rest (either_right (b == 10) (has_new_line line) h))
    ∙ omega arith

no_place : (line : List ℕ) → has_new_line line ≡ false → position_or_len (λ b. b == 10) line ≡ length line
no_place [] h = refl
no_place (b ∷ line) h =
    ap (λ t. cond (not t) (1 + position_or_len (λ b. b == 10) line) 0) (either_left (b == 10) (has_new_line line) h)
    ∙ ap (λ n. 1 + n) (no_place line (either_right (b == 10) (has_new_line line) h))
    ∙ omega arith

found : (line rest : List ℕ) → has_new_line line ≡ false → position (λ b. b == 10) (line ++ 10 ∷ rest) ≡ Some (length line)
found line rest h =
    let at = place line rest h in
    let long = length-append line (10 ∷ rest) in
    let within : length line < length (line ++ 10 ∷ rest) = omega arith in
    grind (arith, nat_tests)

not_found : (line : List ℕ) → has_new_line line ≡ false → position (λ b. b == 10) line ≡ None
not_found line h = let at = no_place line h in grind (arith, nat_tests)

-- a line and its byte 10
cut : (line rest : List ℕ) → has_new_line line ≡ false → first_line (line ++ 10 ∷ rest) ≡ Some (split (without_return line) rest)
cut line rest h =
    let long = length-append line (10 ∷ rest) in
    let text = line ++ 10 ∷ rest in
    first_line-some text (omega arith)
    ∙ ap (λ o. Some (split_at text o)) (found line rest h)
    ∙ ap (λ start. Some (split (without_return start) (drop (length line + 1) text))) (take_at line (10 ∷ rest) (length line) refl)
    ∙ ap (λ behind. Some (split (without_return line) behind)) (sym (drop-drop 1 (length line) text) ∙ ap (drop 1) (drop_at line (10 ∷ rest) (length line) refl))

kept : (line : List ℕ) → ends_in_return line ≡ false → without_return line ≡ line
unfolding without_return ends_in_return
kept [] h = refl
kept (b ∷ []) h = ap (λ t. cond t [] (b ∷ [])) h
kept (b ∷ c ∷ rest) h = ap (◌∷◌ b) (kept (c ∷ rest) h)

with_return : (line : List ℕ) → has_new_line line ≡ false → has_new_line (line ++ 13 ∷ []) ≡ false
with_return [] h = refl
with_return (b ∷ line) h = neither (b == 10) (has_new_line (line ++ 13 ∷ [])) (either_left (b == 10) (has_new_line line) h) (with_return line (either_right (b == 10) (has_new_line line) h))

before_return : (line : List ℕ) → has_new_line (line ++ 13 ∷ []) ≡ false → has_new_line line ≡ false
before_return [] h = refl
before_return (b ∷ line) h =
    neither (b == 10) (has_new_line line) (either_left (b == 10) (has_new_line (line ++ 13 ∷ [])) h) (before_return line (either_right (b == 10) (has_new_line (line ++ 13 ∷ [])) h))

-- a text that is over behind its line
whole : (b : ℕ) (line : List ℕ) → has_new_line (b ∷ line) ≡ false → first_line (b ∷ line) ≡ Some (split (b ∷ line) [])
whole b line h = first_line-some (b ∷ line) (omega arith) ∙ ap (λ o. Some (split_at (b ∷ line) o)) (not_found (b ∷ line) h)

cut_at_return : (line rest : List ℕ) → has_new_line line ≡ false → first_line (line ++ 13 ∷ 10 ∷ rest) ≡ Some (split line rest)
cut_at_return line rest h =
    ap first_line (sym (append_assoc line (13 ∷ []) (10 ∷ rest)))
    ∙ cut (line ++ 13 ∷ []) rest (with_return line h)
    ∙ ap (λ start. Some (split start rest)) (without-return line)

pub only_line : {text line rest : List ℕ} → IsFirstLine line rest text → first_line text ≡ Some (split line rest)
only_line (new_line {line} {rest} h e) = cut line rest h ∙ ap (λ start. Some (split start rest)) (kept line e)
only_line (return_and_new_line {line} {rest} h) = cut_at_return line rest h
only_line (text_over {b} {line} h) = whole b line h

-- a text has no byte 10, or it is what stands before its first one, that byte, and the rest
HasCut : List ℕ → Type 0
HasCut text = (line : List ℕ) × (rest : List ℕ) × (has_new_line line ≡ false) × (text ≡ line ++ 10 ∷ rest)

cuts_by : (b : ℕ) (bs : List ℕ) (t : Bool) → (b == 10) ≡ t → (has_new_line bs ≡ false) ⊎ HasCut bs → (has_new_line (b ∷ bs) ≡ false) ⊎ HasCut (b ∷ bs)
unfolding HasCut
cuts_by b bs true e more = inr ([], bs, refl, ap (λ c. c ∷ bs) (eqb-true b 10 e))
cuts_by b bs false e (inl none) = inl (neither (b == 10) (has_new_line bs) e none)
cuts_by b bs false e (inr found) = inr (b ∷ found.0, found.1, neither (b == 10) (has_new_line found.0) e found.2, ap (◌∷◌ b) found.3)

cuts : (text : List ℕ) → (has_new_line text ≡ false) ⊎ HasCut text
cuts [] = inl refl
cuts (b ∷ bs) = cuts_by b bs (b == 10) refl (cuts bs)

-- a line that ends in a byte 13 is what stands before it, and that byte
HasReturn : List ℕ → Type 0
HasReturn line = (start : List ℕ) × (line ≡ start ++ 13 ∷ [])

returns_by : (b : ℕ) (t : Bool) → (b == 13) ≡ t → (ends_in_return (b ∷ []) ≡ false) ⊎ HasReturn (b ∷ [])
unfolding ends_in_return HasReturn
returns_by b true e = inr ([], ap (λ c. c ∷ []) (eqb-true b 13 e))
returns_by b false e = inl e

returns_behind : (b c : ℕ) (rest : List ℕ) → (ends_in_return (c ∷ rest) ≡ false) ⊎ HasReturn (c ∷ rest) → (ends_in_return (b ∷ c ∷ rest) ≡ false) ⊎ HasReturn (b ∷ c ∷ rest)
unfolding ends_in_return HasReturn
returns_behind b c rest (inl h) = inl h
returns_behind b c rest (inr found) = inr (b ∷ found.0, ap (◌∷◌ b) found.1)

returns : (line : List ℕ) → (ends_in_return line ≡ false) ⊎ HasReturn line
unfolding ends_in_return
returns [] = inl refl
returns (b ∷ []) = returns_by b (b == 13) refl
returns (b ∷ c ∷ rest) = returns_behind b c rest (returns (c ∷ rest))

Is : List ℕ → Option Split → Type 0
Is text found = MatchOption found (text ≡ []) (λ split. IsFirstLine split.line split.rest text)

told : (text line rest : List ℕ) → IsFirstLine line rest text → Is text (first_line text)
unfolding Is
told text line rest is = subst (Is text) (sym (only_line is)) is

told_by : (text line rest : List ℕ) → has_new_line line ≡ false → text ≡ line ++ 10 ∷ rest → (ends_in_return line ≡ false) ⊎ HasReturn line → Is text (first_line text)
unfolding HasReturn
told_by text line rest h same (inl e) = told text line rest (subst (λ t. IsFirstLine line rest t) (sym same) (new_line h e))
told_by text line rest h same (inr found) =
    let start = found.0 in
    let whole : text ≡ start ++ 13 ∷ 10 ∷ rest = same ∙ ap (λ l. l ++ 10 ∷ rest) found.1 ∙ append_assoc start (13 ∷ []) (10 ∷ rest) in
    let none : has_new_line start ≡ false = before_return start (sym (ap has_new_line found.1) ∙ h) in
    told text start rest (subst (λ t. IsFirstLine start rest t) (sym whole) (return_and_new_line none))

one_by : (text : List ℕ) → (has_new_line text ≡ false) ⊎ HasCut text → Is text (first_line text)
unfolding HasCut Is
one_by [] (inl h) = subst (Is []) (sym first_line-nil) refl
one_by (b ∷ bs) (inl h) = told (b ∷ bs) (b ∷ bs) [] (text_over h)
one_by text (inr found) = told_by text found.0 found.1 found.2 found.3 (returns found.0)

pub one_line : (text : List ℕ) → MatchOption (first_line text) (text ≡ []) (λ split. IsFirstLine split.line split.rest text)
unfolding Is
one_line text = one_by text (cuts text)
