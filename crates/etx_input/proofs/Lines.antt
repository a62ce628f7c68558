-- The lines of a text, and what is lexed over them.
use Rattle.std.proofs.Common.{◌≡◌, ℕ, zero, suc, ◌+◌, ◌-◌, ℤ, ◌<◌, ◌≤◌, List, [], ◌∷◌, ◌++◌, length, take, drop, Option, Some, None, IfSome, MatchOption, refl, sym, ◌∙◌, ap, subst, arith}
use Rattle.std.specs.Option.{option_to_list}
use Rattle.std.proofs.lemmas.List.{take-take}
use Rattle.etx_lexer.specs.Splitting.{Split, first_line}
use Rattle.etx_lexer.proofs.FirstLines.{rest_is_shorter}
use Rattle.etx_lexer.specs.Lex.{Lex, lexed_of}
use Rattle.etx_lexer.specs.Places.{line_of, trimmed, end_of_line}
use Rattle.etx_lexer.specs.declared.lexed.Lexed.{Lexed}
use Rattle.etx_lexer.specs.declared.lexed.Lexed.TheVariants.{Char, Name, LineEnd, Invalid}
use Rattle.etx_lexer.specs.declared.place.LineState.TheVariants.{New}
use Rattle.etx_input.specs.Files.{FileState, line_read, Got, behind, got_or_more, got_in, got_of, first_and_more, lines_within, lines_of, line_within}

-- ---- the lines of a text

first_same : (o : Option Split) (f g : List ℕ → List (List ℕ)) → ((s : Split) → o ≡ Some s → f s.rest ≡ g s.rest) → first_and_more o f ≡ first_and_more o g
first_same None f g same = refl
first_same (Some s) f g same = ap (λ (ls : List (List ℕ)). s.line ∷ ls) (same s refl)

-- more lines than a text can have are not needed
within_more : (n m : ℕ) (text : List ℕ) → length text ≤ n → n ≤ m → lines_within m text ≡ lines_within n text
unfolding first_line
within_more zero zero text short less = refl
within_more zero (suc m) [] short less = refl
within_more zero (suc m) (b ∷ text) short less = absurd (omega (arith, short))
within_more (suc n) zero text short less = absurd (omega (arith, less))
within_more (suc n) (suc m) text short less = first_same (first_line text) (lines_within m) (lines_within n) (λ s is.
    let shorter : length s.rest < length text = subst (λ (o : Option Split). IfSome o (λ split. length split.rest < length text)) is (rest_is_shorter text) in
    within_more n m s.rest (omega (arith, shorter, short)) (omega (arith, less)))

pub lines_of-none : (text : List ℕ) → first_line text ≡ None → lines_of text ≡ []
unfolding lines_of
lines_of-none [] none = refl
lines_of-none (b ∷ text) none = ap (λ (o : Option Split). first_and_more o (lines_within (length text))) none

pub lines_of-some : (text : List ℕ) (s : Split) → first_line text ≡ Some s → lines_of text ≡ s.line ∷ lines_of s.rest
unfolding lines_of first_line
lines_of-some [] s is = absurd (let no : None ≡ Some s = is in cc)
lines_of-some (b ∷ text) s is =
    let shorter : length s.rest < length (b ∷ text) = subst (λ (o : Option Split). IfSome o (λ split. length split.rest < length (b ∷ text))) is (rest_is_shorter (b ∷ text)) in
    ap (λ (o : Option Split). first_and_more o (lines_within (length text))) is
    ∙ ap (λ (ls : List (List ℕ)). s.line ∷ ls) (within_more (length s.rest) (length text) s.rest (omega arith) (omega (arith, shorter)))

-- ---- a line that is kept as bytes of the text and a character behind them

-- the character that \endlinechar gives
pub end_is : (o : Option ℕ) (end : List ℕ) → MatchOption o (end ≡ []) (λ c. end ≡ c ∷ []) → option_to_list o ≡ end
end_is None end is = sym is
end_is (Some c) end is = sym is

-- without the spaces at its end
pub line_kept : (text : List ℕ) (start long kept : ℕ) (end : Option ℕ) (endline : ℤ) → kept ≤ long → take kept (take long (drop start text)) ≡ trimmed (take long (drop start text)) → option_to_list end ≡ end_of_line endline → line_within text start (start + kept) end ≡ line_of (take long (drop start text)) endline
line_kept text start long kept end endline small cut is =
    ap (λ (n : ℕ). take n (drop start text) ++ option_to_list end) (omega arith)
    ∙ ap (λ (ts : List ℕ). ts ++ option_to_list end) (sym (take-take kept long (drop start text) small) ∙ cut)
    ∙ ap (λ (e : List ℕ). trimmed (take long (drop start text)) ++ e) is

pub line_empty : (text : List ℕ) (end : Option ℕ) (endline : ℤ) → option_to_list end ≡ end_of_line endline → line_within text 0 0 end ≡ line_of [] endline
unfolding trimmed
line_empty text end endline is = is

-- ---- what is lexed over the lines

-- a lexed thing that is no end of a line is what is got
got_is : (l : Lexed) (file : FileState) (more : Got) → (l ≡ LineEnd → ⊥) → got_or_more l file more ≡ record { lexed = Some l; file = file }
got_is (Char code cat) file more other = refl
got_is (Name name) file more other = refl
got_is LineEnd file more other = absurd (other refl)
got_is (Invalid code) file more other = refl

module _ (cats : ℕ → ℕ) (endline : ℤ) (v : FileState) where
  abbrev x : Lex
  x = lexed_of cats v.line v.state

  -- something was lexed
  pub got_of-got : (x.lexed ≡ LineEnd → ⊥) → got_of cats endline v ≡ record { lexed = Some x.lexed; file = behind x v.number v.lines }
  unfolding got_of
  got_of-got other = by v.lines
    where
      by : (lines : List (List ℕ)) → got_in cats endline v.line v.state v.number lines ≡ record { lexed = Some x.lexed; file = behind x v.number lines }
      by [] = got_is x.lexed (behind x v.number []) (record { lexed = None; file = behind x v.number [] }) other
      by (l ∷ ls) = got_is x.lexed (behind x v.number (l ∷ ls)) (got_in cats endline (line_of l endline) New (v.number + 1) ls) other

  -- the line was over, and it was the last one
  pub got_of-over : x.lexed ≡ LineEnd → v.lines ≡ [] → got_of cats endline v ≡ record { lexed = None; file = behind x v.number [] }
  unfolding got_of
  got_of-over line_end none =
      ap (got_in cats endline v.line v.state v.number) none
      ∙ ap (λ (l : Lexed). got_or_more l (behind x v.number []) (record { lexed = None; file = behind x v.number [] })) line_end

  -- the line was over, and the next is read
  pub got_of-line : (l : List ℕ) (ls : List (List ℕ)) → x.lexed ≡ LineEnd → v.lines ≡ l ∷ ls → got_of cats endline v ≡ got_of cats endline (line_read endline l v.number ls)
  unfolding got_of
  got_of-line l ls line_end more =
      ap (got_in cats endline v.line v.state v.number) more
      ∙ ap (λ (e : Lexed). got_or_more e (behind x v.number (l ∷ ls)) (got_in cats endline (line_of l endline) New (v.number + 1) ls)) line_end
